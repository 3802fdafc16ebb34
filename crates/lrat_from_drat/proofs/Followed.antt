-- An LRAT proof follows the clauses that stand: through an addition by its line, through that of a tautology, which has none, and through
-- deletions. The law on live clauses is given.
use Rattle.std.proofs.Common.{◌≡◌, ℕ, ◌+◌, ◌<◌, ◌≤◌, true, false, cond, ℤ, List, [], ◌∷◌, ◌++◌, length, set, None}
use Rattle.std.proofs.Common.{Some}
use Rattle.std.proofs.Common.{if◌then◌else◌, refl, sym, ap, ◌∙◌, arith, nat_cmp, eqb-true, eq-eqb, ne_eqb, length-append, length-set}
use Rattle.std.proofs.Common.{◌==◌, inl, inr}
use Rattle.std.specs.Ordering.{eq_by_cmp}
use Rattle.std.specs.Cmp.{unsigned_tied}
use Rattle.std.specs.FinMap as map
use Rattle.std.proofs.Math.ListN.{get_or-append}
use Rattle.std.proofs.Math.Seq.{get_or-append_seam, get_or-set_other}
use Rattle.std.proofs.lemmas.Bool.{and_from, cases_lt}
use Rattle.std.proofs.lemmas.Cmp.{nat_cmp_total}
use Rattle.std.proofs.lemmas.List.{get_or-set_same, get_or_past}
use Rattle.cnf_base.specs.declared.list.Group.{Group}
use Rattle.cnf_base.specs.declared.step.Step.{Step}
use Rattle.cnf_base.specs.declared.step.Step.TheVariants.{Add, Delete}
use Rattle.cnf_base.specs.ProofText.{is_printable}
use Rattle.lrat_rules.specs.State.{State, Live, clause_at, with_clause}
use Rattle.lrat_rules.specs.Run.{after_step, judge_step, run, step_fault}
use Rattle.drat_checker.specs.Places.{Places, place_at}
use Rattle.drat_checker.specs.Hints.{is_tautology, plain}
use Rattle.drat_checker.specs.Lines.{IsGoodLine}
use Rattle.lrat_from_drat.specs.Following.{Follows, Leads, is_exact_step}

abbrev pub LiveLaw : Type 0
LiveLaw = (live : Live) (id other : ℕ) (clause : List ℤ) → clause_at (with_clause live id clause) other
    ≡ (if other == id then Some clause else clause_at live other)

-- one good step
pub leads-one : (before : State) (step : Step) → step_fault before step ≡ None → is_exact_step before step ≡ true
    → is_printable step ≡ true → Leads before (after_step before step) (step ∷ [])
leads-one before step good exact printable = record {
  reached = λ line. ap (judge_step before line (λ s. run s []) step) good;
  exact = and_from _ _ exact refl;
  printable = and_from _ _ printable refl;
}

pub leads-none : (state : State) → Leads state state []
leads-none state = record { reached = λ line. refl; exact = refl; printable = refl }

-- one clause more
place-old : (places : Places) (clause : List ℤ) (n : ℕ) → n < length places → place_at (places ++ Some clause ∷ []) n ≡ place_at places n
place-old places clause n within = get_or-append places (Some clause ∷ []) None n within

place-new : (places : Places) (clause : List ℤ) → place_at (places ++ Some clause ∷ []) (length places) ≡ Some clause
place-new places clause = get_or-append_seam places (Some clause) [] None

place-beyond : (places : Places) (clause : List ℤ) (n : ℕ) → length places < n → place_at (places ++ Some clause ∷ []) n ≡ None
place-beyond places clause n above =
    get_or_past (places ++ Some clause ∷ []) n None (omega (arith, above, length-append places (Some clause ∷ [])))

not-within : (places : Places) (n : ℕ) → length places ≤ n → place_at places n ≡ None
not-within places n past = get_or_past places n None past

plain-of : (clause : List ℤ) → is_tautology clause ≡ false → plain (Some clause) ≡ Some clause
plain-of clause fails = ap (λ b. if b then None else Some clause) fails

none-of : (clause : List ℤ) → is_tautology clause ≡ true → plain (Some clause) ≡ None
none-of clause is = ap (λ b. if b then None else Some clause) is

module _ (law : LiveLaw) (state : State) (places : Places) (f : Follows state places) (clause : List ℤ) where
  abbrev number : ℕ
  number = length places + 1

  -- the clause is put under its number
  pub follows-added : is_tautology clause ≡ false
      → Follows (record { live = with_clause state.live number clause; top = number }) (places ++ Some clause ∷ [])
  follows-added fails = record {
    live = record {
      same = λ n. law state.live number (n + 1) clause ∙ elim (cases_lt n (length places)) [
        | inl old ↦
            ap (λ b. if b then Some clause else clause_at state.live (n + 1)) (ne_eqb (n + 1) number (λ e. omega (arith, old, e)))
            ∙ f.live.same n ∙ ap plain (sym (place-old places clause n old))
        | inr new ↦ elim (cases_lt (length places) n) [
          | inl beyond ↦
              ap (λ b. if b then Some clause else clause_at state.live (n + 1)) (ne_eqb (n + 1) number (λ e. omega (arith, beyond, e)))
              ∙ f.live.same n ∙ ap plain (not-within places n new) ∙ ap plain (sym (place-beyond places clause n beyond))
          | inr at ↦
              let here : n ≡ length places = omega (arith, new, at) in
              ap (λ b. if b then Some clause else clause_at state.live (n + 1)) (eq-eqb (n + 1) number (ap (λ k. k + 1) here))
              ∙ sym (ap (λ k. plain (place_at (places ++ Some clause ∷ []) k)) here ∙ ap plain (place-new places clause)
              ∙ plain-of clause fails)
        ]
      ];
      none_at_zero = law state.live number 0 clause
          ∙ ap (λ b. if b then Some clause else clause_at state.live 0) (ne_eqb 0 number (λ e. omega (arith, e)))
          ∙ f.live.none_at_zero;
    };
    top = omega (arith, length-append places (Some clause ∷ []));
  }

  -- a tautology gets none
  pub follows-tautology : is_tautology clause ≡ true → Follows state (places ++ Some clause ∷ [])
  follows-tautology is = record {
    live = record {
      same = λ n. f.live.same n ∙ elim (cases_lt n (length places)) [
        | inl old ↦ ap plain (sym (place-old places clause n old))
        | inr new ↦ elim (cases_lt (length places) n) [
          | inl beyond ↦ ap plain (not-within places n new ∙ sym (place-beyond places clause n beyond))
          | inr at ↦
              let here : n ≡ length places = omega (arith, new, at) in
              ap plain (not-within places n new)
              ∙ sym (ap (λ k. plain (place_at (places ++ Some clause ∷ []) k)) here ∙ ap plain (place-new places clause) ∙ none-of clause
              is)
        ]
      ];
      none_at_zero = f.live.none_at_zero;
    };
    top = omega (arith, f.top, length-append places (Some clause ∷ []));
  }

  -- the addition by its line
  pub leads-added : (hints : List ℕ) (groups : List Group) → IsGoodLine places clause hints groups
      → is_printable (Add number clause hints groups) ≡ true
      → Leads state (record { live = with_clause state.live number clause; top = number }) (Add number clause hints groups ∷ [])
  leads-added hints groups good printable =
      leads-one state (Add number clause hints groups) (good.good state number f.live (omega (arith, f.top)))
      (good.exact state.live f.live) printable

no-eqb : (n m : ℕ) → (n == m) ≡ false → n ≡ m → ⊥
no-eqb n m e same = let t : (n == m) ≡ true = eq-eqb n m same in cc

-- a clause goes
module _ (state : State) (places : Places) (f : Follows state places) (number : ℕ) where
  apart : (n : ℕ) → (n ≡ number → ⊥) → eq_by_cmp nat_cmp (n + 1) (number + 1) ≡ false
  apart n other = unsigned_tied (n + 1) (number + 1) ∙ ne_eqb (n + 1) (number + 1) (λ e. other (omega (arith, e)))

  place-gone : (n : ℕ) → (n ≡ number → ⊥) → place_at (set places number None) n ≡ place_at places n
  place-gone n other = get_or-set_other places number n None None other

  place-none : place_at (set places number None) number ≡ None
  place-none = elim (cases_lt number (length places)) [
    | inl within ↦ get_or-set_same places number None None within
    | inr past ↦ get_or_past (set places number None) number None (omega (arith, past, length-set places number None))
  ]

  pub follows-deleted : Follows (record { live = map.remove state.live (number + 1); top = state.top }) (set places number None)
  follows-deleted = record {
    live = record {
      same = λ n. map.get-remove nat_cmp_total state.live (number + 1) (n + 1) ∙ elim (n == number)
          as (λ b. (n == number) ≡ b → cond (eq_by_cmp nat_cmp (n + 1) (number + 1)) None (clause_at state.live (n + 1))
          ≡ plain (place_at (set places number None) n)) [
            | true ↦ λ e.
                let here : n ≡ number = eqb-true n number e in
                ap (λ b. cond b None (clause_at state.live (n + 1)))
                (unsigned_tied (n + 1) (number + 1) ∙ eq-eqb (n + 1) (number + 1) (ap (λ k. k + 1) here))
                ∙ sym (ap (λ k. plain (place_at (set places number None) k)) here ∙ ap plain place-none)
            | false ↦ λ e.
                let other : n ≡ number → ⊥ = λ same. absurd (no-eqb n number e same) in
                ap (λ b. cond b None (clause_at state.live (n + 1))) (apart n other) ∙ f.live.same n ∙ ap plain (sym (place-gone n other))
          ] refl;
      none_at_zero = map.get-remove nat_cmp_total state.live (number + 1) 0
          ∙ ap (λ b. cond b None (clause_at state.live 0))
          (unsigned_tied 0 (number + 1) ∙ ne_eqb 0 (number + 1) (λ e. omega (arith, e)))
          ∙ f.live.none_at_zero;
    };
    top = omega (arith, f.top, length-set places number None);
  }

  pub follows-gone : (own : List ℤ) → place_at places number ≡ Some own → is_tautology own ≡ true → Follows state (set places number None)
  follows-gone own at is = record {
    live = record {
      same = λ n. f.live.same n ∙ elim (n == number) as (λ b. (n == number) ≡ b
          → plain (place_at places n) ≡ plain (place_at (set places number None) n)) [
            | true ↦ λ e.
                let here : n ≡ number = eqb-true n number e in
                ap (λ k. plain (place_at places k)) here ∙ ap plain at ∙ none-of own is
                ∙ sym (ap (λ k. plain (place_at (set places number None) k)) here ∙ ap plain place-none)
            | false ↦ λ e.
                let other : n ≡ number → ⊥ = λ same. absurd (no-eqb n number e same) in
                ap plain (sym (place-gone n other))
          ] refl;
      none_at_zero = f.live.none_at_zero;
    };
    top = omega (arith, f.top, length-set places number None);
  }

  pub leads-deleted : (id : ℕ) → is_printable (Delete id ((number + 1) ∷ [])) ≡ true
      → Leads state (record { live = map.remove state.live (number + 1); top = state.top }) (Delete id ((number + 1) ∷ []) ∷ [])
  leads-deleted id printable = leads-one state (Delete id ((number + 1) ∷ [])) refl refl printable
