-- The formula's clauses without their tautologies.
use Rattle.std.proofs.Common.{◌≡◌, ℕ, suc, ◌+◌, ◌<◌, ◌≤◌, Bool, true, false, cond, ◌||◌, ◌&&◌, ℤ, List, [], ◌∷◌, ◌++◌, map, length}
use Rattle.std.proofs.Common.{get_or, Option, None, Some, Result, Ok, if◌then◌else◌, refl, sym, ap, ◌∙◌, subst, arith, nat_eq}
use Rattle.std.proofs.Common.{nat_lt}
use Rattle.std.proofs.Common.{nat_le, eq-eqb, ne_eqb, eqb-true, inl, inr}
use Rattle.std.specs.Cmp.{unsigned_tied}
use Rattle.std.specs.FinMap as finmap
use Rattle.std.proofs.lemmas.Bool.{and_from, cases_lt, le-ltb, lt-ltb}
use Rattle.std.proofs.lemmas.Cmp.{nat_cmp_total}
use Rattle.std.proofs.lemmas.List.{get_or-map, get_or_past}
use Rattle.std.proofs.lemmas.List.Folds.{list_any-append}
use Rattle.cnf_base.specs.declared.step.Step.TheVariants.{Delete}
use Rattle.cnf_base.specs.ProofText.{line_of_step, max_id}
use Rattle.host_io.specs.declared.source.Failed.{Failed}
use Rattle.host_io.specs.Channel.{Channel, WritesAll}
use Rattle.lrat_rules.specs.State.{Live, State, clause_at, start, without_clauses}
use Rattle.drat_checker.specs.Places.{Place, Places, place_at}
use Rattle.drat_checker.specs.Numbers.{has_number}
use Rattle.drat_checker.specs.Hints.{plain}
use Rattle.lrat_from_drat.specs.Following.{Follows}
use Rattle.lrat_from_drat.specs.Starting.{AreDropped, Begun}
use Rattle.lrat_from_drat.specs.Lrat.{beginning_by, is_dropped, tautologies_of}
use Rattle.lrat_from_drat.proofs.Followed.{leads-none, leads-one}
use Rattle.lrat_from_drat.proofs.Taken.{nothing, one-line}
use Rattle.lrat_from_drat.proofs.Becoming.{begins-so}

-- without several numbers
both-none : (b h : Bool) (o : Option (List ℤ)) → (if h then None else cond b None o) ≡ (if b || h then None else o)
both-none true true o = refl
both-none true false o = refl
both-none false true o = refl
both-none false false o = refl

without-at : (live : Live) (ids : List ℕ) (k : ℕ) → clause_at (without_clauses live ids) k
    ≡ (if has_number k ids then None else clause_at live k)
without-at live [] k = refl
without-at live (id ∷ ids) k =
    without-at (finmap.remove live id) ids k
    ∙ ap (λ o. if has_number k ids then None else o)
    (finmap.get-remove nat_cmp_total live id k ∙ ap (λ b. cond b None (clause_at live k)) (unsigned_tied k id))
    ∙ both-none (nat_eq k id) (has_number k ids) (clause_at live k)

-- the formula's places
abbrev pub ClausesLaw : Type 0
ClausesLaw = (clauses : List (List ℤ)) (i : ℕ) → i < length clauses → clause_at (start clauses).live (i + 1) ≡ Some (get_or clauses i [])

abbrev pub AboveLaw : Type 0
AboveLaw = (clauses : List (List ℤ)) (id : ℕ) → length clauses < id → clause_at (start clauses).live id ≡ None

abbrev pub ZeroLaw : Type 0
ZeroLaw = (clauses : List (List ℤ)) → clause_at (start clauses).live 0 ≡ None

pub length-map : (cs : List (List ℤ)) → length (map Some cs) ≡ length cs
length-map [] = refl
length-map (c ∷ cs) = ap suc (length-map cs)

some-at : (clauses : List (List ℤ)) (n : ℕ) → n < length clauses → place_at (map Some clauses) n ≡ Some (get_or clauses n [])
some-at clauses n within = get_or-map Some clauses n [] None within

none-at : (clauses : List (List ℤ)) (n : ℕ) → length clauses ≤ n → place_at (map Some clauses) n ≡ None
none-at clauses n past = get_or_past (map Some clauses) n None (omega (arith, past, length-map clauses))

started : (law : ClausesLaw) (above : AboveLaw) (clauses : List (List ℤ)) (n : ℕ) → clause_at (start clauses).live (n + 1)
    ≡ place_at (map Some clauses) n
started law above clauses n = elim (cases_lt n (length clauses)) [
  | inl within ↦ law clauses n within ∙ sym (some-at clauses n within)
  | inr past ↦ above clauses (n + 1) (omega (arith, past)) ∙ sym (none-at clauses n past)
]

dropped-place : (p : Place) → (if is_dropped p then None else p) ≡ plain p
dropped-place None = refl
dropped-place (Some clause) = refl

module _ (law : ClausesLaw) (above : AboveLaw) (zero_law : ZeroLaw) (clauses : List (List ℤ)) (ids : List ℕ)
    (dropped : AreDropped (map Some clauses) ids) (all : ids ≡ tautologies_of (map Some clauses)) where
  abbrev begun : State
  begun = record { live = without_clauses (start clauses).live ids; top = length clauses }

  follows-begun : Follows (record { live = without_clauses (start clauses).live ids; top = length clauses }) (map Some clauses)
  follows-begun = record {
    live = record {
      same = λ n.
          without-at (start clauses).live ids (n + 1)
          ∙ ap (λ b. if b then None else clause_at (start clauses).live (n + 1)) (dropped.own n)
          ∙ ap (λ o. if is_dropped (place_at (map Some clauses) n) then None else o) (started law above clauses n)
          ∙ dropped-place (place_at (map Some clauses) n);
      none_at_zero = without-at (start clauses).live ids 0
          ∙ ap (λ b. if b then None else clause_at (start clauses).live 0) dropped.zero ∙ zero_law clauses;
    };
    top = omega (arith, length-map clauses);
  }

  -- by their line, or by none where there are none
  pub begun-line : (tells : Bool) (old new : Channel) (last : ℕ) (written : Result (Unit {0}) Failed) → nat_le last max_id ≡ true
      → last ≡ length clauses → nat_eq (length ids) 0 ≡ false
      → WritesAll tells old new (line_of_step (Delete last ids)) written → Begun tells old new clauses written
  begun-line tells old new last written range at some w = record {
    then = record { live = without_clauses (start clauses).live ids; top = length clauses };
    steps = Delete last ids ∷ [];
    leads = leads-one (start clauses) (Delete last ids) refl refl (and_from _ _ range dropped.range);
    follows = follows-begun;
    alike = begins-so last (length clauses) ids at some ∙ ap (beginning_by (length clauses)) all;
    lines = one-line (Delete last ids) w;
  }

  pub begun-none : (tells : Bool) (channel : Channel) → ids ≡ [] → Begun tells channel channel clauses (Ok tt)
  begun-none tells channel none = record {
    then = start clauses;
    steps = [];
    leads = leads-none (start clauses);
    follows = subst (λ (l : List ℕ). Follows (record { live = without_clauses (start clauses).live l; top = length clauses })
        (map Some clauses)) none follows-begun;
    alike = ap (beginning_by (length clauses)) (sym none ∙ all);
    lines = nothing tells channel;
  }

-- the numbers so far
below : (n i : ℕ) → (n ≡ i → ⊥) → nat_lt n (i + 1) ≡ nat_lt n i
below n i other = elim (cases_lt n i) [
  | inl lt ↦ lt-ltb n (i + 1) (omega (arith, lt)) ∙ sym (lt-ltb n i lt)
  | inr le ↦ elim (cases_lt i n) [
    | inl more ↦ le-ltb n (i + 1) (omega (arith, more)) ∙ sym (le-ltb n i le)
    | inr same ↦ absurd (other (omega (arith, le, same)))
  ]
]

no-eqb : (n m : ℕ) → nat_eq n m ≡ false → n ≡ m → ⊥
no-eqb n m e same = let t : nat_eq n m ≡ true = eq-eqb n m same in cc

or-none : (a b : Bool) → b ≡ false → (a || (b || false)) ≡ a
or-none true b e = refl
or-none false true e = cc
or-none false false e = refl

or-one : (a b : Bool) → b ≡ true → (a || (b || false)) ≡ true
or-one true b e = refl
or-one false true e = refl
or-one false false e = cc

and-none : (a b : Bool) → (a && false) ≡ (b && false)
and-none true true = refl
and-none true false = refl
and-none false true = refl
and-none false false = refl

abbrev pub OwnSoFar : Places → List ℕ → ℕ → Type 0
OwnSoFar places ids i = (n : ℕ) → has_number (n + 1) ids ≡ (nat_lt n i && is_dropped (place_at places n))

pub own-none : (places : Places) (ids : List ℕ) → ids ≡ [] → OwnSoFar places ids 0
own-none places ids none n =
    ap (has_number (n + 1)) none
    ∙ sym (ap (λ b. b && is_dropped (place_at places n)) (le-ltb n 0 (omega arith)))

module _ (places : Places) (ids : List ℕ) (i : ℕ) (own : OwnSoFar places ids i) where
  pub own-pass : is_dropped (place_at places i) ≡ false → OwnSoFar places ids (i + 1)
  own-pass kept n =
      own n ∙ elim (nat_eq n i) as (λ b. nat_eq n i ≡ b
      → (nat_lt n i && is_dropped (place_at places n)) ≡ (nat_lt n (i + 1) && is_dropped (place_at places n))) [
        | true ↦ λ e.
            let here : n ≡ i = eqb-true n i e in
            let fails : is_dropped (place_at places n) ≡ false = ap (λ k. is_dropped (place_at places k)) here ∙ kept in
            ap (λ b. nat_lt n i && b) fails ∙ and-none (nat_lt n i) (nat_lt n (i + 1)) ∙ sym (ap (λ b. nat_lt n (i + 1) && b) fails)
        | false ↦ λ e. ap (λ b. b && is_dropped (place_at places n)) (sym (below n i (no-eqb n i e)))
      ] refl

  pub own-push : (id : ℕ) → id ≡ i + 1 → is_dropped (place_at places i) ≡ true → OwnSoFar places (ids ++ id ∷ []) (i + 1)
  own-push id is dropped n =
      list_any-append (nat_eq (n + 1)) ids (id ∷ [])
      ∙ elim (nat_eq n i) as (λ b. nat_eq n i ≡ b → (has_number (n + 1) ids || (nat_eq (n + 1) id || false))
      ≡ (nat_lt n (i + 1) && is_dropped (place_at places n))) [
        | true ↦ λ e.
            let here : n ≡ i = eqb-true n i e in
            or-one (has_number (n + 1) ids) (nat_eq (n + 1) id) (eq-eqb (n + 1) id (ap (λ k. k + 1) here ∙ sym is))
            ∙ sym (ap (λ b. b && is_dropped (place_at places n)) (lt-ltb n (i + 1) (omega (arith, here)))
            ∙ ap (λ k. is_dropped (place_at places k)) here ∙ dropped)
        | false ↦ λ e.
            let other = no-eqb n i e in
            or-none (has_number (n + 1) ids) (nat_eq (n + 1) id) (ne_eqb (n + 1) id (λ same. other (omega (arith, same, is))))
            ∙ own n ∙ ap (λ b. b && is_dropped (place_at places n)) (sym (below n i other))
      ] refl

-- at the end all have had their turn
pub own-end : (places : Places) (ids : List ℕ) (i : ℕ) → length places ≤ i → OwnSoFar places ids i → (n : ℕ) → has_number (n + 1) ids
    ≡ is_dropped (place_at places n)
own-end places ids i past own n = own n ∙ elim (cases_lt n i) [
  | inl lt ↦ ap (λ b. b && is_dropped (place_at places n)) (lt-ltb n i lt)
  | inr le ↦
      let none : is_dropped (place_at places n) ≡ false = ap is_dropped (get_or_past places n None (omega (arith, past, le))) in
      ap (λ b. nat_lt n i && b) none ∙ and-none (nat_lt n i) true ∙ sym none
]

pub zero-push : (ids : List ℕ) (number : ℕ) → has_number 0 ids ≡ false → has_number 0 (ids ++ (number + 1) ∷ []) ≡ false
zero-push ids number none =
    list_any-append (nat_eq 0) ids ((number + 1) ∷ [])
    ∙ or-none (has_number 0 ids) (nat_eq 0 (number + 1)) (ne_eqb 0 (number + 1) (λ e. omega (arith, e))) ∙ none

pub empty-list : (xs : List ℕ) → length xs ≡ 0 → xs ≡ []
empty-list [] none = refl
empty-list (x ∷ xs) none = absurd (omega (arith, none))
