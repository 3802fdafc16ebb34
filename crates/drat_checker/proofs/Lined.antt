-- Lines are good: by hints that close, and by groups.
use Rattle.std.proofs.Common.{◌≡◌, ℕ, zero, suc, ◌+◌, ◌<◌, ◌≤◌, Bool, true, false, not, ◌||◌, ◌&&◌, ℤ, neg_ℤ, int_eq, List, [], ◌∷◌}
use Rattle.std.proofs.Common.{◌++◌, cond}
use Rattle.std.proofs.Common.{Option, None, Some, if◌then◌else◌, inl, inr, refl, sym, ap, ◌∙◌, subst, arith, take, length, get_or, nat_eq}
use Rattle.std.proofs.Common.{eq-eqb, ◌==◌, ◌⊎◌}
use Rattle.std.specs.List.{list_any, list_all, filter}
use Rattle.std.specs.Prelude.{slice_index}
use Rattle.std.specs.FinMap as map
use Rattle.std.proofs.lemmas.Bool.{and_from, and_parts, lt-leb, or_cases, or_left, or_right, both_ways, false_from_ne_true}
use Rattle.std.proofs.Math.IntN.{neg_ℤ-neg_ℤ}
use Rattle.std.proofs.lemmas.List.{append-nil, get_or_default, map-append, take_more}
use Rattle.std.proofs.lemmas.List.Elements.{filter-append}
use Rattle.std.proofs.lemmas.Map.Views.{exact_unsigned_eq}
use Rattle.std.proofs.lemmas.List.Folds.{list_any-append, list_all-append}
use Rattle.cnf_base.specs.declared.list.Group.{Group}
use Rattle.cnf_base.specs.ProofText.{is_empty, is_group, is_id}
use Rattle.lrat_rules.specs.declared.outcome.Effect.{Effect}
use Rattle.lrat_rules.specs.declared.outcome.Effect.TheVariants.{Conflict, Unit as Forced, NotUnit}
use Rattle.lrat_rules.specs.declared.outcome.Reason.{Reason}
use Rattle.lrat_rules.specs.declared.outcome.Reason.TheVariants.{IdNotGreater, CandidateOpen, GroupStray}
use Rattle.lrat_rules.specs.State.{State, Live, clause_at}
use Rattle.lrat_rules.specs.Chain.{Closed, FalseSet, Open, Outcome, chain, effect, literals_of, with_literal}
use Rattle.lrat_rules.specs.Strict.{is_strict, is_strict_effect, is_strict_hint}
use Rattle.lrat_rules.proofs.Strictness.{chain-strict}
use Rattle.lrat_rules.specs.Addition.{candidate_fault, fault, fault_after_hints, first_of_faults, group_fault, group_fault_at, groups_fault}
use Rattle.lrat_rules.specs.Addition.{holds_negated, if_live, is_blocked, is_blocked_by, is_candidate, is_settled, outcome_fault}
use Rattle.lrat_rules.specs.Addition.{resolvents_fault}
use Rattle.lrat_rules.specs.Addition.{with_candidate}
use Rattle.drat_rules.specs.Addition.{others_of}
use Rattle.drat_rules.specs.Quiet.{has_quiet}
use Rattle.drat_checker.specs.Places.{Place, Places, place_at, standing}
use Rattle.drat_checker.specs.Numbers.{IsRising, has_number}
use Rattle.drat_checker.specs.Hints.{AreLive, is_tautology, plain}
use Rattle.drat_checker.specs.Exact.{are_exact_groups, is_direct, is_exact, is_exact_candidate, is_exact_effect, is_exact_group}
use Rattle.drat_checker.specs.Exact.{is_exact_group_at, is_exact_hint, is_exact_line, is_held}
use Rattle.drat_checker.specs.Lines.{CloseFrom, FitGroups, FitOneMore, IsGoodLine, candidates_of, ids_from, ids_of, is_candidate_at}
use Rattle.drat_checker.proofs.FalseSets.{int_eq-true, of-filter}
use Rattle.drat_checker.proofs.Hinted.{live-at, some-both, some-pair}
use Rattle.drat_checker.proofs.Rising.{all-candidates}

-- the number is above the greatest so far
above : (state : State) (id : ℕ) (clause : List ℤ) (hints : List ℕ) (groups : List Group) → state.top < id
    → fault_after_hints state.live clause groups (chain state.live (literals_of clause) hints) ≡ None
    → fault state id clause hints groups ≡ None
above state id clause hints groups greater good =
    ap (λ b. if b then Some IdNotGreater else fault_after_hints state.live clause groups (chain state.live (literals_of clause) hints))
    (lt-leb id state.top greater)
    ∙ good

-- an exact refutation closes
module _ (live : Live) (n : FalseSet) (hints : List ℕ) (more more' : FalseSet → Bool)
    (f : (m : FalseSet) → more m ≡ true → more' m ≡ true) where
  strict_effect : (clause : List ℤ) (e : Effect) → is_exact_effect live clause hints n more e ≡ true
      → is_strict_effect n (is_empty hints) more' e ≡ true
  strict_effect clause Conflict h = h
  strict_effect clause (Forced y) h =
      let parts = and_parts (not (n (neg_ℤ y))) _ h in
      let rest = and_parts (is_held live hints (neg_ℤ y)) _ parts.1 in
      and_from _ _ parts.0 (f (with_literal (neg_ℤ y) n) (and_parts (is_direct live clause y) _ rest.1).1)
  strict_effect clause NotUnit h = h

  strict_hint : (o : Option (List ℤ)) → is_exact_hint live hints n more o ≡ true → is_strict_hint n (is_empty hints) more' o ≡ true
  strict_hint None h = h
  strict_hint (Some clause) h = strict_effect clause (effect n clause) h

exact-strict : (live : Live) (n : FalseSet) (hints : List ℕ) → is_exact live n hints ≡ true → is_strict live n hints ≡ true
exact-strict live n [] h = h
exact-strict live n (hint ∷ hints) h =
    strict_hint live n hints (λ m. is_exact live m hints) (λ m. is_strict live m hints) (λ m e. exact-strict live m hints e)
    (clause_at live hint) h

exact-closed : (live : Live) (n : FalseSet) (hints : List ℕ) → is_exact live n hints ≡ true → chain live n hints ≡ Closed
exact-closed live n hints h = chain-strict live n hints (exact-strict live n hints h)

exact-hints : (live : Live) (clause : List ℤ) (hints : List ℕ) (groups : List Group) → groups ≡ []
    → is_exact live (literals_of clause) hints ≡ true → is_exact_line live clause hints groups ≡ true
exact-hints live clause [] groups none h = cc
exact-hints live clause (hint ∷ hints) groups none h = and_from _ _ h (ap is_empty none)

exact-some : (live : Live) (n : FalseSet) (hints : List ℕ) → is_exact live n hints ≡ true → is_empty hints ≡ false
exact-some live n [] h = cc
exact-some live n (hint ∷ hints) h = refl

-- hints refute the clause
pub good-hints : (places : Places) (clause : List ℤ) (hints : List ℕ) (groups : List Group) → groups ≡ []
    → has_quiet (standing places) clause ≡ false → CloseFrom places clause hints → IsGoodLine places clause hints groups
good-hints places clause hints groups none clashes close = record {
  ids = close.ids;
  named = ap (list_all is_group) none;
  good = λ state id are greater.
      above state id clause hints groups greater
      (ap (fault_after_hints state.live clause groups)
      (exact-closed state.live (literals_of clause) hints (close.exact state.live (literals_of clause) are (λ x. refl))));
  exact = λ live are. exact-hints live clause hints groups none (close.exact live (literals_of clause) are (λ x. refl));
  named_ids = ap ids_of none ∙ sym (ap (λ b. if b then ids_from (candidates_of places clause) else []) clashes);
  by_hints = λ live are. exact-some live (literals_of clause) hints (close.exact live (literals_of clause) are (λ x. refl)) ∙ sym clashes;
}

both-none : (a b : Option Reason) → first_of_faults a b ≡ None → (a ≡ None) × (b ≡ None)
both-none None b e = (refl, e)
both-none (Some reason) b e = cc

-- one group more
groups-last : (live : Live) (n : FalseSet) (pivot : ℤ) (groups : List Group) (group : Group) → groups_fault live n pivot groups ≡ None
    → group_fault live n pivot group ≡ None → groups_fault live n pivot (groups ++ group ∷ []) ≡ None
groups-last live n pivot [] group good one = ap (λ r. first_of_faults r None) one
groups-last live n pivot (g ∷ gs) group good one =
    let parts = both-none (group_fault live n pivot g) (groups_fault live n pivot gs) good in
    ap (λ r. first_of_faults r (groups_fault live n pivot (gs ++ group ∷ []))) parts.0 ∙ groups-last live n pivot gs group parts.1 one

-- a number that is settled is settled with one group more
settled-more : (c b g h : Bool) → (not c || b || g) ≡ true → (not c || b || (g || h)) ≡ true
settled-more false b g h e = refl
settled-more true true g h e = refl
settled-more true false true h e = refl
settled-more true false false h e = cc

named-last : (groups : List Group) (group : Group) (id : ℕ)
    → list_any (λ g. g.id == id) (groups ++ group ∷ []) ≡ (list_any (λ g. g.id == id) groups || (group.id == id || false))
named-last groups group id = list_any-append (λ g. g.id == id) groups (group ∷ [])

settled-last : (live : Live) (n : FalseSet) (pivot : ℤ) (groups : List Group) (group : Group) (id : ℕ)
    → is_settled live n pivot groups id ≡ true → is_settled live n pivot (groups ++ group ∷ []) id ≡ true
settled-last live n pivot groups group id e =
    ap (λ b. not (is_candidate live pivot id) || is_blocked live n pivot id || b) (named-last groups group id)
    ∙ settled-more (is_candidate live pivot id) (is_blocked live n pivot id) (list_any (λ g. g.id == id) groups) _ e

settled-named : (c b g h : Bool) → h ≡ true → (not c || b || (g || (h || false))) ≡ true
settled-named false b g h e = refl
settled-named true true g h e = refl
settled-named true false true h e = refl
settled-named true false false true e = refl
settled-named true false false false e = cc

settled-free : (c b g : Bool) → c ≡ false → (not c || b || g) ≡ true
settled-free false b g e = refl
settled-free true b g e = cc

or-turn : (a b : Bool) → (a || b) ≡ (b || a)
or-turn true true = refl
or-turn true false = refl
or-turn false true = refl
or-turn false false = refl

either-none : (b : Bool) (o : Outcome) → o ≡ Closed → (if b then None else outcome_fault o) ≡ None
either-none true o e = refl
either-none false o e = ap outcome_fault e

or-false : (b : Bool) → (b || false) ≡ true → b ≡ true
or-false true h = refl
or-false false h = h

-- what is said of the numbers seen, and of one more
one-of : (number k : ℕ) (seen : List ℕ) → has_number number (seen ++ k ∷ []) ≡ true → (number ≡ k) ⊎ (has_number number seen ≡ true)
one-of number k seen h =
    elim (or_cases (has_number number seen) _ (sym (list_any-append (nat_eq number) seen (k ∷ [])) ∙ h)) [
      | inl earlier ↦ inr earlier
      | inr last ↦ inl (exact_unsigned_eq number k (or-false (nat_eq number k) last))
    ]

-- the numbers of the candidates among them
module _ (places : Places) (pivot : ℤ) (number : ℕ) (seen : List ℕ) where
  abbrev test : ℕ → Bool
  test n = is_candidate_at pivot (place_at places n)

  filter-last : filter test (seen ++ number ∷ []) ≡ filter test seen ++ cond (test number) (number ∷ []) []
  filter-last = filter-append test seen (number ∷ [])

  ids-free : (groups : List Group) → test number ≡ false → ids_of groups ≡ ids_from (filter test seen)
      → ids_of groups ≡ ids_from (filter test (seen ++ number ∷ []))
  ids-free groups fails is =
      is ∙ sym (ap ids_from (filter-last ∙ ap (λ b. filter test seen ++ cond b (number ∷ []) []) fails ∙ append-nil (filter test seen)))

  ids-group : (groups : List Group) (hints : List ℕ) → test number ≡ true → ids_of groups ≡ ids_from (filter test seen)
      → ids_of (groups ++ record { id = number + 1; hints = hints } ∷ []) ≡ ids_from (filter test (seen ++ number ∷ []))
  ids-group groups hints passes is =
      map-append (λ (g : Group). g.id) groups (record { id = number + 1; hints = hints } ∷ [])
      ∙ ap (λ (l : List ℕ). l ++ (number + 1) ∷ []) is
      ∙ sym (map-append (λ n. n + 1) (filter test seen) (number ∷ []))
      ∙ sym (ap ids_from (filter-last ∙ ap (λ b. filter test seen ++ cond b (number ∷ []) []) passes))

-- no candidate stands under the number
module _ (places : Places) (clause : List ℤ) (pivot : ℤ) (number : ℕ) (groups : List Group) where
  fits-free : is_candidate_at pivot (place_at places number) ≡ false
      → ((live : Live) → AreLive live places → is_candidate live pivot (number + 1) ≡ false)
      → FitOneMore places clause pivot number groups groups
  fits-free none free = record {
    fits = λ seen f. record {
      named = f.named;
      good = f.good;
      exact = f.exact;
      ids = ids-free places pivot number seen groups none f.ids;
      settled = λ live are k has. elim (one-of k number seen has) [
        | inl here ↦ subst (λ (m : ℕ). is_settled live (literals_of clause) pivot groups (m + 1) ≡ true) (sym here)
            (settled-free (is_candidate live pivot (number + 1)) _ _ (free live are))
        | inr earlier ↦ f.settled live are k earlier
      ];
    };
  }

  not-live : (b : Bool) (other : List ℤ) → holds_negated pivot other ≡ false
      → if_live (holds_negated pivot) (if b then None else Some other) ≡ false
  not-live true other fails = refl
  not-live false other fails = fails

  -- no clause, one that doesn't hold the pivot's negation, and a tautology
  fits-place : (place : Place) → place_at places number ≡ place → is_candidate_at pivot place ≡ false
      → FitOneMore places clause pivot number groups groups
  fits-place place at fails =
      fits-free (ap (is_candidate_at pivot) at ∙ fails)
      (λ live are. ap (if_live (holds_negated pivot)) (are.same number ∙ ap plain at) ∙ fails)

  pub fits-none : place_at places number ≡ None → FitOneMore places clause pivot number groups groups
  fits-none none = fits-place None none refl

  pub fits-other : (other : List ℤ) → place_at places number ≡ Some other → holds_negated pivot other ≡ false
      → FitOneMore places clause pivot number groups groups
  fits-other other at fails = fits-place (Some other) at (not-live (is_tautology other) other fails)

  pub fits-tautology : (other : List ℤ) → place_at places number ≡ Some other → is_tautology other ≡ true
      → FitOneMore places clause pivot number groups groups
  fits-tautology other at taut =
      fits-place (Some other) at (ap (λ b. if_live (holds_negated pivot) (if b then None else Some other)) taut)

-- a candidate with its group
module _ (places : Places) (clause : List ℤ) (pivot : ℤ) (number : ℕ) (other : List ℤ) (at : place_at places number ≡ Some other)
    (holds : holds_negated pivot other ≡ true) (plain : is_tautology other ≡ false) (groups : List Group) (hints : List ℕ) where
  abbrev own : Group
  own = record { id = number + 1; hints = hints }

  fits-group : is_group own ≡ true
      → ((live : Live) → AreLive live places → candidate_fault live (literals_of clause) pivot other hints ≡ None)
      → ((live : Live) → AreLive live places → is_exact_candidate live (literals_of clause) pivot other hints ≡ true)
      → FitOneMore places clause pivot number groups (groups ++ own ∷ [])
  fits-group ranged good exact = record {
    fits = λ seen f. record {
      named = list_all-append is_group groups (own ∷ []) ∙ and_from _ _ f.named (and_from _ _ ranged refl);
      good = λ live are.
          groups-last live (literals_of clause) pivot groups own (f.good live are)
          (ap (group_fault_at live (literals_of clause) pivot hints) (live-at live places are number other at plain)
          ∙ ap (λ b. if b then candidate_fault live (literals_of clause) pivot other hints else Some GroupStray) holds ∙ good live are);
      exact = λ live are.
          list_all-append (is_exact_group live (literals_of clause) pivot) groups (own ∷ [])
          ∙ and_from _ _ (f.exact live are)
          (and_from _ _ (ap (is_exact_group_at live (literals_of clause) pivot hints) (live-at live places are number other at plain)
          ∙ exact live are) refl);
      ids = ids-group places pivot number seen groups hints
          (ap (is_candidate_at pivot) at ∙ ap (λ b. if_live (holds_negated pivot) (if b then None else Some other)) plain ∙ holds) f.ids;
      settled = λ live are k has. elim (one-of k number seen has) [
        | inl here ↦ subst (λ (m : ℕ). is_settled live (literals_of clause) pivot (groups ++ own ∷ []) (m + 1) ≡ true) (sym here)
            (ap (λ b. not (is_candidate live pivot (number + 1)) || is_blocked live (literals_of clause) pivot (number + 1) || b)
            (named-last groups own (number + 1))
            ∙ settled-named (is_candidate live pivot (number + 1)) (is_blocked live (literals_of clause) pivot (number + 1))
            (list_any (λ g. g.id == number + 1) groups) (number + 1 == number + 1) (eq-eqb (number + 1) (number + 1) refl))
        | inr earlier ↦ settled-last live (literals_of clause) pivot groups own (k + 1) (f.settled live are k earlier)
      ];
    };
  }

  pub fits-blocked : is_id (number + 1) ≡ true → hints ≡ [] → is_blocked_by (literals_of clause) pivot other ≡ true
      → FitOneMore places clause pivot number groups (groups ++ own ∷ [])
  fits-blocked id bare blocked =
      fits-group (and_from _ _ id (ap (list_all is_id) bare))
      (λ live are.
      ap (λ b. if b then None else outcome_fault (chain live (with_candidate (literals_of clause) pivot other) hints)) blocked)
      (λ live are.
      ap (λ b. if b then is_empty hints else is_exact live (with_candidate (literals_of clause) pivot other) hints) blocked
      ∙ ap is_empty bare)

  -- the set of the chain has the clause's literals, and the candidate's others
  has-both : (x : ℤ) → with_candidate (literals_of clause) pivot other x ≡ literals_of (clause ++ others_of pivot other) x
  has-both x =
      or-turn (not (int_eq x (neg_ℤ pivot)) && literals_of other x) (literals_of clause x)
      ∙ ap (λ b. literals_of clause x || b) (sym (of-filter (λ y. not (int_eq y (neg_ℤ pivot))) other x))
      ∙ sym (list_any-append (int_eq x) clause (others_of pivot other))

  pub fits-refuted : is_id (number + 1) ≡ true → is_blocked_by (literals_of clause) pivot other ≡ false
      → CloseFrom places (clause ++ others_of pivot other) hints
      → FitOneMore places clause pivot number groups (groups ++ own ∷ [])
  fits-refuted id free close =
      let n = with_candidate (literals_of clause) pivot other in
      fits-group (and_from _ _ id close.ids)
      (λ live are.
      either-none (is_blocked_by (literals_of clause) pivot other) (chain live n hints)
      (exact-closed live n hints (close.exact live n are has-both)))
      (λ live are. ap (λ b. if b then is_empty hints else is_exact live n hints) free ∙ close.exact live n are has-both)

in-filter : (p : ℤ → Bool) (xs : List ℤ) (x : ℤ) → literals_of (filter p xs) x ≡ true → (literals_of xs x ≡ true) × (p x ≡ true)
in-filter p xs x m = let parts = and_parts (p x) (literals_of xs x) (sym (of-filter p xs x) ∙ m) in (parts.1, parts.0)

blocks : (n : FalseSet) (pivot : ℤ) (other : List ℤ) (x : ℤ) → literals_of other x ≡ true → not (int_eq x (neg_ℤ pivot)) ≡ true
    → n (neg_ℤ x) ≡ true → is_blocked_by n pivot other ≡ true
blocks n pivot [] x m apart negation = cc
blocks n pivot (y ∷ ys) x m apart negation =
    elim (or_cases (int_eq x y) _ m) [
      | inl here ↦ or_left _ _
          (subst (λ (z : ℤ). (not (int_eq z (neg_ℤ pivot)) && n (neg_ℤ z)) ≡ true) (int_eq-true x y here) (and_from _ _ apart negation))
      | inr later ↦ or_right (not (int_eq y (neg_ℤ pivot)) && n (neg_ℤ y)) _ (blocks n pivot ys x later apart negation)
    ]

-- a group of a candidate that isn't blocked by the clause's literals: those that are assumed clash nowhere
pub both-plain : (clause other : List ℤ) (pivot : ℤ) → is_tautology clause ≡ false → is_tautology other ≡ false
    → is_blocked_by (literals_of clause) pivot other ≡ false → is_tautology (clause ++ others_of pivot other) ≡ false
both-plain clause other pivot plain_clause plain_other free =
    false_from_ne_true _ (λ h.
    let all = clause ++ others_of pivot other in
    let some = some-both all all h in
    let x = some.0 in
    elim (or_cases (literals_of clause x) (literals_of (others_of pivot other) x)
    (sym (list_any-append (int_eq x) clause (others_of pivot other)) ∙ some.1)) [
      | inl own ↦ elim (or_cases (literals_of clause (neg_ℤ x)) (literals_of (others_of pivot other) (neg_ℤ x))
          (sym (list_any-append (int_eq (neg_ℤ x)) clause (others_of pivot other)) ∙ some.2)) [
            | inl beside ↦ both_ways (is_tautology clause) plain_clause (some-pair clause clause x own beside)
            | inr there ↦
                let is = in-filter (λ y. not (int_eq y (neg_ℤ pivot))) other (neg_ℤ x) there in
                both_ways (is_blocked_by (literals_of clause) pivot other) free
                (blocks (literals_of clause) pivot other (neg_ℤ x) is.0 is.1 (ap (literals_of clause) (neg_ℤ-neg_ℤ x) ∙ own))
          ]
      | inr there ↦
          let is = in-filter (λ y. not (int_eq y (neg_ℤ pivot))) other x there in
          elim (or_cases (literals_of clause (neg_ℤ x)) (literals_of (others_of pivot other) (neg_ℤ x))
          (sym (list_any-append (int_eq (neg_ℤ x)) clause (others_of pivot other)) ∙ some.2)) [
            | inl own ↦ both_ways (is_blocked_by (literals_of clause) pivot other) free
                (blocks (literals_of clause) pivot other x is.0 is.1 own)
            | inr beside ↦
                both_ways (is_tautology other) plain_other
                (some-pair other other x is.0 (in-filter (λ y. not (int_eq y (neg_ℤ pivot))) other (neg_ℤ x) beside).0)
          ]
    ])

-- the groups are those of all candidates
candidate-of : (pivot : ℤ) (place : Place) → if_live (holds_negated pivot) (plain place) ≡ true
    → (other : List ℤ) × (place ≡ Some other) × (holds_negated pivot other ≡ true)
candidate-of pivot None h = cc
candidate-of pivot (Some other) h =
    elim (is_tautology other) as (λ b. if_live (holds_negated pivot) (if b then None else Some other) ≡ true
    → (d : List ℤ) × (Some other ≡ Some d) × (holds_negated pivot d ≡ true)) [
      | true ↦ λ e. cc
      | false ↦ λ e. (other, refl, e)
    ] h

list-each : (p : ℕ → Bool) (xs : List ℕ) → ((x : ℕ) → p x ≡ true) → list_all p xs ≡ true
list-each p [] each = refl
list-each p (x ∷ xs) each = and_from _ _ (each x) (list-each p xs each)

module _ (places : Places) (clause others : List ℤ) (pivot : ℤ) (numbers : List ℕ) (groups : List Group)
    (fit : FitGroups places clause pivot numbers groups)
    (all : (number : ℕ) (other : List ℤ) → place_at places number ≡ Some other → holds_negated pivot other ≡ true
    → has_number number numbers ≡ true) (rising : IsRising numbers) where
  settled-at : (live : Live) → AreLive live places → (id : ℕ) → is_settled live (literals_of clause) pivot groups id ≡ true
  settled-at live are zero =
      settled-free (is_candidate live pivot 0) _ _ (ap (if_live (holds_negated pivot)) are.none_at_zero)
  settled-at live are (suc k) =
      let next : k + 1 ≡ suc k = omega arith in
      subst (λ (id : ℕ). is_settled live (literals_of clause) pivot groups id ≡ true) next
      (elim (is_candidate live pivot (k + 1)) as (λ b. is_candidate live pivot (k + 1) ≡ b
      → is_settled live (literals_of clause) pivot groups (k + 1) ≡ true) [
        | true ↦ λ e.
            let of = candidate-of pivot (place_at places k) (ap (if_live (holds_negated pivot)) (sym (are.same k)) ∙ e) in
            fit.settled live are k (all k of.0 of.1 of.2)
        | false ↦ λ e. settled-free (is_candidate live pivot (k + 1)) _ _ e
      ] refl)

  no-resolvents : (live : Live) → AreLive live places → resolvents_fault live (literals_of clause) pivot groups ≡ None
  no-resolvents live are =
      ap (λ r. first_of_faults r (if list_all (is_settled live (literals_of clause) pivot groups) (map.keys live) then None else Some
      CandidateOpen)) (fit.good live are)
      ∙ ap (λ b. if b then None else Some CandidateOpen)
      (list-each (is_settled live (literals_of clause) pivot groups) (map.keys live) (settled-at live are))

  exact-groups : clause ≡ pivot ∷ others → (live : Live) → AreLive live places → is_exact_line live clause [] groups ≡ true
  exact-groups is live are =
      ap (λ (c : List ℤ). are_exact_groups live c groups) is
      ∙ ap (λ (c : List ℤ). list_all (is_exact_group live (literals_of c) pivot) groups) (sym is) ∙ fit.exact live are

  pub good-groups : has_quiet (standing places) clause ≡ true → clause ≡ pivot ∷ others → IsGoodLine places clause [] groups
  good-groups some is = record {
    ids = refl;
    named = fit.named;
    good = λ state id are greater.
        above state id clause [] groups greater
        (subst (λ (c : List ℤ). fault_after_hints state.live c groups (Open (literals_of clause)) ≡ None) (sym is)
        (no-resolvents state.live are));
    exact = exact-groups is;
    named_ids = fit.ids
        ∙ ap ids_from (all-candidates pivot places numbers rising
        (λ k e. let of = candidate-of pivot (place_at places k) e in all k of.0 of.1 of.2)
        ∙ sym (ap (candidates_of places) is))
        ∙ sym (ap (λ b. if b then ids_from (candidates_of places clause) else []) some);
    by_hints = λ live are. sym some;
  }

-- nothing is seen yet
pub fits-start : (places : Places) (clause : List ℤ) (pivot : ℤ) → FitGroups places clause pivot [] []
fits-start places clause pivot = record {
  named = refl;
  good = λ live are. refl;
  exact = λ live are. refl;
  ids = refl;
  settled = λ live are number has. cc;
}

-- the numbers up to a place, and the one there
pub fits-next : (places : Places) (clause : List ℤ) (pivot : ℤ) (numbers : List ℕ) (i k : ℕ) (groups : List Group) → i < length numbers
    → k ≡ get_or numbers i k → FitGroups places clause pivot (take i numbers ++ k ∷ []) groups
    → FitGroups places clause pivot (take (i + 1) numbers) groups
fits-next places clause pivot numbers i k groups within at f =
    subst (λ (l : List ℕ). FitGroups places clause pivot l groups)
    (ap (λ n. take i numbers ++ n ∷ []) at ∙ sym (take_more numbers i k within)) f

-- the number at a place, whatever stands for those that aren't there
pub get_or-slice : (numbers : List ℕ) (i : ℕ) → i < length numbers → slice_index numbers i ≡ get_or numbers i (slice_index numbers i)
get_or-slice numbers i within = get_or_default numbers i 0 (slice_index numbers i) within

-- the first literal of a clause
pub first-of : (clause : List ℤ) (x : ℤ) → 1 ≤ length clause → x ≡ get_or clause 0 x → (others : List ℤ) × (clause ≡ x ∷ others)
first-of [] x some at = absurd (omega (arith, some))
first-of (y ∷ ys) x some at = (ys, ap (λ z. z ∷ ys) (sym at))
