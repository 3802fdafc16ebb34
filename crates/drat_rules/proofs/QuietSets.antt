-- A quiet set that has a clause's literals, cut to the literals at hand, is one that the test finds.
use Rattle.std.proofs.Common.{◌≡◌, true, false, cond, not, ◌&&◌, ℤ, neg_ℤ, List, [], ◌∷◌, int_eq, refl, sym, ap, ◌∙◌, if◌then◌else◌}
use Rattle.std.specs.List.{filter, list_all, flat_map}
use Rattle.std.proofs.lemmas.Bool.{and_parts, and_from, or_right, not-true, not_from_false, both_ways, false_from_ne_true}
use Rattle.lrat_rules.specs.declared.outcome.Effect.TheVariants.{Unit as Forced, NotUnit}
use Rattle.lrat_rules.specs.Chain.{FalseSet, literals_of, outside, effect_of_outside}
use Rattle.drat_rules.specs.Quiet.{adds_nothing, closed_under, IsQuiet, Falsifies, is_quiet, with_negations, at_hand, has_quiet}
use Rattle.drat_rules.proofs.Members.{in_front, at_member, all_members, literals_of-filter, in_left, in_right, in_distinct, in_negations}
use Rattle.drat_rules.proofs.Subsets.{some_subset-filter, chosen_subset}

-- two sets that agree on a literal and on its negation
abbrev pub Agree : FalseSet → FalseSet → ℤ → Type 0
Agree m n x = (m x ≡ n x) × (m (neg_ℤ x) ≡ n (neg_ℤ x))

outside-agree : (m n : FalseSet) (xs : List ℤ) → ((x : ℤ) → literals_of xs x ≡ true → Agree m n x) → outside m xs ≡ outside n xs
outside-agree m n [] agree = refl
outside-agree m n (x ∷ xs) agree =
    let rest : outside m xs ≡ outside n xs = outside-agree m n xs (λ y at. agree y (or_right (int_eq y x) _ at)) in
    ap (λ b. cond (not b) (x ∷ outside m xs) (outside m xs)) (agree x (in_front x xs)).0
    ∙ ap (λ l. cond (not (n x)) (x ∷ l) l) rest

adds_nothing-agree : (m n : FalseSet) (xs : List ℤ) → ((x : ℤ) → literals_of xs x ≡ true → Agree m n x)
    → adds_nothing m (effect_of_outside xs) ≡ adds_nothing n (effect_of_outside xs)
adds_nothing-agree m n [] agree = refl
adds_nothing-agree m n (x ∷ xs) agree =
    elim (list_all (int_eq x) xs)
    as (λ b. adds_nothing m (if b then Forced x else NotUnit) ≡ adds_nothing n (if b then Forced x else NotUnit)) [
      | true ↦ (agree x (in_front x xs)).1
      | false ↦ refl
    ]

in_outside : (n : FalseSet) (clause : List ℤ) (x : ℤ) → literals_of (outside n clause) x ≡ true → literals_of clause x ≡ true
in_outside n clause x m = (and_parts (not (n x)) _ (sym (literals_of-filter (λ y. not (n y)) clause x) ∙ m)).1

pub closed_under-agree : (m n : FalseSet) (clause : List ℤ) → ((x : ℤ) → literals_of clause x ≡ true → Agree m n x)
    → closed_under m clause ≡ closed_under n clause
closed_under-agree m n clause agree =
    ap (λ l. adds_nothing m (effect_of_outside l)) (outside-agree m n clause agree)
    ∙ adds_nothing-agree m n (outside n clause) (λ x at. agree x (in_outside n clause x at))

all_closed-agree : (m n : FalseSet) (clauses : List (List ℤ)) → ((x : ℤ) → literals_of (flat_map (λ c. c) clauses) x ≡ true → Agree m n x)
    → list_all (closed_under n) clauses ≡ true → list_all (closed_under m) clauses ≡ true
all_closed-agree m n [] agree h = h
all_closed-agree m n (clause ∷ clauses) agree h =
    and_from _ _ (closed_under-agree m n clause (λ x at. agree x (in_left clause (flat_map (λ c. c) clauses) x at))
    ∙ (and_parts (closed_under n clause) _ h).0)
    (all_closed-agree m n clauses (λ x at. agree x (in_right clause (flat_map (λ c. c) clauses) x at))
    (and_parts (closed_under n clause) _ h).1)

-- the set that has the clause's literals, cut to those at hand
module _ (clauses : List (List ℤ)) (clause : List ℤ) (n : FalseSet) where
  abbrev cut : List ℤ
  cut = filter n (at_hand clauses clause)

  agree_at_hand : (x : ℤ) → literals_of (at_hand clauses clause) x ≡ true → literals_of cut x ≡ n x
  agree_at_hand x m =
      literals_of-filter n (at_hand clauses clause) x ∙ ap (λ b. n x && b) m
      ∙ elim (n x) as (λ b. (b && true) ≡ b) [ true ↦ refl | false ↦ refl ]

  cut_agrees : (x : ℤ) → literals_of (flat_map (λ c. c) (clause ∷ clauses)) x ≡ true → Agree (literals_of cut) n x
  cut_agrees x m =
      let both : (literals_of (with_negations (flat_map (λ c. c) (clause ∷ clauses))) x ≡ true)
      × (literals_of (with_negations (flat_map (λ c. c) (clause ∷ clauses))) (neg_ℤ x) ≡ true) =
      in_negations (flat_map (λ c. c) (clause ∷ clauses)) x m in
      (agree_at_hand x (in_distinct _ x both.0), agree_at_hand (neg_ℤ x) (in_distinct _ (neg_ℤ x) both.1))

  in_cut : (x : ℤ) → literals_of cut x ≡ true → n x ≡ true
  in_cut x m = (and_parts (n x) _ (sym (literals_of-filter n (at_hand clauses clause) x) ∙ m)).0

  cut_apart : IsQuiet clauses n → (x : ℤ) → literals_of cut x ≡ true → not (literals_of cut (neg_ℤ x)) ≡ true
  cut_apart q x m =
      not_from_false _ (false_from_ne_true _ (λ both. both_ways (n (neg_ℤ x)) (q.apart x (in_cut x m)) (in_cut (neg_ℤ x) both)))

  cut_quiet : IsQuiet clauses n → is_quiet clauses cut ≡ true
  cut_quiet q =
      and_from _ _ (all_members _ cut (cut_apart q))
      (all_closed-agree (literals_of cut) n clauses (λ x at. cut_agrees x (in_right clause (flat_map (λ c. c) clauses) x at)) q.closed)

  cut_has : Falsifies n clause → list_all (literals_of cut) clause ≡ true
  cut_has has =
      all_members (literals_of cut) clause
      (λ x at. (cut_agrees x (in_left clause (flat_map (λ c. c) clauses) x at)).0 ∙ at_member n clause has x at)

  pub has_quiet-some : IsQuiet clauses n → Falsifies n clause → has_quiet clauses clause ≡ true
  unfolding has_quiet
  has_quiet-some q has =
      some_subset-filter n (λ literals. is_quiet clauses literals && list_all (literals_of literals) clause) (at_hand clauses clause)
      (and_from _ _ (cut_quiet q) (cut_has has))

-- a quiet set that the test finds
pub record HasQuietSet (clauses : List (List ℤ)) (clause : List ℤ) : Type 0 where
  pub set : FalseSet
  pub quiet : IsQuiet clauses set
  pub falsifies : Falsifies set clause

IsQuiet-list : (clauses : List (List ℤ)) (literals : List ℤ) → is_quiet clauses literals ≡ true → IsQuiet clauses (literals_of literals)
IsQuiet-list clauses literals h =
    let both : (list_all (λ x. not (literals_of literals (neg_ℤ x))) literals ≡ true)
    × (list_all (closed_under (literals_of literals)) clauses ≡ true) = and_parts _ _ h in
    record {
      apart = λ x m. not-true _ (at_member (λ y. not (literals_of literals (neg_ℤ y))) literals both.0 x m);
      closed = both.1;
    }

pub some_list : (clauses : List (List ℤ)) (clause : List ℤ) → has_quiet clauses clause ≡ true
    → (literals : List ℤ) × IsQuiet clauses (literals_of literals) × Falsifies (literals_of literals) clause
unfolding has_quiet
some_list clauses clause h =
    let found : (chosen : List ℤ) × ((is_quiet clauses chosen && list_all (literals_of chosen) clause) ≡ true) =
    chosen_subset (λ literals. is_quiet clauses literals && list_all (literals_of literals) clause) (at_hand clauses clause) h in
    let both : (is_quiet clauses found.0 ≡ true) × (list_all (literals_of found.0) clause ≡ true) = and_parts _ _ found.1 in
    (found.0, IsQuiet-list clauses found.0 both.0, both.1)

pub some_quiet : (clauses : List (List ℤ)) (clause : List ℤ) → has_quiet clauses clause ≡ true → HasQuietSet clauses clause
some_quiet clauses clause h =
    let some = some_list clauses clause h in
    record { set = literals_of some.0; quiet = some.1; falsifies = some.2 }

pub no_quiet : (clauses : List (List ℤ)) (clause : List ℤ) → has_quiet clauses clause ≡ false → (n : FalseSet) → IsQuiet clauses n
    → Falsifies n clause → ⊥
no_quiet clauses clause none n q has = both_ways (has_quiet clauses clause) none (has_quiet-some clauses clause n q has)

pub has_quiet-none : (clauses : List (List ℤ)) (clause : List ℤ) → ((n : FalseSet) → IsQuiet clauses n → Falsifies n clause → ⊥)
    → has_quiet clauses clause ≡ false
has_quiet-none clauses clause none =
    false_from_ne_true _ (λ found.
    let some = some_quiet clauses clause found in
    none some.set some.quiet some.falsifies)
