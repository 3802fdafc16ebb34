-- Hints cut to those that are taken: they lead where all led, are cut no more, and name live clauses alone. And where two maps have the
-- same clauses under the hints, these lead the same way.
use Rattle.std.proofs.Common.{◌≡◌, ℕ, zero, suc, ◌≤◌, Bool, true, false, ℤ, neg_ℤ, List, [], ◌∷◌, length, take, Some, None}
use Rattle.std.proofs.Common.{is_some, nat_eq, refl, sym, ap, ◌∙◌, arith, inl, inr, eqb-true, eq-eqb}
use Rattle.std.specs.List.{list_any}
use Rattle.std.proofs.lemmas.Bool.{or_cases, or_left, or_right}
use Rattle.std.proofs.lemmas.List.{take_all}
use Rattle.lrat_rules.specs.declared.outcome.Effect.{Effect}
use Rattle.lrat_rules.specs.declared.outcome.Effect.TheVariants.{Conflict, Unit as Forced, NotUnit}
use Rattle.lrat_rules.specs.State.{Live, clause_at}
use Rattle.lrat_rules.specs.Chain.{FalseSet, with_literal, effect, after_effect, after_hint, chain, Outcome, Open, Closed, Bad}
use Rattle.lrat_checker.specs.Cuts.{used_by_effect, used_by_clause, used}

-- the number is one of these
abbrev pub has_id : List ℕ → ℕ → Bool
has_id ids id = list_any (nat_eq id) ids

-- under these numbers both maps have the same
abbrev pub Agree : Live → Live → List ℕ → Type 0
Agree live other ids = (id : ℕ) → has_id ids id ≡ true → clause_at other id ≡ clause_at live id

pub head_agrees : (live other : Live) (id : ℕ) (ids : List ℕ) → Agree live other (id ∷ ids) → clause_at other id ≡ clause_at live id
head_agrees live other id ids agree = agree id (or_left (nat_eq id id) (has_id ids id) (eq-eqb id id refl))

pub tail_agrees : (live other : Live) (id : ℕ) (ids : List ℕ) → Agree live other (id ∷ ids) → Agree live other ids
tail_agrees live other id ids agree x h = agree x (or_right (nat_eq x id) (has_id ids x) h)

pub chain_agrees : (live other : Live) (n : FalseSet) (hints : List ℕ) → Agree live other hints → chain other n hints ≡ chain live n hints
chain_agrees live other n [] agree = refl
chain_agrees live other n (hint ∷ hints) agree = λ i.
    after_hint n (λ m. chain_agrees live other m hints (tail_agrees live other hint hints agree) i) (head_agrees live other hint hints
    agree i)

pub used_agrees : (live other : Live) (n : FalseSet) (hints : List ℕ) → Agree live other hints → used other n hints ≡ used live n hints
used_agrees live other n [] agree = refl
used_agrees live other n (hint ∷ hints) agree = λ i.
    used_by_clause n (λ m. used_agrees live other m hints (tail_agrees live other hint hints agree) i)
    (head_agrees live other hint hints agree i)

-- the hints that are taken
abbrev pub taken : Live → FalseSet → List ℕ → List ℕ
taken live n hints = take (used live n hints) hints

-- where the first hint leads
module _ (live : Live) (n : FalseSet) (hint : ℕ) (hints : List ℕ) where
  at_effect : (count : ℕ) (clause : List ℤ) (e : Effect) → clause_at live hint ≡ Some clause → effect n clause ≡ e
      → chain live n (take (suc count) (hint ∷ hints)) ≡ after_effect n (λ m. chain live m (take count hints)) e
  at_effect count clause e is does =
      ap (after_hint n (λ m. chain live m (take count hints))) is ∙ ap (after_effect n (λ m. chain live m (take count hints))) does

  pub used_effect : (clause : List ℤ) (e : Effect) → clause_at live hint ≡ Some clause → effect n clause ≡ e
      → used live n (hint ∷ hints) ≡ used_by_effect n (λ m. used live m hints) e
  used_effect clause e is does = ap (used_by_clause n (λ m. used live m hints)) is ∙ ap (used_by_effect n (λ m. used live m hints)) does

  pub leads : (clause : List ℤ) (e : Effect) → clause_at live hint ≡ Some clause → effect n clause ≡ e
      → chain live n (hint ∷ hints) ≡ after_effect n (λ m. chain live m hints) e
  leads clause e is does = ap (after_hint n (λ m. chain live m hints)) is ∙ ap (after_effect n (λ m. chain live m hints)) does

-- What a chain that isn't bad says of its first hint: it is live, and a conflict or a unit.
pub data First (live : Live) (n : FalseSet) (hint : ℕ) : Type 0 where
  conflicts : (clause : List ℤ) → clause_at live hint ≡ Some clause → effect n clause ≡ Conflict → First live n hint
  forces : (clause : List ℤ) (literal : ℤ) → clause_at live hint ≡ Some clause → effect n clause ≡ Forced literal → First live n hint

-- it is no bad outcome
abbrev pub is_fine : Outcome → Bool
is_fine (Bad reason) = false
is_fine (Open n) = true
is_fine Closed = true

pub first_of_fine : (live : Live) (n : FalseSet) (hint : ℕ) (hints : List ℕ) → is_fine (chain live n (hint ∷ hints)) ≡ true
    → First live n hint
first_of_fine live n hint hints fine =
    elim (clause_at live hint) as (λ p. clause_at live hint ≡ p → is_fine (after_hint n (λ m. chain live m hints) p) ≡ true
    → First live n hint) [
      | None ↦ λ is f. cc
      | Some clause ↦ λ is f.
          elim (effect n clause) as (λ e. effect n clause ≡ e → is_fine (after_effect n (λ m. chain live m hints) e) ≡ true
          → First live n hint) [
            | Conflict ↦ λ does g. conflicts clause is does
            | Forced literal ↦ λ does g. forces clause literal is does
            | NotUnit ↦ λ does g. cc
          ] refl f
    ] refl fine

-- The hints that are taken lead where all of them lead.
pub chain_taken : (live : Live) (n : FalseSet) (hints : List ℕ) → is_fine (chain live n hints) ≡ true
    → chain live n (taken live n hints) ≡ chain live n hints
chain_taken live n [] fine = refl
chain_taken live n (hint ∷ hints) fine =
    elim (first_of_fine live n hint hints fine) [
      | conflicts clause is does ↦
          ap (λ (k : ℕ). chain live n (take k (hint ∷ hints))) (used_effect live n hint hints clause Conflict is does)
          ∙ at_effect live n hint hints 0 clause Conflict is does ∙ sym (leads live n hint hints clause Conflict is does)
      | forces clause literal is does ↦
          let m : FalseSet = with_literal (neg_ℤ literal) n in
          let led : chain live n (hint ∷ hints) ≡ chain live m hints = leads live n hint hints clause (Forced literal) is does in
          ap (λ (k : ℕ). chain live n (take k (hint ∷ hints))) (used_effect live n hint hints clause (Forced literal) is does)
          ∙ at_effect live n hint hints (used live m hints) clause (Forced literal) is does
          ∙ chain_taken live m hints (sym (ap is_fine led) ∙ fine) ∙ sym led
    ]

-- They are cut no more.
pub used_again : (live : Live) (n : FalseSet) (hints : List ℕ) → is_fine (chain live n hints) ≡ true
    → used live n (taken live n hints) ≡ used live n hints
used_again live n [] fine = refl
used_again live n (hint ∷ hints) fine =
    elim (first_of_fine live n hint hints fine) [
      | conflicts clause is does ↦
          let count : used live n (hint ∷ hints) ≡ 1 = used_effect live n hint hints clause Conflict is does in
          ap (λ (k : ℕ). used live n (take k (hint ∷ hints))) count
          ∙ used_effect live n hint [] clause Conflict is does ∙ sym count
      | forces clause literal is does ↦
          let m : FalseSet = with_literal (neg_ℤ literal) n in
          let count : used live n (hint ∷ hints) ≡ suc (used live m hints) = used_effect live n hint hints clause (Forced literal) is does
          in
          let led : chain live n (hint ∷ hints) ≡ chain live m hints = leads live n hint hints clause (Forced literal) is does in
          ap (λ (k : ℕ). used live n (take k (hint ∷ hints))) count
          ∙ used_effect live n hint (taken live m hints) clause (Forced literal) is does
          ∙ ap suc (used_again live m hints (sym (ap is_fine led) ∙ fine)) ∙ sym count
    ]

take_short : (k : ℕ) (hints : List ℕ) → length (take k hints) ≤ k
take_short zero hints = omega arith
take_short (suc k) [] = omega arith
take_short (suc k) (hint ∷ hints) = omega (arith, take_short k hints)

pub taken_again : (live : Live) (n : FalseSet) (hints : List ℕ) → is_fine (chain live n hints) ≡ true
    → taken live n (taken live n hints) ≡ taken live n hints
taken_again live n hints fine =
    ap (λ (k : ℕ). take k (taken live n hints)) (used_again live n hints fine)
    ∙ take_all (used live n hints) (taken live n hints) (take_short (used live n hints) hints)

-- They name live clauses.
pub taken_live : (live : Live) (n : FalseSet) (hints : List ℕ) → is_fine (chain live n hints) ≡ true → (id : ℕ)
    → has_id (taken live n hints) id ≡ true → is_some (clause_at live id) ≡ true
taken_live live n [] fine id h = cc
taken_live live n (hint ∷ hints) fine id h =
    elim (first_of_fine live n hint hints fine) [
      | conflicts clause is does ↦
          let one : has_id (hint ∷ []) id ≡ true =
          sym (ap (λ (k : ℕ). has_id (take k (hint ∷ hints)) id) (used_effect live n hint hints clause Conflict is does)) ∙ h in
          elim (or_cases (nat_eq id hint) false one) [
            | inl here ↦ ap is_some (ap (clause_at live) (eqb-true id hint here) ∙ is)
            | inr later ↦ cc
          ]
      | forces clause literal is does ↦
          let m : FalseSet = with_literal (neg_ℤ literal) n in
          let led : chain live n (hint ∷ hints) ≡ chain live m hints = leads live n hint hints clause (Forced literal) is does in
          let more : has_id (hint ∷ taken live m hints) id ≡ true =
          sym (ap (λ (k : ℕ). has_id (take k (hint ∷ hints)) id) (used_effect live n hint hints clause (Forced literal) is does)) ∙ h in
          elim (or_cases (nat_eq id hint) (has_id (taken live m hints) id) more) [
            | inl here ↦ ap is_some (ap (clause_at live) (eqb-true id hint here) ∙ is)
            | inr later ↦ taken_live live m hints (sym (ap is_fine led) ∙ fine) id later
          ]
    ]
