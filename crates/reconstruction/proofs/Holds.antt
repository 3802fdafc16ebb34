-- Whether some values of a set's variables make a function true, and which values they are set back to.
use Rattle.std.proofs.Common.{◌≡◌, ◌∙◌, ◌<◌, ◌==◌, ◌||◌, ℕ, Bool, true, false, not, List, [], ◌∷◌, refl, sym, ap, inl, inr, arith, eq-eqb}
use Rattle.std.proofs.Common.{ne_eqb}
use Rattle.std.specs.Prelude.{if◌then◌else◌}
use Rattle.std.proofs.lemmas.Bool.{cases_eq, cases_Bool}
use Rattle.cnf_base.specs.Truth.{Assignment, with_value}
use Rattle.clause_terms.specs.Walk.{AreAlike}
use Rattle.reconstruction.specs.Ranks.{AreRising}
use Rattle.reconstruction.specs.SetsBack.{holds_by, is_among, one_back_by, set_back_by}
use Rattle.reconstruction.specs.Way.{IsWalked}
use Rattle.reconstruction.proofs.SetBackAlike.{AsksAlike}

-- the same values of the variables that aren't among these
abbrev pub AreBeside : List ℕ → Assignment → Assignment → Type 0
AreBeside xs a b = (v : ℕ) → 0 < v → is_among xs v ≡ false → b v ≡ a v

-- one value set
pub set_at : (a : Assignment) (x : ℕ) (t : Bool) (v : ℕ) → v ≡ x → with_value a x t v ≡ t
set_at a x t v same = ap (λ b. if b then t else a v) (eq-eqb v x same)

pub set_off : (a : Assignment) (x : ℕ) (t : Bool) (v : ℕ) → (v ≡ x → ⊥) → with_value a x t v ≡ a v
set_off a x t v differ = ap (λ b. if b then t else a v) (ne_eqb v x differ)

-- a variable among some, and one more
pub not_among : (v x : ℕ) (xs : List ℕ) → (v ≡ x → ⊥) → is_among xs v ≡ false → is_among (x ∷ xs) v ≡ false
not_among v x xs differ none = ap (λ b. b || is_among xs v) (ne_eqb v x differ) ∙ none

pub among_first : (v x : ℕ) (xs : List ℕ) → v ≡ x → is_among (x ∷ xs) v ≡ true
among_first v x xs same = ap (λ b. b || is_among xs v) (eq-eqb v x same)

pub among_more : (v x : ℕ) (xs : List ℕ) → is_among xs v ≡ true → is_among (x ∷ xs) v ≡ true
among_more v x xs is = (λ i. (v == x) || is i) ∙ or_true (v == x)
  where
    or_true : (b : Bool) → (b || true) ≡ true
    or_true true = refl
    or_true false = refl

pub none_among : (v x : ℕ) (xs : List ℕ) → is_among (x ∷ xs) v ≡ false → (v ≡ x → ⊥) × (is_among xs v ≡ false)
none_among v x xs none = (
  (λ same. absurd (let no : true ≡ false = sym (among_first v x xs same) ∙ none in cc)),
  later (v == x) (is_among xs v) none,
)
  where
    later : (a b : Bool) → (a || b) ≡ false → b ≡ false
    later true b is = absurd (let no : true ≡ false = is in cc)
    later false b is = is

beside_one : (x : ℕ) (xs : List ℕ) (a b : Assignment) → AreBeside (x ∷ xs) a b → AreBeside xs (with_value a x (b x)) b
beside_one x xs a b beside v some none = elim (cases_eq v x) [
  | inl same ↦ ap b same ∙ sym (set_at a x (b x) v same)
  | inr differ ↦ beside v some (not_among v x xs differ none) ∙ sym (set_off a x (b x) v differ)
]

beside_more : (x : ℕ) (xs : List ℕ) (a b : Assignment) (t : Bool) → AreBeside xs (with_value a x t) b → AreBeside (x ∷ xs) a b
beside_more x xs a b t beside v some none =
    let head = none_among v x xs none in beside v some head.1 ∙ set_off a x t v head.0

beside_both : (x : ℕ) (xs : List ℕ) (a b : Assignment) (s t : Bool) → t ≡ s → AreBeside (x ∷ xs) a b
    → AreBeside xs (with_value a x s) (with_value b x t)
beside_both x xs a b s t is beside v some none = elim (cases_eq v x) [
  | inl same ↦ set_at b x t v same ∙ is ∙ sym (set_at a x s v same)
  | inr differ ↦ set_off b x t v differ ∙ beside v some (not_among v x xs differ none) ∙ sym (set_off a x s v differ)
]

-- values that make it true, and none that do
any_of : (g : Bool → Bool) (t : Bool) → g t ≡ true → (g true || g false) ≡ true
any_of g true is = ap (λ b. b || g false) is
any_of g false is = (λ i. g true || is i) ∙ or_true (g true)
  where
    or_true : (b : Bool) → (b || true) ≡ true
    or_true true = refl
    or_true false = refl

pub holds_some : (f : Assignment → Bool) → AsksAlike f → (xs : List ℕ) (a b : Assignment) → AreBeside xs a b → f b ≡ true
    → holds_by f xs a ≡ true
holds_some f asks [] a b beside is = sym (asks b a (record { same = λ v some. beside v some refl })) ∙ is
holds_some f asks (x ∷ xs) a b beside is =
    any_of (λ t. holds_by f xs (with_value a x t)) (b x) (holds_some f asks xs (with_value a x (b x)) b (beside_one x xs a b beside) is)

pub holds_none : (f : Assignment → Bool) (xs : List ℕ) (a : Assignment) → ((b : Assignment) → AreBeside xs a b → f b ≡ false)
    → holds_by f xs a ≡ false
holds_none f [] a none = none a (λ v some is. refl)
holds_none f (x ∷ xs) a none = λ i.
    holds_none f xs (with_value a x true) (λ b beside. none b (beside_more x xs a b true beside)) i
    || holds_none f xs (with_value a x false) (λ b beside. none b (beside_more x xs a b false beside)) i

-- The set's own values don't matter.
holds_same : (f : Assignment → Bool) → AsksAlike f → (xs : List ℕ) (a b : Assignment) → AreBeside xs a b → holds_by f xs b ≡ holds_by f xs a
holds_same f asks [] a b beside = asks b a (record { same = λ v some. beside v some refl })
holds_same f asks (x ∷ xs) a b beside = λ i.
    holds_same f asks xs (with_value a x true) (with_value b x true) (beside_both x xs a b true true refl beside) i
    || holds_same f asks xs (with_value a x false) (with_value b x false) (beside_both x xs a b false false refl beside) i

pub back_same : (f : Assignment → Bool) → AsksAlike f → (xs : List ℕ) (a b : Assignment) → AreBeside xs a b
    → AreAlike (set_back_by f b xs) (set_back_by f a xs)
back_same f asks [] a b beside = record { same = λ v some. beside v some refl }
back_same f asks (x ∷ xs) a b beside =
    back_same f asks xs (one_back_by f a x xs) (one_back_by f b x xs)
    (beside_both x xs a b (not (holds_by f xs (with_value a x false))) (not (holds_by f xs (with_value b x false)))
    (ap not (holds_same f asks xs (with_value a x false) (with_value b x false) (beside_both x xs a b false false refl beside))) beside)

-- The values of a walk are those that the set is set back to: by steps, where those set so far are the walk's.
module _ (f : Assignment → Bool) (asks : AsksAlike f) (rank : ℕ → ℕ) (a w : Assignment) (walked : IsWalked f rank a w) where
  own : (x : ℕ) (xs : List ℕ) (c : Assignment) → 0 < x → 0 < rank x → ((v : ℕ) → 0 < v → is_among xs v ≡ true → rank x < rank v)
      → AreBeside (x ∷ xs) w c → not (holds_by f xs (with_value c x false)) ≡ w x
  own x xs c some ranked rising beside = elim (w x) as (λ t. w x ≡ t → not (holds_by f xs (with_value c x false)) ≡ t) [
    | true ↦ λ on. ap not (holds_none f xs (with_value c x false) (λ b agrees. walked.least x some ranked on b
        (λ v above less. lower v above less b agrees) (agrees x some (alone x some refl) ∙ set_at c x false x refl)))
    | false ↦ λ off. ap not (holds_some f asks xs (with_value c x false) w (witness off) (walked.holds x some ranked off))
  ] refl
    where
      -- no variable of at most this rank is a later one
      alone : (v : ℕ) → 0 < v → v ≡ x → is_among xs v ≡ false
      alone v above same = elim (cases_Bool (is_among xs v)) [
        | inl among ↦ absurd (let less = rising v above among in let as_x : rank v ≡ rank x = ap rank same in omega (arith, less, as_x))
        | inr none ↦ none
      ]

      early : (v : ℕ) → 0 < v → rank v < rank x → is_among xs v ≡ false
      early v above less = elim (cases_Bool (is_among xs v)) [
        | inl among ↦ absurd (let more = rising v above among in omega (arith, less, more))
        | inr none ↦ none
      ]

      lower : (v : ℕ) → 0 < v → rank v < rank x → (b : Assignment) → AreBeside xs (with_value c x false) b → b v ≡ w v
      lower v above less b agrees =
          let differ : v ≡ x → ⊥ = λ same. let as_x : rank v ≡ rank x = ap rank same in omega (arith, less, as_x) in
          let none = early v above less in
          agrees v above none ∙ set_off c x false v differ ∙ beside v above (not_among v x xs differ none)

      witness : w x ≡ false → AreBeside xs (with_value c x false) w
      witness off v above none = elim (cases_eq v x) [
        | inl same ↦ ap w same ∙ off ∙ sym (set_at c x false v same)
        | inr differ ↦ sym (beside v above (not_among v x xs differ none)) ∙ sym (set_off c x false v differ)
      ]

  decided : (xs : List ℕ) → AreRising rank xs → ((v : ℕ) → is_among xs v ≡ true → 0 < v)
      → ((v : ℕ) → 0 < v → is_among xs v ≡ true → 0 < rank v) → (c : Assignment) → AreBeside xs w c → AreAlike (set_back_by f c xs) w
  decided [] rising some ranked c beside = record { same = λ v above. beside v above refl }
  decided (x ∷ xs) rising some ranked c beside =
      let first : 0 < x = some x (among_first x x xs refl) in
      let value = own x xs c first (ranked x first (among_first x x xs refl)) rising.0 beside in
      decided xs rising.1 (λ v among. some v (among_more v x xs among)) (λ v above among. ranked v above (among_more v x xs among))
      (one_back_by f c x xs) (λ v above none. elim (cases_eq v x) [
        | inl same ↦ set_at c x (not (holds_by f xs (with_value c x false))) v same ∙ value ∙ ap w (sym same)
        | inr differ ↦ set_off c x (not (holds_by f xs (with_value c x false))) v differ ∙ beside v above (not_among v x xs differ none)
      ])

  pub walked_back : (xs : List ℕ) → AreRising rank xs → ((v : ℕ) → is_among xs v ≡ true → 0 < v)
      → ((v : ℕ) → 0 < v → is_among xs v ≡ true → 0 < rank v) → ((v : ℕ) → 0 < v → is_among xs v ≡ false → rank v ≡ 0)
      → AreAlike w (set_back_by f a xs)
  walked_back xs rising some ranked others =
      let all = decided xs rising some ranked a (λ v above none. sym (walked.rest v above (others v above none))) in
      record { same = λ v above. sym (all.same v above) }
