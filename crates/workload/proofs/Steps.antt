-- One more number, square or domino of a list that a loop goes through.
use Rattle.std.proofs.Common.{◌≡◌, ℕ, zero, suc, ◌+◌, ◌-◌, ◌<◌, Bool, true, false, List, [], ◌∷◌, ◌++◌, refl, sym, ◌∙◌, ap, arith}
use Rattle.std.specs.Prelude.{map, cond, replicate}
use Rattle.std.specs.List.{filter, flat_map}
use Rattle.std.proofs.lemmas.List.{append-nil, map-append}
use Rattle.std.proofs.lemmas.Grind.{flat_map-append}
use Rattle.cnf_base.specs.Order.{natural}
use Rattle.schedule_plan.specs.declared.plan.Move.TheVariants.{And, Exists}
use Rattle.workload.specs.Schedule.{following, Conjoin, conjoining, quantifying, moves_of}
use Rattle.std.proofs.lemmas.Bool.{le-leb}

pub next : (k : ℕ) → 0 < k → natural (k + 1 - 1) ≡ natural (k - 1) ++ k ∷ []
next zero positive = absurd (omega (arith, positive))
next (suc j) positive =
    let whole : suc j + 1 - 1 ≡ suc j = omega arith in
    let before : suc j - 1 ≡ j = omega arith in
    ap natural whole ∙ ap (λ (i : ℕ). natural i ++ suc j ∷ []) (sym before)

pub flat_next : {A : Type 0} (f : ℕ → List A) (k : ℕ) → 0 < k → flat_map f (natural (k + 1 - 1)) ≡ flat_map f (natural (k - 1)) ++ f k
flat_next f k positive =
    ap (flat_map f) (next k positive) ∙ flat_map-append f (natural (k - 1)) (k ∷ [])
    ∙ ap (λ l. flat_map f (natural (k - 1)) ++ l) (append-nil (f k))

pub filter_append : {X : Type 0} (p : X → Bool) (xs ys : List X) → filter p (xs ++ ys) ≡ filter p xs ++ filter p ys
filter_append p [] ys = refl
filter_append p (x ∷ xs) ys =
    elim (p x) as (λ b. cond b (x ∷ filter p (xs ++ ys)) (filter p (xs ++ ys)) ≡ cond b (x ∷ filter p xs) (filter p xs) ++ filter p ys) [
      | true ↦ ap (λ l. x ∷ l) (filter_append p xs ys)
      | false ↦ filter_append p xs ys
    ]

-- the items of a row that pass, up to the next one
pub passing_next : {X : Type 0} (p : X → Bool) (g : ℕ → X) (k : ℕ) → 0 < k → filter p (map g (natural (k + 1 - 1)))
    ≡ filter p (map g (natural (k - 1))) ++ filter p (g k ∷ [])
passing_next p g k positive =
    ap (λ l. filter p (map g l)) (next k positive) ∙ ap (filter p) (map-append g (natural (k - 1)) (k ∷ []))
    ∙ filter_append p (map g (natural (k - 1))) (g k ∷ [])

pub one_passes : {X : Type 0} (p : X → Bool) (x : X) → p x ≡ true → filter p (x ∷ []) ≡ x ∷ []
one_passes p x passes = ap (λ b. cond b (x ∷ []) []) passes

pub none_passes : {X : Type 0} (p : X → Bool) (x : X) → p x ≡ false → filter p (x ∷ []) ≡ []
none_passes p x fails = ap (λ b. cond b (x ∷ []) []) fails

pub passed : {X A : Type 0} (f : X → List A) (p : X → Bool) (g : ℕ → X) (k : ℕ) → 0 < k → p (g k) ≡ true
    → flat_map f (filter p (map g (natural (k + 1 - 1)))) ≡ flat_map f (filter p (map g (natural (k - 1)))) ++ f (g k)
passed f p g k positive passes =
    ap (flat_map f) (passing_next p g k positive ∙ ap (λ l. filter p (map g (natural (k - 1))) ++ l) (one_passes p (g k) passes))
    ∙ flat_map-append f (filter p (map g (natural (k - 1)))) (g k ∷ [])
    ∙ ap (λ l. flat_map f (filter p (map g (natural (k - 1)))) ++ l) (append-nil (f (g k)))

pub skipped : {X A : Type 0} (f : X → List A) (p : X → Bool) (g : ℕ → X) (k : ℕ) → 0 < k → p (g k) ≡ false
    → flat_map f (filter p (map g (natural (k + 1 - 1)))) ≡ flat_map f (filter p (map g (natural (k - 1))))
skipped f p g k positive fails =
    ap (flat_map f) (passing_next p g k positive ∙ ap (λ l. filter p (map g (natural (k - 1))) ++ l) (none_passes p (g k) fails)
    ∙ append-nil (filter p (map g (natural (k - 1)))))

-- one more of the numbers that follow a number
pub following_next : (start count : ℕ) → following start (suc count) ≡ following start count ++ suc (start + count) ∷ []
following_next start zero = ap (λ (n : ℕ). suc n ∷ []) (omega arith)
following_next start (suc count) =
    ap (λ l. suc start ∷ l) (following_next (suc start) count ∙ ap (λ (n : ℕ). following (suc start) count ++ suc n ∷ []) (omega arith))

pub replicate_next : {X : Type 0} (x : X) (k : ℕ) → replicate (suc k) x ≡ replicate k x ++ x ∷ []
replicate_next x zero = refl
replicate_next x (suc k) = ap (λ l. x ∷ l) (replicate_next x k)

-- the moves of the lines that need not be there
pub conjoining_moves : (terms : ℕ) → flat_map moves_of (conjoining terms) ≡ replicate (terms - 1) And
conjoining_moves zero = refl
conjoining_moves (suc zero) = refl
conjoining_moves (suc (suc k)) =
    ap (λ b. flat_map moves_of (cond b (Conjoin (suc (suc k)) ∷ []) [])) (le-leb 2 (suc (suc k)) (omega arith))
    ∙ append-nil (replicate (suc (suc k) - 1) And)

pub quantifying_moves : (variables : List ℕ) → flat_map moves_of (quantifying variables) ≡ map Exists variables
quantifying_moves [] = refl
quantifying_moves (x ∷ more) = append-nil (map Exists (x ∷ more))

pub following_split : (start one other : ℕ) → following start (one + other) ≡ following start one ++ following (start + one) other
following_split start zero other = (λ i. following (let e : start ≡ start + 0 = omega arith in e i) (let f : 0 + other
    ≡ other = omega arith in f i))
following_split start (suc one) other =
    let count : suc one + other ≡ suc (one + other) = omega arith in
    let from : suc start + one ≡ start + suc one = omega arith in
    ap (following start) count ∙ ap (λ l. suc start ∷ l) (following_split (suc start) one other
    ∙ ap (λ (k : ℕ). following (suc start) one ++ following k other) from)
