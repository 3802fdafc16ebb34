-- Steps by new names can be written and read again: a text within the limit has too few literals for a name beyond the format's range.
use Rattle.std.proofs.Common.{◌≡◌, ◌<◌, ◌≤◌, ℕ, zero, suc, ◌+◌, ◌*◌, Bool, true, false, ℤ, pos, negsuc, neg_ℤ, List, [], ◌∷◌, ◌++◌}
use Rattle.std.proofs.Common.{length, map, refl, ap, ◌∙◌, subst, arith, nat_eq, length-append, if◌then◌else◌}
use Rattle.std.specs.Prelude.{◌&&◌, ◌==◌, ◌/◌, ◌%◌, nat_abs, nat_le, nat_lt, codes}
use Rattle.std.specs.Fmt.{decimal, digit_glyph, digits, digits_onto, signed_decimal}
use Rattle.std.specs.List.{flat_map, list_all}
use Rattle.std.proofs.lemmas.Bool.{and_parts, and_from, le-leb, leb-true}
use Rattle.std.proofs.lemmas.Bool.Decides.{Decides-ltb}
use Rattle.cnf_base.specs.Limits.{max_bytes, max_vars}
use Rattle.cnf_base.specs.ProofText.{max_literal}
use Rattle.cnf_base.specs.Truth.{is_literal_of}
use Rattle.drat_text.specs.declared.step.DratStep.{DratStep}
use Rattle.drat_text.specs.declared.step.DratStep.TheVariants.{Add as adds, Delete as deletes}
use Rattle.drat_text.specs.DratText.{clause_in, drat_text, is_drat_printable, line_of_drat}
use Rattle.drat_text.specs.LineText.{literal_text}
use Rattle.drat_text.proofs.Lines.{step_text-line}
use Rattle.fresh_names.specs.Fresh.{Names, all_entered, all_left, entered, entered_as, first_names, fresh, fresh_from, is_new, left, named}
use Rattle.fresh_names.specs.Fresh.{named_step, names_after}

-- Each literal takes two bytes of a text: a digit and a space.
onto-some : (k base : ℕ) (upper : Bool) (n : ℕ) (acc : List ℕ) → 0 < length acc → 0 < length (digits_onto k base upper n acc)
onto-some zero base upper n acc some = some
onto-some (suc k) base upper n acc some =
    elim (n / base == 0)
    as (λ b. 0 < length (if b then digit_glyph upper (n % base) ∷ acc else digits_onto k base upper (n / base)
    (digit_glyph upper (n % base) ∷ acc))) [
      | true ↦ omega arith
      | false ↦ onto-some k base upper (n / base) (digit_glyph upper (n % base) ∷ acc) (omega arith)
    ]

decimal-some : (n : ℕ) → 0 < length (decimal n)
unfolding digits
decimal-some n =
    elim (n / 10 == 0)
    as (λ b. 0 < length (if b then digit_glyph false (n % 10) ∷ [] else digits_onto 63 10 false (n / 10) (digit_glyph false (n % 10) ∷ []))) [
      | true ↦ omega arith
      | false ↦ onto-some 63 10 false (n / 10) (digit_glyph false (n % 10) ∷ []) (omega arith)
    ]

signed-some : (x : ℤ) → 0 < length (signed_decimal x)
signed-some (pos n) = decimal-some n
signed-some (negsuc n) = omega arith

literal-bytes : (x : ℤ) → 2 ≤ length (literal_text x)
literal-bytes x = omega (arith, length-append (signed_decimal x) (codes " "), signed-some x)

clause-bytes : (clause : List ℤ) → 2 * length clause ≤ length (flat_map literal_text clause)
clause-bytes [] = omega arith
clause-bytes (x ∷ clause) =
    omega (arith, length-append (literal_text x) (flat_map literal_text clause), literal-bytes x, clause-bytes clause)

part-bytes : (front clause end : List ℕ) (n : ℕ) → n ≤ length clause → n ≤ length (front ++ (clause ++ end))
part-bytes front clause end n less = omega (arith, length-append front (clause ++ end), length-append clause end, less)

line-bytes : (step : DratStep) → 2 * length (clause_in step) ≤ length (line_of_drat step)
line-bytes (adds clause) =
    subst (λ (l : List ℕ). 2 * length clause ≤ length l) (step_text-line false clause)
    (part-bytes [] (flat_map literal_text clause) (codes "0\n") (2 * length clause) (clause-bytes clause))
line-bytes (deletes clause) =
    subst (λ (l : List ℕ). 2 * length clause ≤ length l) (step_text-line true clause)
    (part-bytes (codes "d ") (flat_map literal_text clause) (codes "0\n") (2 * length clause) (clause-bytes clause))

-- how many literals steps have
abbrev literals_in : List DratStep → ℕ
literals_in [] = 0
literals_in (step ∷ steps) = length (clause_in step) + literals_in steps

text-bytes : (steps : List DratStep) → 2 * literals_in steps ≤ length (drat_text steps)
text-bytes [] = omega arith
text-bytes (step ∷ steps) = omega (arith, length-append (line_of_drat step) (drat_text steps), line-bytes step, text-bytes steps)

same-length : (f : ℤ → ℤ) (clause : List ℤ) → length (map f clause) ≡ length clause
same-length f [] = refl
same-length f (x ∷ clause) = ap suc (same-length f clause)

same-count : (name : ℕ → ℕ) (step : DratStep) → length (clause_in (named_step name step)) ≡ length (clause_in step)
same-count name (adds clause) = same-length (named name) clause
same-count name (deletes clause) = same-length (named name) clause

as-many : (vars : ℕ) (names : Names) (steps : List DratStep) → literals_in (fresh_from vars names steps) ≡ literals_in steps
as-many vars names [] = refl
as-many vars names (step ∷ steps) =
    let first = same-count (names_after vars names step).name step in
    let rest = as-many vars (names_after vars names step) steps in
    omega (arith, first, rest)

-- The names are in the format's range, and so are as many new ones as there are literals to come.
record AreWithin (names : Names) (literals : ℕ) : Type 0 where
  pub name : (v : ℕ) → 0 < v → v ≤ max_literal → (0 < names.name v) × (names.name v ≤ max_literal)
  pub some : 0 < names.next
  pub room : names.next + literals ≤ max_literal + 1

entered-within : (vars : ℕ) (names : Names) (v literals : ℕ) → AreWithin names (suc literals) → AreWithin (entered vars names v) literals
entered-within vars names v literals are =
    elim (is_new vars names v) as (λ b. AreWithin (entered_as b names v) literals) [
      | true ↦ record {
        name = λ w some fits.
            elim (nat_eq w v)
            as (λ b. (0 < (if b then names.next else names.name w)) × ((if b then names.next else names.name w) ≤ max_literal)) [
              | true ↦ (are.some, omega (arith, are.room))
              | false ↦ are.name w some fits
            ];
        some = omega (arith, are.some);
        room = omega (arith, are.room);
      }
      | false ↦ record { name = are.name; some = are.some; room = omega (arith, are.room) }
    ]

all-entered-within : (vars : ℕ) (names : Names) (clause : List ℤ) (literals : ℕ) → AreWithin names (length clause + literals)
    → AreWithin (all_entered vars names clause) literals
all-entered-within vars names [] literals are = record { name = are.name; some = are.some; room = omega (arith, are.room) }
all-entered-within vars names (x ∷ clause) literals are =
    all-entered-within vars (entered vars names (nat_abs x)) clause literals
    (entered-within vars names (nat_abs x) (length clause + literals)
    record { name = are.name; some = are.some; room = omega (arith, are.room) })

all-left-within : (names : Names) (clause : List ℤ) (literals : ℕ) → AreWithin names literals → AreWithin (all_left names clause) literals
all-left-within names [] literals are = are
all-left-within names (x ∷ clause) literals are =
    all-left-within (left names (nat_abs x)) clause literals record { name = are.name; some = are.some; room = are.room }

after-within : (vars : ℕ) (names : Names) (step : DratStep) (literals : ℕ) → AreWithin names (length (clause_in step) + literals)
    → AreWithin (names_after vars names step) literals
after-within vars names (adds clause) literals are = all-entered-within vars names clause literals are
after-within vars names (deletes clause) literals are =
    all-left-within names clause literals record { name = are.name; some = are.some; room = omega (arith, are.room) }

-- a literal by its variable's name
abs-negated : (n : ℕ) → nat_abs (neg_ℤ (pos n)) ≡ n
abs-negated zero = refl
abs-negated (suc n) = refl

abs-named : (name : ℕ → ℕ) (x : ℤ) → nat_abs (named name x) ≡ name (nat_abs x)
abs-named name (pos n) = refl
abs-named name (negsuc n) = let more : n + 1 ≡ suc n = omega arith in abs-negated (name (n + 1)) ∙ ap name more

literal-within : (names : Names) (literals : ℕ) → AreWithin names literals → (x : ℤ) → is_literal_of max_literal x ≡ true
    → is_literal_of max_literal (named names.name x) ≡ true
literal-within names literals are x is =
    let parts = and_parts (nat_lt 0 (nat_abs x)) _ is in
    let within = are.name (nat_abs x) ((Decides-ltb 0 (nat_abs x)).0 parts.0) (leb-true (nat_abs x) max_literal parts.1) in
    ap (λ n. nat_lt 0 n && nat_le n max_literal) (abs-named names.name x)
    ∙ and_from _ _ ((Decides-ltb 0 (names.name (nat_abs x))).1 within.0) (le-leb (names.name (nat_abs x)) max_literal within.1)

clause-within : (names : Names) (literals : ℕ) → AreWithin names literals → (clause : List ℤ)
    → list_all (is_literal_of max_literal) clause ≡ true → list_all (is_literal_of max_literal) (map (named names.name) clause) ≡ true
clause-within names literals are [] all = refl
clause-within names literals are (x ∷ clause) all =
    let parts = and_parts (is_literal_of max_literal x) _ all in
    and_from _ _ (literal-within names literals are x parts.0) (clause-within names literals are clause parts.1)

step-within : (names : Names) (literals : ℕ) → AreWithin names literals → (step : DratStep) → is_drat_printable step ≡ true
    → is_drat_printable (named_step names.name step) ≡ true
step-within names literals are (adds clause) is = clause-within names literals are clause is
step-within names literals are (deletes clause) is = clause-within names literals are clause is

steps-within : (vars : ℕ) (names : Names) (steps : List DratStep) → AreWithin names (literals_in steps)
    → list_all is_drat_printable steps ≡ true → list_all is_drat_printable (fresh_from vars names steps) ≡ true
steps-within vars names [] are all = refl
steps-within vars names (step ∷ steps) are all =
    let parts = and_parts (is_drat_printable step) _ all in
    let next = after-within vars names step (literals_in steps) are in
    and_from _ _ (step-within (names_after vars names step) (literals_in steps) next step parts.0)
    (steps-within vars (names_after vars names step) steps next parts.1)

pub fresh-printable : (vars : ℕ) (steps : List DratStep) → vars ≤ max_vars → list_all is_drat_printable steps ≡ true
    → length (drat_text (fresh vars steps)) ≤ max_bytes → list_all is_drat_printable (fresh vars steps) ≡ true
fresh-printable vars steps few all short =
    let bytes : 2 * literals_in (fresh vars steps) ≤ length (drat_text (fresh vars steps)) = text-bytes (fresh vars steps) in
    let same : literals_in (fresh vars steps) ≡ literals_in steps = as-many vars (first_names vars) steps in
    steps-within vars (first_names vars) steps
    record { name = λ v some fits. (some, fits); some = omega arith; room = omega (arith, few, bytes, same, short) } all
