-- Codes on a stack, up to the 0 that ends them.
use Rattle.std.proofs.Common.{◌≡◌, ℕ, ℤ, Bool, true, false, ◌||◌, List, [], ◌∷◌, ◌++◌, refl, sym, ap, ◌∙◌, subst}
use Rattle.std.specs.Prelude.{map, reverse, nat_eq, if◌then◌else◌}
use Rattle.std.specs.List.{flat_map, list_any}
use Rattle.std.proofs.lemmas.List.{reverse-append}
use Rattle.std.proofs.lemmas.List.Folds.{list_any-append}
use Rattle.std.proofs.Math.Bool.{or_comm}
use Rattle.std.specs.Prelude.{nat_abs}
use Rattle.std.specs.Int.{is_negative}
use Rattle.cnf_base.specs.declared.list.Group.{Group}
use Rattle.cnf_base.specs.declared.step.Step.TheVariants.{Add}
use Rattle.proof_trim.specs.Trimmed.{group_names, names}
use Rattle.proof_trim.specs.Packed.{hint_code, literal_code, group_codes, hint_codes, codes_ahead, behind_codes}
use Rattle.proof_trim.proofs.Moved.{is_code_of}
use Rattle.proof_trim.proofs.Spelled.{never_zero, number_again}

-- none of them is 0
abbrev pub AreCodes : List ℕ → Type 0
AreCodes [] = Unit {0}
AreCodes (code ∷ codes) = (nat_eq code 0 ≡ false) × AreCodes codes

pub codes-append : (xs ys : List ℕ) → AreCodes xs → AreCodes ys → AreCodes (xs ++ ys)
codes-append [] ys are more = more
codes-append (x ∷ xs) ys are more = (are.0, codes-append xs ys are.1 more)

pub codes-reverse : (xs : List ℕ) → AreCodes xs → AreCodes (reverse xs)
codes-reverse [] are = tt
codes-reverse (x ∷ xs) are = subst AreCodes (sym (reverse-append (x ∷ []) xs)) (codes-append (reverse xs) (x ∷ []) (codes-reverse xs
    are.1) (are.0, tt))

pub codes-literals : (clause : List ℤ) → AreCodes (map literal_code clause)
codes-literals [] = tt
codes-literals (literal ∷ clause) = (never_zero (nat_abs literal) (is_negative literal), codes-literals clause)

pub codes-ids : (ids : List ℕ) → AreCodes (map hint_code ids)
codes-ids [] = tt
codes-ids (id ∷ ids) = (never_zero id false, codes-ids ids)

codes-groups : (groups : List Group) → AreCodes (flat_map group_codes groups)
codes-groups [] = tt
codes-groups (group ∷ groups) = codes-append (group_codes group) (flat_map group_codes groups)
    (never_zero group.id true, codes-ids group.hints) (codes-groups groups)

pub codes-hints : (hints : List ℕ) (groups : List Group) → AreCodes (hint_codes hints groups)
codes-hints hints groups = codes-append (map hint_code hints) (flat_map group_codes groups) (codes-ids hints) (codes-groups groups)

-- codes and what is behind their 0
pub ahead-of : (codes rest : List ℕ) → AreCodes codes → codes_ahead (codes ++ 0 ∷ rest) ≡ codes
ahead-of [] rest are = refl
ahead-of (code ∷ codes) rest are = λ i. if are.0 i then [] else code ∷ ahead-of codes rest are.1 i

pub behind-of : (codes rest : List ℕ) → AreCodes codes → behind_codes (codes ++ 0 ∷ rest) ≡ rest
behind-of [] rest are = refl
behind-of (code ∷ codes) rest are = (λ i. if are.0 i then codes ++ 0 ∷ rest else behind_codes (codes ++ 0 ∷ rest)) ∙ behind-of codes rest
    are.1

-- which numbers the hints of an addition name
any-ids : (id : ℕ) (ids : List ℕ) → list_any (is_code_of id) (map hint_code ids) ≡ list_any (nat_eq id) ids
any-ids id [] = refl
any-ids id (first ∷ ids) = λ i. nat_eq id (number_again first false i) || any-ids id ids i

any-group : (id : ℕ) (group : Group) → list_any (is_code_of id) (group_codes group) ≡ group_names id group
any-group id group = λ i. nat_eq id (number_again group.id true i) || any-ids id group.hints i

any-groups : (id : ℕ) (groups : List Group) → list_any (is_code_of id) (flat_map group_codes groups) ≡ list_any (group_names id) groups
any-groups id [] = refl
any-groups id (group ∷ groups) = list_any-append (is_code_of id) (group_codes group) (flat_map group_codes groups)
    ∙ (λ i. any-group id group i || any-groups id groups i)

pub any-hints : (own : ℕ) (clause : List ℤ) (hints : List ℕ) (groups : List Group) (id : ℕ)
    → list_any (is_code_of id) (hint_codes hints groups) ≡ names (Add own clause hints groups) id
any-hints own clause hints groups id = list_any-append (is_code_of id) (map hint_code hints) (flat_map group_codes groups)
    ∙ (λ i. any-ids id hints i || any-groups id groups i)

or_false : (b : Bool) → (b || false) ≡ b
or_false true = refl
or_false false = refl

pub any-reverse : (f : ℕ → Bool) (xs : List ℕ) → list_any f (reverse xs) ≡ list_any f xs
any-reverse f [] = refl
any-reverse f (x ∷ xs) = ap (list_any f) (reverse-append (x ∷ []) xs) ∙ list_any-append f (reverse xs) (x ∷ [])
    ∙ or_comm (list_any f (reverse xs)) (f x || false) ∙ (λ i. or_false (f x) i || any-reverse f xs i)
