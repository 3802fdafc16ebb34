-- Codes that move from one stack to another, one after another.
use Rattle.std.proofs.Common.{◌≡◌, ℕ, ◌||◌, Bool, true, false, List, [], ◌∷◌, ◌++◌, refl, sym, ap, ◌∙◌, append_assoc}
use Rattle.std.specs.Prelude.{reverse, nat_eq, if◌then◌else◌}
use Rattle.std.specs.List.{list_any}
use Rattle.std.proofs.lemmas.Bool.{ne_eqb}
use Rattle.std.proofs.lemmas.List.{reverse-append}
use Rattle.proof_trim.specs.Packed.{behind_codes, codes_ahead, number_of}

-- a code on top, or the 0
behind_code : (code : ℕ) (rest : List ℕ) → (code ≡ 0 → ⊥) → behind_codes (code ∷ rest) ≡ behind_codes rest
behind_code code rest other = λ i. if ne_eqb code 0 other i then rest else behind_codes rest

ahead_code : (code : ℕ) (rest : List ℕ) → (code ≡ 0 → ⊥) → codes_ahead (code ∷ rest) ≡ code ∷ codes_ahead rest
ahead_code code rest other = λ i. if ne_eqb code 0 other i then [] else code ∷ codes_ahead rest

behind_zero : (code : ℕ) (rest : List ℕ) → code ≡ 0 → behind_codes (code ∷ rest) ≡ rest
behind_zero code rest is = ap (λ (n : ℕ). behind_codes (n ∷ rest)) is

ahead_zero : (code : ℕ) (rest : List ℕ) → code ≡ 0 → codes_ahead (code ∷ rest) ≡ []
ahead_zero code rest is = ap (λ (n : ℕ). codes_ahead (n ∷ rest)) is

-- What is behind: on, at the 0, and where there is none.
pub behind_on : {from rest whole : List ℕ} (code : ℕ) → behind_codes from ≡ whole → from ≡ code ∷ rest → (code ≡ 0 → ⊥)
    → behind_codes rest ≡ whole
behind_on {rest = rest} code so_far is other = sym (ap behind_codes is ∙ behind_code code rest other) ∙ so_far

pub behind_end : {from rest whole : List ℕ} (code : ℕ) → behind_codes from ≡ whole → from ≡ code ∷ rest → code ≡ 0 → rest ≡ whole
behind_end {rest = rest} code so_far is zero = sym (ap behind_codes is ∙ behind_zero code rest zero) ∙ so_far

pub behind_none : {from now whole : List ℕ} → behind_codes from ≡ whole → from ≡ [] → now ≡ [] → now ≡ whole
behind_none so_far is none = none ∙ sym (ap behind_codes is) ∙ so_far

-- What was moved, with what is still to be.
turned : (code : ℕ) (codes to : List ℕ) → reverse (code ∷ codes) ++ to ≡ reverse codes ++ code ∷ to
turned code codes to = ap (λ (l : List ℕ). l ++ to) (reverse-append (code ∷ []) codes) ∙ append_assoc (reverse codes) (code ∷ []) to

pub moved_on : {from rest to more whole : List ℕ} (code : ℕ) → reverse (codes_ahead from) ++ to ≡ whole → from ≡ code ∷ rest
    → (code ≡ 0 → ⊥) → more ≡ code ∷ to → reverse (codes_ahead rest) ++ more ≡ whole
moved_on {rest = rest} {to = to} code so_far is other put =
    ap (λ (l : List ℕ). reverse (codes_ahead rest) ++ l) put
    ∙ sym (turned code (codes_ahead rest) to)
    ∙ ap (λ (l : List ℕ). reverse l ++ to) (sym (ap codes_ahead is ∙ ahead_code code rest other))
    ∙ so_far

pub moved_end : {from rest to whole : List ℕ} (code : ℕ) → reverse (codes_ahead from) ++ to ≡ whole → from ≡ code ∷ rest → code ≡ 0
    → to ≡ whole
moved_end {rest = rest} {to = to} code so_far is zero =
    ap (λ (l : List ℕ). reverse l ++ to) (sym (ap codes_ahead is ∙ ahead_zero code rest zero)) ∙ so_far

pub moved_none : {from to whole : List ℕ} → reverse (codes_ahead from) ++ to ≡ whole → from ≡ [] → to ≡ whole
moved_none {to = to} so_far is = ap (λ (l : List ℕ). reverse (codes_ahead l) ++ to) (sym is) ∙ so_far

-- The numbers of what was moved, with those of what is still to be.
abbrev pub is_code_of : ℕ → ℕ → Bool
is_code_of id code = nat_eq id (number_of code)

or_turn : (a b c : Bool) → ((a || b) || c) ≡ (b || (a || c))
or_turn true true c = refl
or_turn true false c = refl
or_turn false true c = refl
or_turn false false c = refl

pub entered_on : {from rest : List ℕ} (code : ℕ) (old new whole : ℕ → Bool)
    → ((id : ℕ) → (list_any (is_code_of id) (codes_ahead from) || old id) ≡ whole id) → from ≡ code ∷ rest → (code ≡ 0 → ⊥)
    → ((id : ℕ) → new id ≡ (nat_eq id (number_of code) || old id))
    → (id : ℕ) → (list_any (is_code_of id) (codes_ahead rest) || new id) ≡ whole id
entered_on {rest = rest} code old new whole so_far is other entered id =
    ap (λ (b : Bool). list_any (is_code_of id) (codes_ahead rest) || b) (entered id)
    ∙ sym (or_turn (nat_eq id (number_of code)) (list_any (is_code_of id) (codes_ahead rest)) (old id))
    ∙ ap (λ (l : List ℕ). list_any (is_code_of id) l || old id) (sym (ap codes_ahead is ∙ ahead_code code rest other))
    ∙ so_far id

pub entered_end : {from rest : List ℕ} (code : ℕ) (now whole : ℕ → Bool)
    → ((id : ℕ) → (list_any (is_code_of id) (codes_ahead from) || now id) ≡ whole id) → from ≡ code ∷ rest → code ≡ 0
    → (id : ℕ) → now id ≡ whole id
entered_end {rest = rest} code now whole so_far is zero id =
    ap (λ (l : List ℕ). list_any (is_code_of id) l || now id) (sym (ap codes_ahead is ∙ ahead_zero code rest zero)) ∙ so_far id

pub entered_none : {from : List ℕ} (now whole : ℕ → Bool)
    → ((id : ℕ) → (list_any (is_code_of id) (codes_ahead from) || now id) ≡ whole id) → from ≡ [] → (id : ℕ) → now id ≡ whole id
entered_none now whole so_far is id = ap (λ (l : List ℕ). list_any (is_code_of id) (codes_ahead l) || now id) (sym is) ∙ so_far id
