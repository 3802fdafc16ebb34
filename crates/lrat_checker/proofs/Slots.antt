-- What the places of a chunk hold as slots are put in, taken out and made.
use Rattle.std.proofs.Common.{◌≡◌, ℕ, zero, suc, ◌<◌, true, false, List, [], ◌∷◌, length, get_or, set, Option, None, Some, is_some, is_none}
use Rattle.std.proofs.Common.{inl, inr, refl, sym, ◌∙◌, ap, arith, map, Bor, eq-eqb, ne_eqb}
use Rattle.std.specs.Prelude.{if◌then◌else◌, ◌==◌, IfSome}
use Rattle.std.specs.List.{list_all}
use Rattle.std.specs.Option.{option_copied}
use Rattle.std.proofs.lemmas.Bool.{and_parts, cases_eq, cases_lt}
use Rattle.std.proofs.lemmas.List.{get_or_past, get_or-set_same, get_or-set_other}
use Rattle.lrat_checker.specs.declared.slot.Slot.{Slot}
use Rattle.lrat_checker.specs.Clauses.{Place, Places, clause_in}

no_clause : (place : Place) → is_none place ≡ true → place ≡ None
no_clause None e = refl
no_clause (Some clause) e = cc

-- free slots alone have no clause
pub blank_slots : (slots : List Slot) → list_all (λ slot. is_none (clause_in slot)) slots ≡ true → (i : ℕ)
    → get_or (map clause_in slots) i None ≡ None
blank_slots [] e i = get_or_past [] i None (omega arith)
blank_slots (slot ∷ slots) e zero = no_clause (clause_in slot) (and_parts (is_none (clause_in slot))
    (list_all (λ s. is_none (clause_in s)) slots) e).0
blank_slots (slot ∷ slots) e (suc i) = blank_slots slots (and_parts (is_none (clause_in slot))
    (list_all (λ s. is_none (clause_in s)) slots) e).1 i

-- what a written place holds
pub set_at : (places : Places) (i : ℕ) (place : Place) → i < length places → (k : ℕ) → get_or (set places i place) k None
    ≡ (if k == i then place else get_or places k None)
set_at places i place lt k =
    elim (cases_eq k i) [
      | inl same ↦ ap (λ n. get_or (set places i place) n None) same ∙ get_or-set_same places i place None lt
          ∙ ap (λ b. if b then place else get_or places k None) (sym (eq-eqb k i same))
      | inr other ↦ get_or-set_other places i k place None other
          ∙ ap (λ b. if b then place else get_or places k None) (sym (ne_eqb k i other))
    ]

-- a place with a clause is among the places
pub taken_within : (places : Places) (i : ℕ) → is_some (get_or places i None) ≡ true → i < length places
taken_within places i some =
    elim (cases_lt i (length places)) [
      | inl lt ↦ lt
      | inr le ↦ let no : false ≡ true = ap is_some (sym (get_or_past places i None le)) ∙ some in cc
    ]

-- a look-up found a clause
pub found : {T : Type 0} (looked : Option (Bor T)) (place : Option T) → is_some looked ≡ true → option_copied looked ≡ place → is_some place
    ≡ true
found None place taken is = cc
found (Some x) place taken is = ap is_some (sym is)

-- what is known of a slot that was found, beside that one was
pub some_then : {T : Type 0} (taken : Option T) (P Q : T → Type 0) → IfSome taken P → (is_some taken ≡ true → (x : T) → P x → Q x)
    → IfSome taken Q
some_then None P Q is more = is
some_then (Some x) P Q is more = more refl x is
