-- Numbers are read with their magnitude cut at a bound; they are judged as those that stand in the text.
use Rattle.std.proofs.Common.{◌≡◌, ◌⊎◌, ◌∙◌, ◌<◌, ◌≤◌, ℕ, zero, suc, Bool, true, false, ℤ, pos, negsuc, neg_ℤ, Option, None, Some}
use Rattle.std.proofs.Common.{Result, Ok, Err, refl, sym, ap, subst, arith, inl, inr, w64, to_z, of_z}
use Rattle.std.specs.Prelude.{if◌then◌else◌, length, min, nat_abs, nat_le}
use Rattle.std.specs.Option.{option_map}
use Rattle.std.proofs.lemmas.Bool.{cases_lt, lt-ltb}
use Rattle.std.proofs.lemmas.Int.{to_z-of_z}
use Rattle.cnf_base.specs.Formula.{Draft}
use Rattle.cnf_base.specs.Limits.{max_vars}
use Rattle.text_scan.specs.Capped.{cap, capped_ℤ}
use Rattle.dimacs_reader.specs.Cnf.{literals_of, max_literals, with_number, with_read}
use Rattle.cube_text.specs.declared.error.CubeError.{CubeError}
use Rattle.cube_text.specs.declared.error.CubeError.TheVariants.{Refused, ReadFault, TooLong, OutOfMemory}
use Rattle.cube_text.specs.declared.error.CubeKind.{CubeKind}
use Rattle.cube_text.specs.declared.error.CubeKind.TheVariants.{LiteralRange, Limit}
use Rattle.cube_text.specs.CubeReader.{Takes}
use Rattle.cube_text.specs.CubeText.{max_cubes, offence_of}

-- a cut number fits the width that it is handed on by
pub read_back : (number : ℤ) → nat_abs number ≤ cap → to_z w64 (of_z w64 number) ≡ number
read_back (pos n) small = to_z-of_z w64 (pos n) (record { sfits = omega (arith, small) })
read_back (negsuc n) small = to_z-of_z w64 (negsuc n) (record { sfits = omega (arith, small) })

abs_neg : (n : ℕ) → nat_abs (neg_ℤ (pos n)) ≡ n
abs_neg zero = refl
abs_neg (suc n) = refl

-- the number stands as it is, or is far above all limits
near_or_far : (m : ℤ) → (capped_ℤ m ≡ m) ⊎ ((cap < nat_abs m) × (nat_abs (capped_ℤ m) ≡ cap))
near_or_far (pos n) = elim (cases_lt cap n) [
  | inl far ↦ inr (far, (let cut : min n cap ≡ cap = omega (arith, far) in cut))
  | inr near ↦ inl (let same : min n cap ≡ n = omega (arith, near) in ap pos same)
]
near_or_far (negsuc n) = elim (cases_lt cap (suc n)) [
  | inl far ↦ inr (far, abs_neg (min (suc n) cap) ∙ (let cut : min (suc n) cap ≡ cap = omega (arith, far) in cut))
  | inr near ↦ inl (let same : min (suc n) cap ≡ suc n = omega (arith, near) in ap (λ k. neg_ℤ (pos k)) same)
]

-- what is wrong with a number above the variables
abbrev far_offence : Draft → Option CubeKind
far_offence draft =
    if nat_le max_cubes (length draft.clauses) then Some Limit
    else if nat_le max_literals (literals_of draft) then Some Limit
    else Some LiteralRange

offends : (x : ℤ) (draft : Draft) → 0 < nat_abs x → draft.vars < nat_abs x → offence_of (Some x) draft ≡ far_offence draft
offends x draft some far = rw (lt-ltb 0 (nat_abs x) some, lt-ltb draft.vars (nat_abs x) far) refl

some_offence : (draft : Draft) → far_offence draft ≡ None → ⊥
some_offence draft none = by_room (nat_le max_cubes (length draft.clauses)) (nat_le max_literals (literals_of draft)) none where
  by_room : (p q : Bool) → (if p then Some Limit else if q then Some Limit else Some LiteralRange) ≡ None → ⊥
  by_room true q is = cc
  by_room false true is = cc
  by_room false false is = cc

takes_far : {T : Type 0} (r : Result T CubeError) (draft : Draft) (m cut : ℤ) (line : ℕ) (with other new : Draft)
    → offence_of (Some m) draft ≡ far_offence draft → offence_of (Some cut) draft ≡ far_offence draft
    → Takes r (offence_of (Some cut) draft) line with new → Takes r (offence_of (Some m) draft) line other new
takes_far (Ok t) draft m cut line with other new own is takes = absurd (some_offence draft (sym is ∙ takes.0))
takes_far (Err (Refused kind at)) draft m cut line with other new own is takes = (own ∙ sym is ∙ takes.0, takes.1)
takes_far (Err ReadFault) draft m cut line with other new own is takes = takes
takes_far (Err TooLong) draft m cut line with other new own is takes = takes
takes_far (Err OutOfMemory) draft m cut line with other new own is takes = tt

pub takes_read : {T : Type 0} (r : Result T CubeError) (number : Option ℤ) (cut : ℤ) (line : ℕ) (draft new : Draft) → draft.vars ≤ max_vars
    → option_map capped_ℤ number ≡ Some cut → Takes r (offence_of (Some cut) draft) line (with_number cut draft) new
    → Takes r (offence_of number draft) line (with_read number draft) new
takes_read r None cut line draft new few is takes = cc
takes_read r (Some m) cut line draft new few is takes =
    let own : capped_ℤ m ≡ cut = cc in
    elim (near_or_far m) [
      | inl near ↦ subst (λ (x : ℤ). Takes r (offence_of (Some x) draft) line (with_number x draft) new) (sym own ∙ near) takes
      | inr far ↦
          let size : nat_abs cut ≡ cap = ap nat_abs (sym own) ∙ far.1 in
          takes_far r draft m cut line (with_number cut draft) (with_number m draft) new
          (offends m draft (omega (arith, far.0)) (omega (arith, few, far.0)))
          (offends cut draft (omega (arith, size)) (omega (arith, few, size))) takes
    ]
