-- A look-up in a row, as std's slices answer it.
use Rattle.std.proofs.Common.{◌≡◌, ℕ, List, length, get_or, Option, None, Some, is_some, ltb, refl, sym, Bor}
use Rattle.std.specs.List.{slice_get}
use Rattle.std.specs.Option.{option_copied, IfSome}
use Rattle.std.proofs.lemmas.Bool.{ltb-true, ltb-false}
use Rattle.std.proofs.lemmas.Option.{slice_get_past, slice_get_read}

pub looked_up : {X : Type 0} (xs : List X) (i : ℕ) (o : Option (Bor X)) → is_some o ≡ ltb i (length xs)
    → IfSome o (λ x. x.now ≡ get_or xs i x.now) → option_copied o ≡ slice_get xs i
looked_up xs i None some read = sym (slice_get_past xs i (ltb-false i (length xs) (sym some)))
looked_up xs i (Some x) some read = sym (slice_get_read xs (length xs) i x.now refl (ltb-true i (length xs) (sym some)) read)
