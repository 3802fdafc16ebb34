-- How the program begins over the system.
use Rattle.std.proofs.Common.{inl, inr, Ok, Err, IfOk, IfErr}
use Rattle.std.specs.Prelude.{Result, ◌⊎◌}

-- what follows of a result in either case
pub either : {T E : Type 0} {P : T → Type 0} {R : E → Type 0} {Q : Type 0} (result : Result T E) → IfOk result P → IfErr result R
    → ((value : T) → P value → Q) → ((error : E) → R error → Q) → Q
either (Ok value) ok err at_value at_error = at_value value ok
either (Err error) ok err at_value at_error = at_error error err

-- Of the words only those are told that came, and of a want of memory nothing more than that it was told.
pub without : {A : Type 0} {Whole Promise : A → Type 0} {Memory Told : Type 0} → ((a : A) × Whole a × Promise a) ⊎ (Memory × Told)
    → ((a : A) × Promise a) ⊎ Told
without (inl given) = inl (given.0, given.2)
without (inr told) = inr told.1
