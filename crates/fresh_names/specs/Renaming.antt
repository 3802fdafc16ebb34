-- What a renaming keeps: the names and the uses of the variables that came into use at some time.
use Rattle.std.specs.Prelude.{ℕ, pos, nat_abs, nat_eq}
use Rattle.std.specs.Option.{unwrap_or}
use Rattle.std.specs.HashMap as hash
use Rattle.fresh_names.specs.declared.renaming.Renaming.{Renaming}
use Rattle.fresh_names.specs.Fresh.{Names}

abbrev pub name_of : Renaming → ℕ → ℕ
name_of renaming v = nat_abs (unwrap_or (hash.get nat_eq renaming.names v) (pos v))

abbrev pub uses_of : Renaming → ℕ → ℕ
uses_of renaming v = unwrap_or (hash.get nat_eq renaming.uses v) 0

abbrev pub names_of : Renaming → Names
names_of renaming = record { name = name_of renaming; uses = uses_of renaming; next = renaming.next }
