-- Whether words ask for an explanation of what goes wrong: also words that give no command.
use Rattle.std.specs.Prelude.{Bool, false, true, if◌then◌else◌, List, [], ◌∷◌, codes}
use Rattle.std.specs.Str.{bytes_eq}
use Rattle.clap.specs.Words.{Text}

-- `--explain` is among them, in front of `--`, behind which words are names
abbrev pub explanation_asked : List Text → Bool
explanation_asked [] = false
explanation_asked (word ∷ words) =
    if bytes_eq word (codes "--") then false else if bytes_eq word (codes "--explain") then true else explanation_asked words
