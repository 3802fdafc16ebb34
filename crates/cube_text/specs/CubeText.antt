-- The text of questions about a formula: cubes, each its literals and a zero. A cube may be empty, and may span lines; comment lines
-- begin with `#`. Cubes are kept as they stand, with repeated literals; one that holds a literal and its negation is refused.
-- (Cubes: Heule, Kullmann, Wieringa, Biere: Cube and Conquer, HVC 2011. The format is this project's own.)
use Rattle.std.specs.Prelude.{ℕ, ◌&&◌, ℤ, nat_abs, List, [], length, Option, None, Some, IsTrue, nat_lt, nat_le}
use Rattle.std.specs.Prelude.{if◌then◌else◌}
use Rattle.std.specs.List.{list_all}
use Rattle.cnf_base.specs.Cube.{is_consistent, is_denied}
use Rattle.cnf_base.specs.Formula.{Draft}
use Rattle.cnf_base.specs.Number.{signed_number}
use Rattle.cnf_base.specs.Truth.{AreClausesOf}
use Rattle.text_scan.specs.Items.{Items, the_end, too_long, next_word, items_of_front, items}
use Rattle.dimacs_reader.specs.Cnf.{literals_of, max_literals, with_read}
use Rattle.cube_text.specs.declared.error.CubeKind.{CubeKind}
use Rattle.cube_text.specs.declared.error.CubeKind.TheVariants.{BadToken, LiteralRange, BothSigns, NoEndingZero, Limit}
pub use Rattle.cnf_base.specs.Limits.{max_bytes}

-- the most cubes of a text
abbrev pub max_cubes : ℕ
max_cubes = 1000000

-- What a text is: cubes; a refusal, its kind and line; or a text that is judged by its first bytes and not refused by them.
pub data CubeText : Type 0 where
  cubes : List (List ℤ) → CubeText
  refusal : CubeKind → ℕ → CubeText
  overlong : CubeText

-- cubes over these variables, none of which holds both signs of one
pub record AreCubes (vars : ℕ) (all : List (List ℤ)) : Type 0 where
  pub literals : AreClausesOf vars all
  pub consistent : IsTrue (list_all is_consistent all)

-- What is wrong with the next token, of which this number is read, behind the ended cubes and the one that was begun. The first test
-- that holds decides.
abbrev pub offence_of : Option ℤ → Draft → Option CubeKind
offence_of None draft = Some BadToken
offence_of (Some number) draft =
    if nat_le max_cubes (length draft.clauses) then Some Limit
    else if nat_lt 0 (nat_abs number) && nat_le max_literals (literals_of draft) then Some Limit
    else if nat_lt draft.vars (nat_abs number) then Some LiteralRange
    else if nat_lt 0 (nat_abs number) && is_denied number draft.begun then Some BothSigns
    else None

-- before the first token
abbrev pub no_cubes : ℕ → Draft
no_cubes vars = record { vars = vars; clauses = []; begun = [] }

-- the end of the text
abbrev pub text_end : Draft → ℕ → CubeText
text_end draft line = if nat_lt 0 (length draft.begun) then refusal NoEndingZero line else cubes draft.clauses

-- a token that offends decides; after another the text goes on
abbrev pub judged : Option CubeKind → ℕ → CubeText → CubeText
judged (Some kind) line more = refusal kind line
judged None line more = more

-- what these tokens are behind those cubes
abbrev pub cubes_of : Items → Draft → CubeText
cubes_of (the_end line) draft = text_end draft line
cubes_of (too_long line) draft = overlong
cubes_of (next_word word items) draft =
    judged (offence_of (signed_number word.bytes) draft) word.line (cubes_of items (with_read (signed_number word.bytes) draft))

-- a whole text about so many variables (35 is `#`)
abbrev pub cube_text : ℕ → List ℕ → CubeText
cube_text vars bytes = cubes_of (items 35 max_bytes bytes) (no_cubes vars)

-- What the front of a text decides, whatever comes after it. A token with no byte after it in the front isn't judged yet,
-- and `overlong` says that nothing is decided so far.
abbrev pub cubes_so_far : ℕ → List ℕ → CubeText
cubes_so_far vars bytes = cubes_of (items_of_front 35 bytes) (no_cubes vars)
