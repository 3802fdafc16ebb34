-- The words that the program knows, as its parser of command lines has them.
use Rattle.std.specs.Prelude.{true, List, [], ◌∷◌, Some, codes}
use Rattle.clap.specs.declared.builder.action.ArgAction.TheVariants.{SetTrue}
use Rattle.clap.specs.Words.{App, Rule, Text, new_app, new_rule, with_rule, with_subcommand}

-- a command with these arguments, behind those that it has
abbrev pub with_rules : App → List Rule → App
with_rules app [] = app
with_rules app (rule ∷ rules) = with_rules (with_rule app rule) rules

-- a file that must be named, without an option in front of it
abbrev pub file_rule : Rule
file_rule = record (new_rule (codes "FILE")) { required = true }

-- an option of one value: `--name VALUE`
abbrev pub option_rule : Text → Rule
option_rule name = record (new_rule name) { long = Some name; value_names = 1 }

-- an option of one value that must be there
abbrev pub needed_rule : Text → Rule
needed_rule name = record (option_rule name) { required = true }

-- `--proof P`, which must be there
abbrev pub proof_rule : Rule
proof_rule = needed_rule (codes "proof")

-- a flag, `[--name]`, without a value: the parser reads it as the text `true`, or `false` where it isn't among the words
abbrev pub flag_rule : Text → Rule
flag_rule name = record (new_rule name) { long = Some name; action = Some SetTrue }

-- `[--lax]`
abbrev pub lax_rule : Rule
lax_rule = flag_rule (codes "lax")

-- `[--progress]`
abbrev pub progress_rule : Rule
progress_rule = flag_rule (codes "progress")

-- `[--explain]`
abbrev pub explain_rule : Rule
explain_rule = flag_rule (codes "explain")

-- `[--max-nodes N] [--max-ids N] [--cache N]`
abbrev pub limit_rules : List Rule
limit_rules = option_rule (codes "max-nodes") ∷ option_rule (codes "max-ids") ∷ option_rule (codes "cache") ∷ []

-- `[--search] [--order F]`
abbrev pub order_rules : List Rule
order_rules = flag_rule (codes "search") ∷ option_rule (codes "order") ∷ []

-- `[--buckets F] [--schedule F] [--plan PLAN] [--parity]`
abbrev pub plan_rules : List Rule
plan_rules =
    option_rule (codes "buckets") ∷ option_rule (codes "schedule") ∷ option_rule (codes "plan") ∷ flag_rule (codes "parity") ∷ []

-- `solve FILE --proof P [--lax]`, and then the options of orders, of plans and of limits, and `[--progress] [--explain]`
abbrev pub solve_app : App
solve_app =
    with_rules (with_rules (with_rules (with_rules (with_rules (new_app (codes "solve")) (file_rule ∷ proof_rule ∷ lax_rule ∷ [])) order_rules)
    plan_rules) limit_rules) (progress_rule ∷ explain_rule ∷ [])

-- a proof's file, behind the formula's
abbrev pub proof_file_rule : Rule
proof_file_rule = record (new_rule (codes "PROOF")) { required = true }

-- `[--any-order]`
abbrev pub any_order_rule : Rule
any_order_rule = flag_rule (codes "any-order")

-- `check FILE PROOF [--format FORMAT] [--any-order] [--lax] [--progress] [--explain]`
abbrev pub check_app : App
check_app = with_rules (new_app (codes "check"))
    (file_rule ∷ proof_file_rule ∷ option_rule (codes "format") ∷ any_order_rule ∷ lax_rule ∷ progress_rule ∷ explain_rule ∷ [])

-- `[--fresh]`
abbrev pub fresh_rule : Rule
fresh_rule = flag_rule (codes "fresh")

-- `drat FILE PROOF --out P [--lax]`, behind which `[--fresh] [--progress] [--explain]` stands; so `lrat`, behind which
-- `[--any-order] [--progress] [--explain]` does, and `trim`, behind which `[--core C] [--progress] [--explain]` does
abbrev pub rewrite_app : Text → App
rewrite_app name = with_rules (new_app name) (file_rule ∷ proof_file_rule ∷ needed_rule (codes "out") ∷ lax_rule ∷ [])

abbrev pub drat_app : App
drat_app = with_rules (rewrite_app (codes "drat")) (fresh_rule ∷ progress_rule ∷ explain_rule ∷ [])

abbrev pub lrat_app : App
lrat_app = with_rules (rewrite_app (codes "lrat")) (any_order_rule ∷ progress_rule ∷ explain_rule ∷ [])

abbrev pub trim_app : App
trim_app = with_rules (rewrite_app (codes "trim")) (option_rule (codes "core") ∷ progress_rule ∷ explain_rule ∷ [])

-- `order FILE --by METHOD --out F [--lax] [--progress] [--explain]`
abbrev pub order_app : App
order_app =
    with_rules (new_app (codes "order"))
    (file_rule ∷ needed_rule (codes "by") ∷ needed_rule (codes "out") ∷ lax_rule ∷ progress_rule ∷ explain_rule ∷ [])

-- `ask FILE --cubes Q --proof P [--order F] [--lax]`, and then the options of limits, and `[--progress] [--explain]`
abbrev pub ask_app : App
ask_app =
    with_rules (with_rules (with_rules (new_app (codes "ask"))
    (file_rule ∷ needed_rule (codes "cubes") ∷ proof_rule ∷ option_rule (codes "order") ∷ lax_rule ∷ [])) limit_rules)
    (progress_rule ∷ explain_rule ∷ [])

-- a word that must be there, without an option in front of it; help shows it by another name
abbrev pub word_rule : Text → Rule
word_rule name = record (new_rule name) { value_names = 1; required = true }

-- `board N`
abbrev pub board_rules : List Rule
board_rules = word_rule (codes "KIND") ∷ word_rule (codes "SIZE") ∷ []

-- `bench board N --proof P [--max-nodes N] [--max-ids N] [--cache N] [--progress] [--explain]`
abbrev pub bench_app : App
bench_app = with_rules (with_rules (with_rules (new_app (codes "bench")) board_rules) (proof_rule ∷ limit_rules))
    (progress_rule ∷ explain_rule ∷ [])

-- `make board N --part PART --out F [--explain]`
abbrev pub make_app : App
make_app = with_rules (with_rules (new_app (codes "make")) board_rules)
    (needed_rule (codes "part") ∷ needed_rule (codes "out") ∷ explain_rule ∷ [])

-- a command that shows its version, by `--version` or `-V`
abbrev pub with_version : App → App
with_version app = record app { top = record app.top { has_version = true } }

-- the program's name, with the version
abbrev pub program_app : App
program_app = with_version (new_app (codes "bddsat"))

-- `solve` and `check` after the program's name
abbrev pub first_commands : App
first_commands = with_subcommand (with_subcommand program_app solve_app.top) check_app.top

-- the commands about a proof's file, those and `drat`, `lrat` and `trim`
abbrev pub proof_commands : App
proof_commands = with_subcommand (with_subcommand (with_subcommand first_commands drat_app.top) lrat_app.top) trim_app.top

-- those about a formula's file, with `order` and `ask`
abbrev pub file_commands : App
file_commands = with_subcommand (with_subcommand proof_commands order_app.top) ask_app.top

-- the program: one of nine commands after its name
abbrev pub the_app : App
the_app = with_subcommand (with_subcommand file_commands bench_app.top) make_app.top
