-- The meaning of the program's words, its own name first: what the parser of command lines makes of them (`fault_of`,
-- `subcommand_of`: the kinds of its refusal, and the values that it reads), and then this program's own tests.
use Rattle.std.specs.Prelude.{ℕ, Bool, true, false, not, List, [], ◌∷◌, Option, None, Some, option_map, codes, length, map, nat_le, ◌≤◌}
use Rattle.std.specs.Prelude.{if◌then◌else◌, ◌&&◌, ◌≡◌, ◌⊎◌}
use Rattle.std.specs.List.{list_any}
use Rattle.std.specs.Option.{option_and_then}
use Rattle.std.specs.Str.{bytes_eq}
use Rattle.clap.specs.Words.{Row, Text, first_of, fault_of, subcommand_of}
use Rattle.clap.specs.declared.error.ErrorKind.{ErrorKind}
use Rattle.clap.specs.declared.error.ErrorKind.TheVariants as kind
use Rattle.cnf_base.specs.Number.{numeral_value}
use Rattle.cnf_base.specs.Limits.{most_entries_allowed, most_nodes_allowed}
use Rattle.dimacs_reader.specs.declared.mode.Mode.{Mode}
use Rattle.dimacs_reader.specs.declared.mode.Mode.TheVariants.{Strict, Lax}
use Rattle.schedule_plan.specs.Limits.{most_ids}
use Rattle.schedule_plan.specs.declared.limits.Limits.{Limits}
use Rattle.command_line.specs.declared.format.ProofFormat.{ProofFormat}
use Rattle.command_line.specs.declared.format.ProofFormat.TheVariants.{Lrat, Drat, DratBySet}
use Rattle.command_line.specs.declared.conversion.Conversion.{Conversion}
use Rattle.command_line.specs.declared.conversion.Conversion.TheVariants.{IntoDrat, IntoLrat}
use Rattle.command_line.specs.declared.method.OrderMethod.{OrderMethod}
use Rattle.command_line.specs.declared.method.OrderMethod.TheVariants.{Degree, Cardinality, Levels, Profile}
use Rattle.command_line.specs.declared.plan.PlanName.{PlanName}
use Rattle.command_line.specs.declared.plan.PlanName.TheVariants.{Bucket, Conjoin}
use Rattle.command_line.specs.declared.part.BoardText.{BoardText}
use Rattle.command_line.specs.declared.part.BoardText.TheVariants.{Cnf, Order, Schedule, Sets}
use Rattle.command_line.specs.Parser.{the_app}

-- what gives the plan of a run: its name, a schedule's file, the file of an order (the bucket plan by it), or trials (the bucket plan by an
-- order that they find)
pub data Planned : Type 0 where
  ByName : PlanName → Planned
  ByFile : Text → Planned
  ByBuckets : Text → Planned
  Found : Planned

-- to decide the formula in a file, read in a mode, by a plan and within limits, and to write the proof to another one; the order of its
-- variables stands in the file of that name, if one is named; and maybe to add up its parity equations first, and to tell of the progress
pub record ToSolve : Type 0 where
  pub file : Text
  pub proof : Text
  pub mode : Mode
  pub order : Option Text
  pub plan : Planned
  pub parity : Bool
  pub limits : Limits
  pub progress : Bool

-- to judge the proof in a file, in a format, over the formula in another one, read in a mode, and maybe to tell of the progress
pub record ToCheck : Type 0 where
  pub file : Text
  pub proof : Text
  pub format : ProofFormat
  pub mode : Mode
  pub progress : Bool

-- to judge the proof in a file over the formula in another one, read in a mode, and to write what it becomes to a third one, and maybe to
-- tell of the progress
pub record ToRewrite : Type 0 where
  pub file : Text
  pub proof : Text
  pub mode : Mode
  pub out : Text
  pub progress : Bool

-- so for a trimmed proof, and to write its core to a further file, if one is named
pub record ToTrim : Type 0 where
  pub file : Text
  pub proof : Text
  pub mode : Mode
  pub out : Text
  pub core : Option Text
  pub progress : Bool

-- so for a proof in the other format, LRAT or DRAT
pub record ToConvert : Type 0 where
  pub file : Text
  pub proof : Text
  pub mode : Mode
  pub out : Text
  pub into : Conversion
  pub progress : Bool

-- to write an order of the variables of the formula in a file, read in a mode, found by a method, to another file, and maybe to tell of the
-- progress
pub record ToOrder : Type 0 where
  pub file : Text
  pub method : OrderMethod
  pub mode : Mode
  pub out : Text
  pub progress : Bool

-- to answer the cubes in a file over the formula in another one, read in a mode, within limits, and to write the proof to a third one; the
-- order of its variables stands in the file of that name, if one is named; and maybe to tell of the progress
pub record ToAsk : Type 0 where
  pub file : Text
  pub cubes : Text
  pub proof : Text
  pub mode : Mode
  pub order : Option Text
  pub limits : Limits
  pub progress : Bool

-- to decide the board of so many squares a side by its column order and schedule, within limits, and to write the proof to a file; and
-- maybe to tell of the progress
pub record ToBench : Type 0 where
  pub size : ℕ
  pub proof : Text
  pub limits : Limits
  pub progress : Bool

-- to write one text of the board of so many squares a side to a file
pub record ToMake : Type 0 where
  pub size : ℕ
  pub part : BoardText
  pub file : Text

pub data Command : Type 0 where
  Solve : ToSolve → Command
  Check : ToCheck → Command
  Bench : ToBench → Command
  Make : ToMake → Command
  Arrange : ToOrder → Command
  Ask : ToAsk → Command
  Convert : ToConvert → Command
  Trim : ToTrim → Command

-- the formula's file, where one is named
abbrev pub formula_file : Command → Option Text
formula_file (Solve task) = Some task.file
formula_file (Check task) = Some task.file
formula_file (Bench task) = None
formula_file (Make task) = None
formula_file (Arrange task) = Some task.file
formula_file (Ask task) = Some task.file
formula_file (Convert task) = Some task.file
formula_file (Trim task) = Some task.file

-- the mode in which the formula's file is read, where one is named
abbrev pub mode_of : Command → Mode
mode_of (Solve task) = task.mode
mode_of (Check task) = task.mode
mode_of (Bench task) = Strict
mode_of (Make task) = Strict
mode_of (Arrange task) = task.mode
mode_of (Ask task) = task.mode
mode_of (Convert task) = task.mode
mode_of (Trim task) = task.mode

-- the format of the proof that a conversion reads
abbrev pub format_before : Conversion → ProofFormat
format_before (IntoDrat fresh) = Lrat
format_before (IntoLrat any_order) = if any_order then DratBySet else Drat

-- the format of the proof that is judged, where one is
abbrev pub format_of : Command → ProofFormat
format_of (Solve task) = Lrat
format_of (Check task) = task.format
format_of (Bench task) = Lrat
format_of (Make task) = Lrat
format_of (Arrange task) = Lrat
format_of (Ask task) = Lrat
format_of (Convert task) = format_before task.into
format_of (Trim task) = Lrat

-- the limits where the words give none
abbrev pub default_limits : Limits
default_limits = record { cache = 1000000; max_nodes = 10000000; max_ids = most_ids }

-- the limits that a command runs within
abbrev pub limits_of : Command → Limits
limits_of (Solve task) = task.limits
limits_of (Check task) = default_limits
limits_of (Bench task) = task.limits
limits_of (Make task) = default_limits
limits_of (Arrange task) = default_limits
limits_of (Ask task) = task.limits
limits_of (Convert task) = default_limits
limits_of (Trim task) = default_limits

-- a command is to tell of its progress
abbrev pub is_told : Command → Bool
is_told (Solve task) = task.progress
is_told (Check task) = task.progress
is_told (Bench task) = task.progress
is_told (Make task) = false
is_told (Arrange task) = task.progress
is_told (Ask task) = task.progress
is_told (Convert task) = task.progress
is_told (Trim task) = task.progress

-- a command is to add up the formula's parity equations first
abbrev pub adds_equations : Command → Bool
adds_equations (Solve task) = task.parity
adds_equations (Check task) = false
adds_equations (Bench task) = false
adds_equations (Make task) = false
adds_equations (Arrange task) = false
adds_equations (Ask task) = false
adds_equations (Convert task) = false
adds_equations (Trim task) = false

-- the sizes of boards
abbrev pub IsSize : ℕ → Type 0
IsSize n = (2 ≤ n) × (n ≤ 100)

-- the size of the board that a command is about, if it is about one
abbrev pub size_of : Command → Option ℕ
size_of (Solve task) = None
size_of (Check task) = None
size_of (Bench task) = Some task.size
size_of (Make task) = Some task.size
size_of (Arrange task) = None
size_of (Ask task) = None
size_of (Convert task) = None
size_of (Trim task) = None

-- the plan where the words name none
abbrev pub default_plan : PlanName
default_plan = Bucket

-- what words may mean: a command, the wish for help, or for the version, which is shown as help is, or nothing that the program does
pub data Meaning : Type 0 where
  Asks : Command → Meaning
  AsksHelp : Meaning
  Misuse : Meaning

-- what a refusal of the parser means: two of them are its showing of help, and of the version
abbrev pub refusal_means : ErrorKind → Meaning
refusal_means kind.DisplayHelp = AsksHelp
refusal_means kind.DisplayVersion = AsksHelp
refusal_means _ = Misuse

-- both files are named, and by the same name
abbrev pub same_name : Option Text → Option Text → Bool
same_name (Some file) (Some other) = bytes_eq file other
same_name _ _ = false

-- no two of these files that are named have the same name
abbrev pub names_differ : List (Option Text) → Bool
names_differ [] = true
names_differ (file ∷ others) = not (list_any (same_name file) others) && names_differ others

-- both names
abbrev pub both : Option Text → Option Text → Option (Text × Text)
both (Some file) (Some proof) = Some (file, proof)
both _ _ = None

-- The names of the formula's file and of the proof's, which must be there. All files that a command names, beside these
-- two the others here, have different names.
abbrev pub two_names : Option Text → Option Text → List (Option Text) → Option (Text × Text)
two_names file proof others = if names_differ (file ∷ proof ∷ others) then both file proof else None

-- a number, where it is neither below the least nor above the greatest
abbrev pub in_range : ℕ → ℕ → ℕ → Option ℕ
in_range least greatest n = if nat_le least n && nat_le n greatest then Some n else None

-- 1 to 18 digits, of a value in the range
abbrev pub number_within : ℕ → ℕ → Text → Option ℕ
number_within least greatest text = if nat_le (length text) 18 then option_and_then (in_range least greatest) (numeral_value text) else None

-- the number that an option gives, or the default without it
abbrev pub number_given : ℕ → ℕ → ℕ → Option Text → Option ℕ
number_given least default greatest None = Some default
number_given least default greatest (Some text) = number_within least greatest text

-- whether a flag is among the words, by the text that the parser reads it as
abbrev pub is_set : Option Text → Bool
is_set None = false
is_set (Some text) = bytes_eq text (codes "true")

-- the mode, by the text of the flag `--lax`
abbrev pub mode_given : Option Text → Mode
mode_given flag = if is_set flag then Lax else Strict

-- the plan of this name, if it is one
abbrev pub plan_named : Text → Option PlanName
plan_named name = if bytes_eq name (codes "bucket") then Some Bucket else if bytes_eq name (codes "conjoin") then Some Conjoin else None

-- what gives the plan: at most one of `--plan`, `--schedule`, `--buckets` and `--search`; the default without them
abbrev pub plan_given : Option Text → Option Text → Option Text → Bool → Option Planned
plan_given None None None false = Some (ByName default_plan)
plan_given (Some name) None None false = option_map ByName (plan_named name)
plan_given None (Some file) None false = Some (ByFile file)
plan_given None None (Some file) false = Some (ByBuckets file)
plan_given None None None true = Some Found
plan_given _ _ _ _ = None

-- the format of this name, if it is one, and the one that the options `--format` and `--any-order` give
abbrev pub format_named : Text → Option ProofFormat
format_named name = if bytes_eq name (codes "lrat") then Some Lrat else if bytes_eq name (codes "drat") then Some Drat else None

abbrev pub format_of_name : Option Text → Option ProofFormat
format_of_name None = Some Lrat
format_of_name (Some name) = format_named name

abbrev pub in_any_order : ProofFormat → Option ProofFormat
in_any_order Lrat = None
in_any_order Drat = Some DratBySet
in_any_order DratBySet = Some DratBySet

abbrev pub format_given : Bool → Option Text → Option ProofFormat
format_given any_order name = if any_order then option_and_then in_any_order (format_of_name name) else format_of_name name

-- the method of this name, if it is one
abbrev pub method_named : Text → Option OrderMethod
method_named name =
    if bytes_eq name (codes "degree") then Some Degree else if bytes_eq name (codes "cardinality") then Some Cardinality
    else if bytes_eq name (codes "levels") then Some Levels else if bytes_eq name (codes "profile") then Some Profile else None

-- the limits of these numbers of nodes, of identifiers and of the cache's entries
abbrev pub limits_with : Option ℕ → Option ℕ → Option ℕ → Option Limits
limits_with (Some nodes) (Some ids) (Some entries) = Some (record { cache = entries; max_nodes = nodes; max_ids = ids })
limits_with _ _ _ = None

-- the limits that `--max-nodes`, `--max-ids` and `--cache` give
abbrev pub limits_given : Option Text → Option Text → Option Text → Option Limits
limits_given nodes ids entries =
    limits_with (number_given 0 default_limits.max_nodes most_nodes_allowed nodes) (number_given 0 default_limits.max_ids most_ids ids)
    (number_given 1 default_limits.cache most_entries_allowed entries)

-- the size that words give behind the word `board`
abbrev pub size_given : Option Text → Option Text → Option ℕ
size_given (Some kind) (Some size) = if bytes_eq kind (codes "board") then number_within 2 100 size else None
size_given _ _ = None

-- the part of this name, if it is one
abbrev pub part_named : Text → Option BoardText
part_named name =
    if bytes_eq name (codes "cnf") then Some Cnf else if bytes_eq name (codes "order") then Some Order else if bytes_eq name
    (codes "schedule") then Some Schedule else if bytes_eq name (codes "sets") then Some Sets else None

-- two files, a mode, an order, what gives the plan, limits to solve within, whether progress is told, and whether parity equations are
-- added up
abbrev pub to_solve : Option (Text × Text) → Mode → Option Text → Option Planned → Option Limits → Bool → Bool → Meaning
to_solve (Some names) mode order (Some plan) (Some limits) progress parity = Asks (Solve (record {
  file = names.0;
  proof = names.1;
  mode = mode;
  order = order;
  plan = plan;
  parity = parity;
  limits = limits;
  progress = progress;
}))
to_solve _ _ _ _ _ _ _ = Misuse

-- two files to check, a format, a mode, and whether progress is told
abbrev pub to_check : Option (Text × Text) → Option ProofFormat → Mode → Bool → Meaning
to_check (Some names) (Some format) mode progress =
    Asks (Check (record { file = names.0; proof = names.1; format = format; mode = mode; progress = progress }))
to_check _ _ _ _ = Misuse

-- two files, one to write a proof to, a mode, and whether progress is told
abbrev pub to_rewrite : Option (Text × Text) → Option Text → Mode → Bool → Option ToRewrite
to_rewrite (Some names) (Some out) mode progress =
    Some (record { file = names.0; proof = names.1; mode = mode; out = out; progress = progress })
to_rewrite _ _ _ _ = None

-- a formula's file and an order's, a method, a mode, and whether progress is told
abbrev pub to_order : Option (Text × Text) → Option OrderMethod → Mode → Bool → Meaning
to_order (Some names) (Some method) mode progress =
    Asks (Arrange (record { file = names.0; method = method; mode = mode; out = names.1; progress = progress }))
to_order _ _ _ _ = Misuse

-- a formula's file and a proof's, one of cubes, a mode, an order, limits to answer the cubes within, and whether progress is told
abbrev pub to_ask : Option (Text × Text) → Option Text → Mode → Option Text → Option Limits → Bool → Meaning
to_ask (Some names) (Some cubes) mode order (Some limits) progress = Asks (Ask (record {
  file = names.0;
  cubes = cubes;
  proof = names.1;
  mode = mode;
  order = order;
  limits = limits;
  progress = progress;
}))
to_ask _ _ _ _ _ _ = Misuse

-- a size, a proof's file, limits to decide the board of that size within, and whether progress is told
abbrev pub to_bench : Option ℕ → Option Text → Option Limits → Bool → Meaning
to_bench (Some size) (Some proof) (Some limits) progress =
    Asks (Bench (record { size = size; proof = proof; limits = limits; progress = progress }))
to_bench _ _ _ _ = Misuse

-- a size, a part of that board, and a file to write it to
abbrev pub to_make : Option ℕ → Option BoardText → Option Text → Meaning
to_make (Some size) (Some part) (Some file) = Asks (Make (record { size = size; part = part; file = file }))
to_make _ _ _ = Misuse

-- the limits that the options among these values give
abbrev pub limits_among : List Row → Option Limits
limits_among rows = limits_given (first_of (codes "max-nodes") rows) (first_of (codes "max-ids") rows) (first_of (codes "cache") rows)

-- whether parity equations are added up, among these values
abbrev pub parity_among : List Row → Bool
parity_among rows = is_set (first_of (codes "parity") rows)

-- what gives the plan, among these values
abbrev pub plan_among : List Row → Option Planned
plan_among rows = plan_given (first_of (codes "plan") rows) (first_of (codes "schedule") rows) (first_of (codes "buckets") rows)
    (is_set (first_of (codes "search") rows))

-- the names of the files among these values, which `solve` is given
abbrev pub names_among : List Row → Option (Text × Text)
names_among rows =
    two_names (first_of (codes "FILE") rows) (first_of (codes "proof") rows)
    (first_of (codes "order") rows ∷ first_of (codes "schedule") rows ∷ first_of (codes "buckets") rows ∷ [])

-- whether progress is told, among these values
abbrev pub progress_among : List Row → Bool
progress_among rows = is_set (first_of (codes "progress") rows)

-- whether extension variables get fresh names, among these values
abbrev pub fresh_among : List Row → Bool
fresh_among rows = is_set (first_of (codes "fresh") rows)

-- whether deletions name sets of literals, among these values
abbrev pub any_order_among : List Row → Bool
any_order_among rows = is_set (first_of (codes "any-order") rows)

abbrev pub solve_means : List Row → Meaning
solve_means rows =
    to_solve (names_among rows) (mode_given (first_of (codes "lax") rows)) (first_of (codes "order") rows) (plan_among rows)
    (limits_among rows) (progress_among rows) (parity_among rows)

abbrev pub check_means : List Row → Meaning
check_means rows = to_check (two_names (first_of (codes "FILE") rows) (first_of (codes "PROOF") rows) [])
    (format_given (any_order_among rows) (first_of (codes "format") rows)) (mode_given (first_of (codes "lax") rows)) (progress_among rows)

-- what is to be rewritten, among these values, beside a further file, if one is named
abbrev pub rewrite_among : Option Text → List Row → Option ToRewrite
rewrite_among further rows =
    to_rewrite (two_names (first_of (codes "FILE") rows) (first_of (codes "PROOF") rows) (first_of (codes "out") rows ∷ further ∷ []))
    (first_of (codes "out") rows) (mode_given (first_of (codes "lax") rows)) (progress_among rows)

-- a proof to be written in the other format
abbrev pub to_convert : Option ToRewrite → Conversion → Meaning
to_convert None into = Misuse
to_convert (Some task) into =
    Asks (Convert (record {
      file = task.file;
      proof = task.proof;
      mode = task.mode;
      out = task.out;
      into = into;
      progress = task.progress;
    }))

abbrev pub drat_means : List Row → Meaning
drat_means rows = to_convert (rewrite_among None rows) (IntoDrat (fresh_among rows))

abbrev pub lrat_means : List Row → Meaning
lrat_means rows = to_convert (rewrite_among None rows) (IntoLrat (any_order_among rows))

-- a proof to be trimmed, and a file for its core, if one is named
abbrev pub to_trim : Option ToRewrite → Option Text → Meaning
to_trim None core = Misuse
to_trim (Some task) core =
    Asks (Trim (record {
      file = task.file;
      proof = task.proof;
      mode = task.mode;
      out = task.out;
      core = core;
      progress = task.progress;
    }))

abbrev pub trim_means : List Row → Meaning
trim_means rows = to_trim (rewrite_among (first_of (codes "core") rows) rows) (first_of (codes "core") rows)

abbrev pub order_means : List Row → Meaning
order_means rows =
    to_order (two_names (first_of (codes "FILE") rows) (first_of (codes "out") rows) [])
    (option_and_then method_named (first_of (codes "by") rows)) (mode_given (first_of (codes "lax") rows)) (progress_among rows)

abbrev pub ask_means : List Row → Meaning
ask_means rows =
    to_ask (two_names (first_of (codes "FILE") rows) (first_of (codes "proof") rows)
    (first_of (codes "order") rows ∷ first_of (codes "cubes") rows ∷ [])) (first_of (codes "cubes") rows)
    (mode_given (first_of (codes "lax") rows)) (first_of (codes "order") rows) (limits_among rows) (progress_among rows)

-- the size of a board that is among these values
abbrev pub size_among : List Row → Option ℕ
size_among rows = size_given (first_of (codes "KIND") rows) (first_of (codes "SIZE") rows)

abbrev pub bench_means : List Row → Meaning
bench_means rows = to_bench (size_among rows) (first_of (codes "proof") rows) (limits_among rows) (progress_among rows)

abbrev pub make_means : List Row → Meaning
make_means rows = to_make (size_among rows) (option_and_then part_named (first_of (codes "part") rows)) (first_of (codes "out") rows)

-- what the values of a command about a board mean
abbrev pub board_means : Text → List Row → Meaning
board_means name rows = if bytes_eq name (codes "bench") then bench_means rows else if bytes_eq name
    (codes "make") then make_means rows else Misuse

-- what the values of a command that makes another proof mean, or those of one about a board
abbrev pub rewrite_means : Text → List Row → Meaning
rewrite_means name rows =
    if bytes_eq name (codes "drat") then drat_means rows else if bytes_eq name (codes "lrat") then lrat_means rows else if bytes_eq name
    (codes "trim") then trim_means rows else board_means name rows

-- what the values of a command mean
abbrev pub command_means : Text → List Row → Meaning
command_means name rows =
    if bytes_eq name (codes "solve") then solve_means rows else if bytes_eq name (codes "check") then check_means rows else if bytes_eq name
    (codes "order") then order_means rows else if bytes_eq name (codes "ask") then ask_means rows else rewrite_means name rows

-- what words mean that the parser takes; a command must be among them
abbrev pub taken_means : Option (Text × List Row) → Meaning
taken_means None = Misuse
taken_means (Some taken) = command_means taken.0 taken.1

abbrev pub means : List ErrorKind → Option (Text × List Row) → List Meaning
means [] taken = taken_means taken ∷ []
means (k ∷ more) taken = map refusal_means (k ∷ more)

-- What the words may mean: one thing, but for words at which the parser leaves two kinds of refusal possible.
unfoldable pub meanings : List Text → List Meaning
meanings words = means (fault_of the_app words) (subcommand_of the_app words)

abbrev pub IsOneOf : Meaning → List Meaning → Type 0
IsOneOf meaning [] = ⊥
IsOneOf meaning (m ∷ more) = (meaning ≡ m) ⊎ IsOneOf meaning more

-- the words may mean this
abbrev pub MayMean : List Text → Meaning → Type 0
MayMean words meaning = IsOneOf meaning (meanings words)

-- whatever they may mean is this
abbrev pub CanOnlyMean : List Text → Meaning → Type 0
CanOnlyMean words meaning = (other : Meaning) → MayMean words other → other ≡ meaning

-- the command that the words give, if they give one
abbrev pub only_command : List Meaning → Option Command
only_command (Asks asked ∷ []) = Some asked
only_command _ = None

abbrev pub command : List Text → Option Command
command words = only_command (meanings words)

-- the limits of their run
abbrev pub limits_asked : Option Command → Limits
limits_asked None = default_limits
limits_asked (Some asked) = limits_of asked

-- whether it is to tell of its progress
abbrev pub progress_asked : Option Command → Bool
progress_asked None = false
progress_asked (Some asked) = is_told asked

-- whether it is to add up parity equations first
abbrev pub parity_asked : Option Command → Bool
parity_asked None = false
parity_asked (Some asked) = adds_equations asked
