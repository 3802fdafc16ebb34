-- What reading the words answers.
use Rattle.std.specs.Prelude.{◌≡◌, ◌≢◌, ◌⊎◌, ℕ, List, ⊤, Option, option_map, IfSome, Result, Ok, Err}
use Rattle.std.specs.Borrow.{Bor}
use Rattle.clap.specs.Words.{Row, Text}
use Rattle.clap.specs.declared.error.ErrorKind.{ErrorKind}
use Rattle.clap.specs.declared.error.ErrorKind.TheVariants as kind
use Rattle.schedule_plan.specs.Limits.{AreLimits}
use Rattle.command_line.specs.declared.plan.PlanSource.{PlanSource}
use Rattle.command_line.specs.declared.plan.PlanSource.TheVariants as source
use Rattle.command_line.specs.declared.rewrite.ConvertTask.{ConvertTask}
use Rattle.command_line.specs.declared.rewrite.RewriteTask.{RewriteTask}
use Rattle.command_line.specs.declared.rewrite.TrimTask.{TrimTask}
use Rattle.command_line.specs.declared.words.Asked.{Asked}
use Rattle.command_line.specs.declared.words.Asked.TheVariants as asked
use Rattle.command_line.specs.declared.words.Refusal.{Refusal}
use Rattle.command_line.specs.declared.words.Refusal.TheVariants as refusal
use Rattle.command_line.specs.Command.{Command, Solve, Check, Bench, Make, Arrange, Ask, Convert, Trim, ToConvert, ToRewrite, ToTrim}
use Rattle.command_line.specs.Command.{Planned, ByName, ByFile, ByBuckets, Found}
use Rattle.command_line.specs.Command.{Asks, AsksHelp, Misuse, MayMean, IsSize, limits_of, refusal_means, size_of, taken_means}

-- the text behind a reference that may be there
abbrev pub text_of : Option (Bor (List ℕ)) → Option (List ℕ)
text_of = option_map (λ s. s.now)

-- what gives the plan
abbrev pub planned_of : PlanSource → Planned
planned_of (source.Name name) = ByName name
planned_of (source.Schedule file) = ByFile file.now
planned_of (source.Buckets file) = ByBuckets file.now
planned_of source.Search = Found

-- what is to be rewritten
abbrev pub rewrite_of : RewriteTask → ToRewrite
rewrite_of task = record {
  file = task.files.formula.now;
  proof = task.files.proof.now;
  mode = task.mode;
  out = task.out.now;
  progress = task.progress;
}

-- a proof that is to be written in the other format
abbrev pub convert_of : ConvertTask → ToConvert
convert_of task = record {
  file = task.files.formula.now;
  proof = task.files.proof.now;
  mode = task.mode;
  out = task.out.now;
  into = task.into;
  progress = task.progress;
}

-- a proof that is to be trimmed
abbrev pub trim_of : TrimTask → ToTrim
trim_of task = record {
  file = task.files.formula.now;
  proof = task.files.proof.now;
  mode = task.mode;
  out = task.out.now;
  core = text_of task.core;
  progress = task.progress;
}

-- the command with its values
abbrev pub command_of : Asked → Command
command_of (asked.Solve task) =
    Solve (record {
      file = task.files.formula.now;
      proof = task.files.proof.now;
      mode = task.mode;
      order = text_of task.order;
      plan = planned_of task.plan;
      parity = task.parity;
      limits = task.limits;
      progress = task.progress;
    })
command_of (asked.Check task) =
    Check (record {
      file = task.files.formula.now;
      proof = task.files.proof.now;
      format = task.format;
      mode = task.mode;
      progress = task.progress;
    })
command_of (asked.Bench task) =
    Bench (record { size = task.size; proof = task.proof.now; limits = task.limits; progress = task.progress })
command_of (asked.Make task) = Make (record { size = task.size; part = task.part; file = task.file.now })
command_of (asked.Order task) =
    Arrange (record {
      file = task.formula.now;
      method = task.method;
      mode = task.mode;
      out = task.out.now;
      progress = task.progress;
    })
command_of (asked.Ask task) =
    Ask (record {
      file = task.files.formula.now;
      cubes = task.cubes.now;
      proof = task.files.proof.now;
      mode = task.mode;
      order = text_of task.order;
      limits = task.limits;
      progress = task.progress;
    })
command_of (asked.Convert task) = Convert (convert_of task)
command_of (asked.Trim task) = Trim (trim_of task)

-- its limits are ones that a run may have, and the board that it is about has one of the sizes
abbrev pub IsWithin : Command → Type 0
IsWithin asked = AreLimits (limits_of asked) × IfSome (size_of asked) IsSize

-- Words that the parser took, with these values, ask for a command, or are faulty; want of memory is never told for them.
abbrev pub IsTaken : Option (Text × List Row) → Result Asked Refusal → Type 0
IsTaken rows (Ok asked) = taken_means rows ≡ Asks (command_of asked)
IsTaken rows (Err (refusal.Help text)) = ⊥
IsTaken rows (Err refusal.Usage) = taken_means rows ≡ Misuse
IsTaken rows (Err refusal.OutOfMemory) = ⊥

-- What a refusal of the parser is, by its kind. Memory may run out in the parser, or where the text of help, or of the version, is made.
abbrev pub IsRefusalOf : ErrorKind → Refusal → Type 0
IsRefusalOf k (refusal.Help text) = refusal_means k ≡ AsksHelp
IsRefusalOf k refusal.Usage = (k ≢ kind.OutOfMemory) × (refusal_means k ≡ Misuse)
IsRefusalOf k refusal.OutOfMemory = (k ≡ kind.OutOfMemory) ⊎ (refusal_means k ≡ AsksHelp)

-- the words may mean this refusal; want of memory is free
abbrev pub IsRefusal : List (List ℕ) → Refusal → Type 0
IsRefusal words (refusal.Help text) = MayMean words AsksHelp
IsRefusal words refusal.Usage = MayMean words Misuse
IsRefusal words refusal.OutOfMemory = ⊤
