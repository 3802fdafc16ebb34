-- A reader of an LRAT proof as its callers see it.
use Rattle.std.specs.Prelude.{ℕ, List}
use Rattle.cnf_base.specs.declared.step.Step.{Step}
use Rattle.lrat_text.specs.Draft.{DraftLine, lrat_form}
use Rattle.lrat_text.specs.Steps.{Steps}
use Rattle.lrat_text.specs.LineReader.{ReaderOf, AnswerOf, steps_ahead as steps_ahead_of, so_far as so_far_of, fuel as fuel_of}
use Rattle.lrat_text.specs.LineReader.{GivesSoFar as GivesSoFarOf, GaveStep as GaveStepOf, Moves as MovesOf}
pub use Rattle.lrat_text.specs.LineReader.{is_reading, given, Gives, last_answer}

abbrev pub Reader : Type 0
Reader = ReaderOf DraftLine

-- the steps that are still to be given, where these bytes follow those taken
abbrev pub steps_ahead : Reader → List ℕ → Steps
steps_ahead reader more = steps_ahead_of lrat_form reader more

-- the steps that the bytes taken decide where these follow them, if all of them are the front of a longer text
abbrev pub so_far : Reader → List ℕ → Steps
so_far reader more = so_far_of lrat_form reader more

-- how many more steps can be given at most
abbrev pub fuel : Reader → ℕ
fuel reader = fuel_of lrat_form reader

abbrev pub GivesSoFar : AnswerOf Step → Reader → Reader → List ℕ → Type 0
GivesSoFar answer old new bytes = GivesSoFarOf lrat_form answer old new bytes

abbrev pub GaveStep : ℕ → Reader → Reader → Type 0
GaveStep at old new = GaveStepOf lrat_form at old new

abbrev pub Moves : AnswerOf Step → Reader → Reader → Type 0
Moves answer old new = MovesOf lrat_form answer old new
