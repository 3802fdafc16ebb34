-- For what a reader of an LRAT proof may want memory.
use Rattle.std.specs.Prelude.{ℕ, List}
use Rattle.cnf_base.specs.declared.step.Step.{Step}
use Rattle.lrat_text.specs.Draft.{lrat_form}
use Rattle.lrat_text.specs.Reader.{Reader}
use Rattle.lrat_text.specs.LineWants.{WantsOf, wants_of as wants_by, wants_ahead as wants_ahead_of}
pub use Rattle.lrat_text.specs.LineWants.{no_further, for_number, for_step, is_near, from_step, may_want, Spends}

abbrev pub Wants : Type 0
Wants = WantsOf Step

-- a whole proof text, of which as many bytes are looked at as the limit says
abbrev pub wants_of : ℕ → List ℕ → Wants
wants_of limit bytes = wants_by lrat_form limit bytes

-- what is still ahead of a reader, where these bytes follow those taken
abbrev pub wants_ahead : Reader → List ℕ → Wants
wants_ahead reader more = wants_ahead_of lrat_form reader more
