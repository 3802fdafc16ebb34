-- Which answers a text allows.
use Rattle.std.specs.Prelude.{◌≡◌, ℕ, Result, Ok, Err, ⊤}
use Rattle.cnf_base.specs.Formula.{Formula}
use Rattle.text_scan.specs.Items.{Items}
use Rattle.text_scan.specs.declared.scanner.ScanError.{ScanError}
use Rattle.text_scan.specs.declared.scanner.ScanError.TheVariants.{ReadFault as ScanFault, TooLong as ScanTooLong}
use Rattle.dimacs_reader.specs.declared.error.CnfError.{CnfError}
use Rattle.dimacs_reader.specs.declared.error.CnfError.TheVariants.{Refused, ReadFault, TooLong, OutOfMemory}
use Rattle.dimacs_reader.specs.declared.error.CnfKind.{CnfKind}
use Rattle.dimacs_reader.specs.declared.error.CnfKind.TheVariants.{NoHeader, BadHeader, BadToken, LiteralRange, TooManyClauses}
use Rattle.dimacs_reader.specs.declared.error.CnfKind.TheVariants.{ClauseMissing, NoEndingZero, Limit}
use Rattle.dimacs_reader.specs.declared.mode.Mode.{Mode}
use Rattle.dimacs_reader.specs.Body.{Wants, no_clauses}
use Rattle.dimacs_reader.specs.Cnf.{CnfText, formula, refusal, overlong}
use Rattle.dimacs_reader.specs.Header.{HasHeader}

-- The answer is what the text is. A failed read and want of memory say nothing of it.
abbrev pub Answers : Result Formula CnfError → CnfText → Type 0
Answers (Ok cnf) text = text ≡ formula cnf
Answers (Err (Refused kind line)) text = text ≡ refusal kind line
Answers (Err TooLong) text = text ≡ overlong
Answers (Err ReadFault) text = ⊤
Answers (Err OutOfMemory) text = ⊤

-- Memory may be wanted for a text of these items, where so many bytes follow those taken: it has a good header, and behind it a number
-- that offends nothing, or in the mode Lax a last clause without its zero, with no more tokens behind than a block of the bytes taken can
-- spell, and those that follow.
pub record WantsMemory (mode : Mode) (more : ℕ) (all : Items) : Type 0 where
  pub vars : ℕ
  pub count : ℕ
  pub rest : Items
  pub header : HasHeader all vars count rest
  pub after : Items
  pub wants : Wants mode count more rest (no_clauses vars) after

-- the number of a kind
abbrev pub number_of : CnfKind → ℕ
number_of NoHeader = 1
number_of BadHeader = 2
number_of BadToken = 3
number_of LiteralRange = 4
number_of TooManyClauses = 5
number_of ClauseMissing = 6
number_of NoEndingZero = 7
number_of Limit = 8

-- the answer to a scanner's error
abbrev pub error_of : ScanError → CnfError
error_of ScanFault = ReadFault
error_of ScanTooLong = TooLong
