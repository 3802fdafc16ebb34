-- The lines that tell an outcome, and the whole texts that they begin or end. (SAT Competitions, output format: the
-- `s` line of an answer and `c` lines of comment. The words of a verdict, of a limit and of a reason are this project's own.)
use Rattle.std.specs.Prelude.{ℕ, Bool, List, ◌++◌, decimal, codes}
use Rattle.lrat_rules.specs.declared.outcome.Reason.{Reason}
use Rattle.lrat_rules.specs.declared.outcome.Reason.TheVariants.{Syntax, IdNotGreater, HintNotLive, HintNotUnit, NoConflict, CandidateOpen}
use Rattle.lrat_rules.specs.declared.outcome.Reason.TheVariants.{GroupStray, NoEmptyClause}
use Rattle.answer_text.specs.Model.{model_text}

abbrev pub sat_line : List ℕ
sat_line = codes "s SATISFIABLE\n"

abbrev pub unsat_line : List ℕ
unsat_line = codes "s UNSATISFIABLE\n"

abbrev pub unknown_line : List ℕ
unknown_line = codes "s UNKNOWN\n"

abbrev pub verified_line : List ℕ
verified_line = codes "s VERIFIED\n"

abbrev pub not_verified_line : List ℕ
not_verified_line = codes "s NOT VERIFIED\n"

abbrev pub node_limit_line : ℕ → List ℕ
node_limit_line n = codes "c node limit " ++ decimal n ++ codes " reached\n"

abbrev pub id_limit_line : ℕ → List ℕ
id_limit_line n = codes "c identifier limit " ++ decimal n ++ codes " reached\n"

-- satisfiable, and a model
abbrev pub sat_text : List Bool → List ℕ
sat_text values = sat_line ++ model_text values

-- unknown, since a limit was reached
abbrev pub node_limit_text : ℕ → List ℕ
node_limit_text n = node_limit_line n ++ unknown_line

abbrev pub id_limit_text : ℕ → List ℕ
id_limit_text n = id_limit_line n ++ unknown_line

abbrev pub reason_name : Reason → List ℕ
reason_name Syntax = codes "Syntax"
reason_name IdNotGreater = codes "IdNotGreater"
reason_name HintNotLive = codes "HintNotLive"
reason_name HintNotUnit = codes "HintNotUnit"
reason_name NoConflict = codes "NoConflict"
reason_name CandidateOpen = codes "CandidateOpen"
reason_name GroupStray = codes "GroupStray"
reason_name NoEmptyClause = codes "NoEmptyClause"

abbrev pub reason_line : ℕ → Reason → List ℕ
reason_line line reason = codes "c line " ++ decimal line ++ codes " " ++ reason_name reason ++ codes "\n"

-- not verified, since this line was refused
abbrev pub refused_text : ℕ → Reason → List ℕ
refused_text line reason = reason_line line reason ++ not_verified_line

-- the board that a workload decides: how many squares a side, variables and clauses
abbrev pub board_line : ℕ → ℕ → ℕ → List ℕ
board_line size variables clauses =
    codes "c board " ++ decimal size ++ codes " variables " ++ decimal variables ++ codes " clauses " ++ decimal clauses ++ codes "\n"

-- the greatest identifier of its proof
abbrev pub last_line : ℕ → List ℕ
last_line id = codes "c last identifier " ++ decimal id ++ codes "\n"

-- which cube the next answer is of
abbrev pub cube_line : ℕ → List ℕ
cube_line number = codes "c cube " ++ decimal number ++ codes "\n"

-- how many additions of a proof were kept, and of how many
abbrev pub kept_line : ℕ → ℕ → List ℕ
kept_line kept total = codes "c kept " ++ decimal kept ++ codes " of " ++ decimal total ++ codes "\n"

-- verified, and trimmed
abbrev pub trimmed_text : ℕ → ℕ → List ℕ
trimmed_text kept total = kept_line kept total ++ verified_line
