-- What is left to show of `read_words`.
use Rattle.std.proofs.Common.{map}
use Rattle.std.proofs.lemmas.Result.{IfOk-weaker}
use Rattle.std.specs.String.{string_bytes}
use Rattle.command_line.proofs.Meant.{answered}
use Rattle.command_line.proofs.words.read_words.Goals as goal

pub returns-in-Ok-clause-meant : goal.returns-in-Ok-clause-meant
returns-in-Ok-clause-meant c =
    let parse = c.try_get_matches_from.ensures in
    let answer = c.answer_to.ensures in
    answered (map string_bytes c.args.words.now) c.try_get_matches_from.result c.answer_to.result c.in-Ok.ensures parse.kinds parse.matches
    answer.taken answer.refused

pub returns-in-Ok-clause-limits : goal.returns-in-Ok-clause-limits
returns-in-Ok-clause-limits c = IfOk-weaker c.answer_to.result _ _ (λ asked within. within.0) c.answer_to.ensures.within

pub returns-in-Ok-clause-size : goal.returns-in-Ok-clause-size
returns-in-Ok-clause-size c = IfOk-weaker c.answer_to.result _ _ (λ asked within. within.1) c.answer_to.ensures.within
