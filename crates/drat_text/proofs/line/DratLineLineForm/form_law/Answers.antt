-- What is kept of a token says the same as the token.
use Rattle.drat_text.proofs.DratForm.{drat_law}
use Rattle.drat_text.proofs.line.DratLineLineForm.form_law.Goals as goal

pub returns : goal.returns
returns c = drat_law (record {
  given = c.kept_numbers_law.ensures.given;
  split = c.kept_numbers_law.ensures.split;
  literals = c.kept_numbers_law.ensures.literals;
  same = c.kept_numbers_law.ensures.same;
  small = c.kept_numbers_law.ensures.small;
  no_deletion = c.kept_numbers_law.ensures.no_deletion;
  signed = c.kept_word_law.ensures.signed;
  deletion = c.kept_word_law.ensures.deletion;
})
