-- What is kept of a token says the same as the token.
use Rattle.lrat_text.proofs.LratForm.{lrat_law}
use Rattle.lrat_text.proofs.draft.LratLineLineForm.form_law.Goals as goal

pub returns : goal.returns
returns c = lrat_law (record {
  plain = c.kept_word_law.ensures.plain;
  signed = c.kept_word_law.ensures.signed;
  deletion = c.kept_word_law.ensures.deletion;
})
