-- What is left to show of `closing_law`.
use Rattle.std.proofs.Common.{neg_ℤ, sym, ◌∙◌}
use Rattle.hint_chain.proofs.Sets.{IsApart-from, IsConsistent-apart, absent, has_variable-neg_ℤ}
use Rattle.hint_chain.proofs.ChildSteps.{closes-children, closes-behind}
use Rattle.hint_chain.proofs.laws.closing_law.Goals as goal

pub returns-clause-consistent : goal.returns-clause-consistent
returns-clause-consistent c clause h = IsConsistent-apart clause h

pub returns-clause-closes : goal.returns-clause-closes
returns-clause-closes c n children last consistent are closes = closes-children n children last consistent are closes

pub returns-clause-behind : goal.returns-clause-behind
returns-clause-behind c n literal first children last consistent leaves are closes =
    closes-behind n literal first children last consistent leaves are closes

pub returns-clause-apart : goal.returns-clause-apart
returns-clause-apart c x clause h =
    let first = IsApart-from (neg_ℤ x) clause h in (
      absent clause x (sym (has_variable-neg_ℤ x clause) ∙ first.others),
      absent clause (neg_ℤ x) first.others,
    )
