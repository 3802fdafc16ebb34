-- A group without literals, whose stamp no literal has.
use Rattle.std.proofs.Common.{◌≡◌, ◌∙◌, ℤ, neg_ℤ, true, false, not, int_eq, refl, sym, subst}
use Rattle.std.specs.List.{list_any}
use Rattle.lrat_rules.specs.Addition.{has_other}
use Rattle.lrat_rules.specs.Stamps.{stamp_of}
use Rattle.lrat_rules.specs.FalseLiterals.{set_of, before_of}
use Rattle.lrat_rules.proofs.FalseStamps.{has_either, none_added, one_stamp, opened_set, opened_before, same_sets}
use Rattle.lrat_rules.proofs.chain.Chain.open_empty.Goals as goal

pub returns-then-has_other-clause-err : goal.returns-then-has_other-clause-err
returns-then-has_other-clause-err c = same_sets c.args.self.now c.args.self.now (λ x. refl) refl refl

pub returns-then-has_other-clause-memory : goal.returns-then-has_other-clause-memory
returns-then-has_other-clause-memory c =
    subst (λ (y : ℤ). list_any (λ x. not (int_eq x y)) c.args.clause.now ≡ true) c.negated.ensures (sym c.has_other.ensures ∙ c.if-has_other.true)

pub returns-clause-set : goal.returns-clause-set
unfolding set_of before_of
returns-clause-set c = λ i x.
    let self = c.args.self.now in
    let none : has_other c.args.pivot c.args.clause.now ≡ false =
    subst (λ (y : ℤ). list_any (λ z. not (int_eq z y)) c.args.clause.now ≡ false) c.negated.ensures
    (sym c.has_other.ensures ∙ c.if-has_other.false) in
    (opened_set self.own self.group self.last (stamp_of self.stamps x) 4294967295 (one_stamp self.own self.group _ c.requires)
    (self.given x) self.few
    ∙ none_added (has_either (stamp_of self.stamps) self.own self.group) (neg_ℤ c.args.pivot) c.args.clause.now none x) i

pub returns-clause-group : goal.returns-clause-group
unfolding set_of before_of
returns-clause-group c =
    let self = c.args.self.now in
    opened_before self.own self.group self.last 4294967295 (stamp_of self.stamps) (one_stamp self.own self.group _ c.requires)
    self.own_given self.few
