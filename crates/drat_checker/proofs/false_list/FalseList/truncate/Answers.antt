-- A front of literals: the flags are those of the front, and none of them stands beside its negation.
use Rattle.std.proofs.Common.{◌≡◌, ◌-◌, ◌&&◌, not, ℕ, min, ℤ, List, Option, length, sym, ◌∙◌, ap, subst, take, drop, length-drop, arith}
use Rattle.std.proofs.lemmas.List.{length-take, take_all}
use Rattle.lrat_rules.specs.Chain.{literals_of}
use Rattle.drat_checker.specs.Flags.{is_set}
use Rattle.drat_checker.specs.Trail.{IsFalseList}
use Rattle.drat_checker.proofs.FalseLists.{placed-front}
use Rattle.drat_checker.proofs.FalseSets.{apart-take}
use Rattle.drat_checker.proofs.Trails.{front_left_over, once-front}
use Rattle.drat_checker.proofs.false_list.FalseList.truncate.Goals as goal

pub invariant_of-self : goal.invariant_of-self
invariant_of-self c =
    let literals = c.self.inside.literals.items in
    let count = c.args.count in
    let rest : take (length c.as_slice.result.now - count) (drop count c.as_slice.result.now) ≡ drop count literals =
    take_all (length c.as_slice.result.now - count) (drop count c.as_slice.result.now)
    (omega (arith, length-drop count c.as_slice.result.now))
    ∙ ap (drop count) c.as_slice.ensures.value in
    subst (λ (l : List ℤ). IsFalseList c.clear_all.new.flags c.self.inside.at l c.truncate-then-count-len.new.self.items)
    (sym c.truncate.ensures.items)
    (subst (λ (l : List (Option ℕ)). IsFalseList c.clear_all.new.flags c.self.inside.at (take count literals) l)
    (sym c.truncate-then-count-len.ensures.items) (record {
      apart = apart-take literals count c.self.invariant.apart;
      flagged = λ x. c.clear_all.ensures.cleared x ∙ ap (λ (l : List ℤ). not (literals_of l x) && is_set c.self.inside.flags x) rest
          ∙ ap (λ b. not (literals_of (drop count literals) x) && b) (c.self.invariant.flagged x)
          ∙ front_left_over literals count c.self.invariant.once x;
      once = once-front literals count c.self.invariant.once;
      many = length-take count c.self.inside.reasons.items ∙ ap (min count) c.self.invariant.many ∙ sym (length-take count literals);
      placed = placed-front c.self.inside.at literals count c.self.invariant.placed;
    }))
