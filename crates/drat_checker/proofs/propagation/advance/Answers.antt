-- One literal visits its clauses, or its late ones.
use Rattle.std.proofs.Common.{◌≡◌, ◌+◌, ◌<◌, ◌≤◌, ℤ, List, length, ap, arith, length-append, ◌∙◌}
use Rattle.drat_checker.specs.Propagation.{Extends}
use Rattle.drat_checker.specs.Watches.{watchers}
use Rattle.drat_checker.proofs.Derived.{derives-extends}
use Rattle.drat_checker.proofs.Lifts.{if-ok-by, if-ok-given}
use Rattle.drat_checker.proofs.Settled.{heads-late, heads-next, own-false}
use Rattle.drat_checker.proofs.propagation.advance.Goals as goal

longer : {old new : List ℤ} → Extends old new → length old ≤ length new
longer {old} {new} e = let is : length new ≡ length old + length e.rest = ap length e.parts ∙ length-append old e.rest in omega (arith, is)

pub visit-requires : goal.visit-requires
visit-requires c =
    let within : c.args.heads.now.next < length c.args.trail.now.literals = omega (arith, c.if-heads-len.true, c.len.ensures.literals) in
    record {
      watched = c.requires.watched;
      falsified = own-false c.args.trail.now.literals c.literal-literal.result c.args.heads.now.next within c.literal-literal.ensures;
    }

pub returns-then-heads-len-clause-heads : goal.returns-then-heads-len-clause-heads
returns-then-heads-len-clause-heads c =
    let old = c.args.trail.now.literals in
    let heads = c.args.heads.now in
    let late : heads.late < length old = c.requires.late in
    let le : heads.late ≤ length old = omega (arith, late) in
    let within : heads.next < length old = omega (arith, c.if-heads-len.true, c.len.ensures.literals) in
    if-ok-given c.visit.result (λ derives moves same conflict visited none.
    heads-next c.args.db.now c.args.kept.now c.visit.new.self old c.visit.new.trail.literals (derives-extends derives) moves
    c.requires.watched.watched heads.next heads.late c.literal-literal.result within c.literal-literal.ensures le (ap watchers same)
    (visited none) c.requires.heads) c.visit.ensures.derives c.visit.ensures.moves c.visit.ensures.late c.visit.ensures.visited

pub returns-then-heads-len-clause-within : goal.returns-then-heads-len-clause-within
returns-then-heads-len-clause-within c =
    let within : c.args.heads.now.next < length c.args.trail.now.literals = omega (arith, c.if-heads-len.true, c.len.ensures.literals) in
    if-ok-by c.visit.result (λ derives conflict none.
    let more : length c.args.trail.now.literals ≤ length c.visit.new.trail.literals = longer (derives-extends derives) in
    omega (arith, within, more)) c.visit.ensures.derives

pub visit_late-requires : goal.visit_late-requires
visit_late-requires c = record {
  watched = c.requires.watched;
  falsified = own-false c.args.trail.now.literals c.literal-literal-2.result c.args.heads.now.late c.requires.late
      c.literal-literal-2.ensures;
}

pub returns-clause-heads : goal.returns-clause-heads
returns-clause-heads c =
    let old = c.args.trail.now.literals in
    let heads = c.args.heads.now in
    let past : length old ≤ heads.next = omega (arith, c.if-heads-len.false, c.len.ensures.literals) in
    if-ok-given c.visit_late.result (λ derives moves others conflict visited none.
    heads-late c.args.db.now c.args.kept.now c.visit_late.new.self old c.visit_late.new.trail.literals (derives-extends derives) moves
    heads.next heads.late c.literal-literal-2.result c.requires.late c.literal-literal-2.ensures past others (visited none)
    c.requires.within c.requires.heads) c.visit_late.ensures.derives c.visit_late.ensures.moves c.visit_late.ensures.late
    c.visit_late.ensures.visited

pub returns-clause-within : goal.returns-clause-within
returns-clause-within c =
    if-ok-by c.visit_late.result (λ derives conflict none.
    let more : length c.args.trail.now.literals ≤ length c.visit_late.new.trail.literals = longer (derives-extends derives) in
    omega (arith, c.requires.within, more)) c.visit_late.ensures.derives
