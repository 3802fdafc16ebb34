-- One number: its clause stays, goes from the list, watches another literal, or forces its last one; a false clause; and the end.
use Rattle.std.proofs.Common.{◌≡◌, ◌+◌, ◌-◌, ◌<◌, Bool, true, false, ℕ, ℤ, neg_ℤ, List, [], length, take, set, None, Some, nat_eq}
use Rattle.std.proofs.Common.{int_eq, if◌then◌else◌}
use Rattle.std.proofs.Common.{refl, sym, ap, ◌∙◌, subst, arith, length-set}
use Rattle.std.proofs.Math.IntN.{neg_ℤ-neg_ℤ}
use Rattle.std.proofs.Math.Seq.{get_or-set_other}
use Rattle.std.proofs.lemmas.Bool.{both_ways, false_from_ne_true}
use Rattle.std.proofs.lemmas.List.{take_all}
use Rattle.lrat_rules.specs.declared.outcome.Effect.TheVariants.{Conflict, Unit as Forced}
use Rattle.lrat_rules.specs.Chain.{literals_of, effect}
use Rattle.lrat_rules.specs.Trail.{with_last}
use Rattle.drat_checker.specs.Places.{Places, place_at, standing}
use Rattle.drat_checker.specs.Numbers.{has_number}
use Rattle.drat_checker.specs.Propagation.{Derives, Extends}
use Rattle.drat_checker.specs.Trail.{Trail, with_reason}
use Rattle.drat_checker.specs.Reasons.{IsFalsified, KeepsReasons}
use Rattle.drat_checker.specs.Watches.{Pairs, ArePairs, AreVisited, beside, is_in, watchers_with, watches}
use Rattle.drat_checker.specs.Visits.{IsMoved}
use Rattle.drat_checker.proofs.Propagated.{extends-none, extends-is, extends-last, false_clause, none-before, unclashed}
use Rattle.drat_checker.proofs.Derived.{derives-none, derives-then, derives-extends, derives-forced, derives-is, derives-same}
use Rattle.drat_checker.proofs.Reasoned.{keeps-falsified, keeps-forced, keeps-is, keeps-none, keeps-then}
use Rattle.drat_checker.proofs.FalseSets.{int_eq-true}
use Rattle.drat_checker.proofs.Guarded.{all-false, all-known, last-forced}
use Rattle.drat_checker.proofs.Placed.{each-along, same-each}
use Rattle.drat_checker.proofs.Standing.{among-place, place-within}
use Rattle.drat_checker.proofs.Visited.{entered-at, keeps-dropped, last-negated, more-false, true-by, visited-next, visited-start}
use Rattle.drat_checker.proofs.Watched.{in-one, keeps-beside, moved-away, moves-none, moves-then, moves-to, pairs-moved, watched-gone, watched-moved}
use Rattle.drat_checker.proofs.watches.walk.Goals as goal

pub numbers-init : goal.numbers-init
numbers-init c = record {
  many = c.requires.many;
  within = omega (arith, c.len-left.ensures);
  are = c.requires.pairs;
  watched = λ others w. w;
  kept = same-each c.args.lists.now;
  moves = moves-none c.args.pairs.now.items c.args.trail.now.literals;
  derives = derives-none (standing c.args.db.now) c.args.trail.now.literals;
  reasons = keeps-none c.args.db.now c.args.trail.now;
  visited = subst (λ (l : List ℕ). AreVisited c.args.db.now c.args.pairs.now.items c.args.literal c.args.trail.now.literals c.args.out.now
      l) (sym (take_all c.len-left.result c.args.out.now (omega (arith, c.len-left.ensures))))
      (visited-start c.args.db.now c.args.pairs.now.items c.args.literal c.args.trail.now.literals c.args.out.now);
}

pub look-requires : goal.look-requires
look-requires c =
    let so_far = c.numbers.invariant in
    record {
      pairs = subst (λ (ps : Pairs). ArePairs ps c.args.db.now) (sym c.as_slice.ensures.value) so_far.are;
      falsified = more-false (derives-extends so_far.derives) c.args.literal c.requires.falsified;
    }

pub numbers-preserved-in-Stays : goal.numbers-preserved-in-Stays
numbers-preserved-in-Stays c =
    let so_far = c.numbers.invariant in
    let i = c.numbers.left - 1 in
    let more : c.numbers.left ≡ i + 1 = omega arith in
    let within : i < length c.numbers.out = omega (arith, so_far.within) in
    record {
      many = so_far.many;
      within = omega (arith, so_far.within);
      are = so_far.are;
      watched = so_far.watched;
      kept = so_far.kept;
      moves = so_far.moves;
      derives = so_far.derives;
      reasons = so_far.reasons;
      visited = visited-next c.args.db.now c.numbers.pairs.items c.numbers.pairs.items c.args.literal c.numbers.trail.literals
          c.numbers.trail.literals
          c.numbers.out c.numbers.out i c.numbers.left c.number-number.result more within c.number-number.ensures
          (extends-none c.numbers.trail.literals) refl (λ n other w. w) (λ clause stands w. c.in-Stays.ensures clause stands)
          c.args.out.now so_far.visited;
    }

pub numbers-preserved-in-Gone : goal.numbers-preserved-in-Gone
numbers-preserved-in-Gone c =
    let so_far = c.numbers.invariant in
    let i = c.numbers.left - 1 in
    let k = c.number-number.result in
    let out' = c.drop_at.new.self in
    let more : c.numbers.left ≡ i + 1 = omega arith in
    let within : i < length c.numbers.out = omega (arith, so_far.within) in
    let gone : (clause : List ℤ) → place_at c.args.db.now k ≡ Some clause → watches c.numbers.pairs.items k c.args.literal ≡ false =
    subst (λ (ps : Pairs). (clause : List ℤ) → place_at c.args.db.now k ≡ Some clause → watches ps k c.args.literal ≡ false)
    c.as_slice.ensures.value c.in-Gone.ensures in
    let others : (n : ℕ) → nat_eq n k ≡ false → has_number n c.numbers.out ≡ true → has_number n out' ≡ true = λ n apart listed.
    c.drop_at.ensures.kept n (ap (nat_eq n) (sym c.number-number.ensures) ∙ apart) listed in
    record {
      many = so_far.many;
      within = omega (arith, so_far.within, c.drop_at.ensures.len);
      are = so_far.are;
      watched = λ rest w.
          watched-gone c.numbers.pairs.items (beside (watchers_with c.numbers.lists c.args.literal c.numbers.out) rest)
          (beside (watchers_with c.numbers.lists c.args.literal out') rest) c.args.db.now k c.args.literal (so_far.watched rest w)
          (keeps-beside rest
          (keeps-dropped c.numbers.lists c.numbers.lists c.args.literal c.numbers.out out' k (same-each c.numbers.lists) others)) gone;
      kept = so_far.kept;
      moves = so_far.moves;
      derives = so_far.derives;
      reasons = so_far.reasons;
      visited = visited-next c.args.db.now c.numbers.pairs.items c.numbers.pairs.items c.args.literal c.numbers.trail.literals
          c.numbers.trail.literals
          c.numbers.out out' i c.numbers.left k more within c.number-number.ensures (extends-none c.numbers.trail.literals)
          c.drop_at.ensures.front
          (λ n other w. w)
          (λ clause stands w. absurd (both_ways (watches c.numbers.pairs.items k c.args.literal) (gone clause stands) w))
          c.args.out.now so_far.visited;
    }

-- the literal that is watched now isn't false, so it isn't the walked one
other-literal : (literals : List ℤ) (x literal : ℤ) → literals_of literals x ≡ false → literals_of literals literal ≡ true
    → int_eq x literal ≡ false
other-literal literals x literal unfalse is_false =
    false_from_ne_true _ (λ same.
    both_ways (literals_of literals x) unfalse
    (subst (λ (y : ℤ). literals_of literals y ≡ true) (sym (int_eq-true x literal same)) is_false))

pub numbers-preserved-in-Moved : goal.numbers-preserved-in-Moved
numbers-preserved-in-Moved c =
    let so_far = c.numbers.invariant in
    let pair = c.in-Moved.pair in
    let places = c.args.db.now in
    let literal = c.args.literal in
    let trail = c.numbers.trail.literals in
    let pairs = c.numbers.pairs.items in
    let moved : IsMoved places pairs trail literal c.number-number.result pair =
    subst (λ (ps : Pairs). IsMoved places ps trail literal c.number-number.result pair) c.as_slice.ensures.value c.in-Moved.ensures in
    let lists' = c.enter.new.self in
    let out = c.numbers.out in
    let out' = c.drop_at-in-Moved.new.self in
    let i = c.numbers.left - 1 in
    let k = c.number-number.result in
    let more : c.numbers.left ≡ i + 1 = omega arith in
    let within : i < length out = omega (arith, so_far.within) in
    let room : k < length pairs = omega (arith, place-within places k moved.clause moved.stands, so_far.many) in
    let others : (n : ℕ) → nat_eq n k ≡ false → has_number n out ≡ true → has_number n out' ≡ true = λ n apart listed.
    c.drop_at-in-Moved.ensures.kept n (ap (nat_eq n) (sym c.number-number.ensures) ∙ apart) listed in
    let keeps = keeps-dropped c.numbers.lists lists' literal out out' k c.enter.ensures.kept others in
    let is_false : literals_of trail literal ≡ true = more-false (derives-extends so_far.derives) literal c.requires.falsified in
    let entered : has_number k (watchers_with lists' literal out' pair.first) ≡ true =
    entered-at lists' literal pair.first out' k (other-literal trail pair.first literal moved.unfalse is_false)
    c.in_ok-enter-in-Moved.ensures.entered in
    let all = watchers_with c.numbers.lists literal out in
    let all' = watchers_with lists' literal out' in
    let away : watches (set pairs k (Some pair)) k literal ≡ false =
    moved-away pairs places k literal so_far.are trail pair moved (set pairs k (Some pair)) refl room is_false in
    record {
      many = length-set pairs k (Some pair) ∙ so_far.many;
      within = omega (arith, so_far.within, c.drop_at-in-Moved.ensures.len);
      are = pairs-moved pairs places k literal so_far.are trail pair moved (set pairs k (Some pair)) refl room;
      watched = λ rest w.
          watched-moved pairs places k literal so_far.are trail pair moved (set pairs k (Some pair)) refl room (beside all rest)
          (beside all' rest) (so_far.watched rest w) (keeps-beside rest keeps) (in-one all' rest k pair.first entered);
      kept = each-along so_far.kept c.enter.ensures.kept;
      moves = moves-then c.args.trail.now.literals trail (more-false (derives-extends so_far.derives)) so_far.moves
          (moves-to pairs places k literal so_far.are trail pair moved (set pairs k (Some pair)) refl room);
      derives = so_far.derives;
      reasons = so_far.reasons;
      visited = visited-next places pairs (set pairs k (Some pair)) literal trail trail out out' i c.numbers.left k more within
          c.number-number.ensures (extends-none trail) c.drop_at-in-Moved.ensures.front
          (λ n other w. ap (λ p. is_in p literal) (sym (get_or-set_other pairs k n (Some pair) None other)) ∙ w)
          (λ clause stands w. absurd (both_ways (watches (set pairs k (Some pair)) k literal) away w)) c.args.out.now so_far.visited;
    }

pub numbers-preserved : goal.numbers-preserved
numbers-preserved c =
    let so_far = c.numbers.invariant in
    let last = c.in-Last.ensures in
    let other = c.in-Last.other in
    let places = c.args.db.now in
    let trail = c.numbers.trail.literals in
    let i = c.numbers.left - 1 in
    let k = c.number-number.result in
    let more : c.numbers.left ≡ i + 1 = omega arith in
    let within : i < length c.numbers.out = omega (arith, so_far.within) in
    let unfalse : literals_of trail other ≡ false =
    ap (literals_of trail) (sym (neg_ℤ-neg_ℤ other)) ∙ ap (λ z. literals_of trail (neg_ℤ z)) (sym c.negated.ensures)
    ∙ sym c.in_ok-clash-in-Last.ensures.clash ∙ c.if-clash.false in
    let e : effect (literals_of trail) last.clause ≡ Forced other = last-forced (literals_of trail) other last.clause last.last last.held
    unfalse in
    let new : c.falsify.new.self.literals ≡ with_last (neg_ℤ other) trail =
    unclashed c.in_ok-clash-in-Last.clash c.falsify.new.self.literals trail (with_last c.negated.result trail) c.if-clash.false
    c.in_ok-clash-in-Last.ensures.literals
    ∙ ap (λ z. with_last z trail) c.negated.ensures in
    let grown : Extends trail c.falsify.new.self.literals = extends-is new (extends-last (neg_ℤ other) trail) in
    let derived : Derives (standing places) trail c.falsify.new.self.literals =
    derives-is new (derives-forced trail last.clause other e (standing places) (among-place places k last.clause last.stands)) in
    let reasoned : KeepsReasons places [] c.numbers.trail c.falsify.new.self =
    keeps-falsified c.in_ok-clash-in-Last.clash (with_reason c.negated.result (Some k) c.numbers.trail)
    (subst (λ (z : ℤ). KeepsReasons places [] c.numbers.trail (with_reason z (Some k) c.numbers.trail)) (sym c.negated.ensures)
    (keeps-forced places c.numbers.trail k last.clause other last.stands e))
    c.in_ok-clash-in-Last.ensures.reasons in
    let negated : literals_of c.falsify.new.self.literals (neg_ℤ other) ≡ true =
    subst (λ (l : List ℤ). literals_of l (neg_ℤ other) ≡ true) (sym new) (last-negated (neg_ℤ other) trail) in
    record {
      many = so_far.many;
      within = omega (arith, so_far.within);
      are = so_far.are;
      watched = so_far.watched;
      kept = so_far.kept;
      moves = so_far.moves;
      derives = derives-then so_far.derives derived;
      reasons = keeps-then so_far.reasons reasoned;
      visited = visited-next places c.numbers.pairs.items c.numbers.pairs.items c.args.literal trail c.falsify.new.self.literals
          c.numbers.out
          c.numbers.out i c.numbers.left k more within c.number-number.ensures grown refl (λ n apart w. w)
          (λ clause stands w.
          let both : Some last.clause ≡ Some clause = sym last.stands ∙ stands in
          let same : last.clause ≡ clause = cc in
          true-by c.falsify.new.self.literals clause other (subst (λ (d : List ℤ). literals_of d other ≡ true) same last.held) negated)
          c.args.out.now so_far.visited;
    }

pub returns-then-clash-clause-conflict : goal.returns-then-clash-clause-conflict
returns-then-clash-clause-conflict c = λ is.
    let last = c.in-Last.ensures in
    let other = c.in-Last.other in
    let places = c.args.db.now in
    let trail = c.numbers.trail.literals in
    let is_false : literals_of trail other ≡ true =
    ap (literals_of trail) (sym (neg_ℤ-neg_ℤ other)) ∙ ap (λ z. literals_of trail (neg_ℤ z)) (sym c.negated.ensures)
    ∙ sym c.in_ok-clash-in-Last.ensures.clash ∙ c.if-clash.true in
    let e : effect (literals_of trail) last.clause ≡ Conflict = all-false (literals_of trail) other last.clause last.last is_false in
    none-before c.quiet_law.ensures.none c.quiet_law.ensures.fails (standing places) c.args.trail.now.literals trail
    (derives-same c.propagation_law.ensures.forced c.numbers.invariant.derives)
    (false_clause c.quiet_law.ensures.fails c.propagation_law.ensures.forced c.propagation_law.ensures.conflict trail last.clause e
    (standing places) (among-place places c.number-number.result last.clause last.stands))

clashed-same : (b : Bool) (new old last : List ℤ) → b ≡ true → new ≡ (if b then old else last) → new ≡ old
clashed-same true new old last e is = is
clashed-same false new old last e is = cc

pub returns-then-clash-clause-falsified : goal.returns-then-clash-clause-falsified
returns-then-clash-clause-falsified c =
    let last = c.in-Last.ensures in
    let other = c.in-Last.other in
    let trail = c.numbers.trail.literals in
    let is_false : literals_of trail other ≡ true =
    ap (literals_of trail) (sym (neg_ℤ-neg_ℤ other)) ∙ ap (λ z. literals_of trail (neg_ℤ z)) (sym c.negated.ensures)
    ∙ sym c.in_ok-clash-in-Last.ensures.clash ∙ c.if-clash.true in
    let same : c.falsify.new.self.literals ≡ trail =
    clashed-same c.in_ok-clash-in-Last.clash c.falsify.new.self.literals trail (with_last c.negated.result trail) c.if-clash.true
    c.in_ok-clash-in-Last.ensures.literals in
    subst (λ (l : List ℤ). IsFalsified c.args.db.now l c.number-number.result) (sym same) (record {
      clause = last.clause;
      stands = last.stands;
      falsified = all-known (literals_of trail) other last.clause last.last is_false;
    })

clashed-trail : (b : Bool) (new old last : Trail) → b ≡ true → new ≡ (if b then old else last) → new ≡ old
clashed-trail true new old last e is = is
clashed-trail false new old last e is = cc

-- behind a clash the false literals are as they were
pub returns-then-clash-clause-derives : goal.returns-then-clash-clause-derives
returns-then-clash-clause-derives c =
    derives-is (clashed-same c.in_ok-clash-in-Last.clash c.falsify.new.self.literals c.numbers.trail.literals
    (with_last c.negated.result c.numbers.trail.literals) c.if-clash.true
    c.in_ok-clash-in-Last.ensures.literals) c.numbers.invariant.derives

pub returns-then-clash-clause-reasons : goal.returns-then-clash-clause-reasons
returns-then-clash-clause-reasons c =
    keeps-is (clashed-trail c.in_ok-clash-in-Last.clash c.falsify.new.self c.numbers.trail
    (with_reason c.negated.result (Some c.number-number.result) c.numbers.trail) c.if-clash.true
    c.in_ok-clash-in-Last.ensures.reasons) c.numbers.invariant.reasons

none-left : (places : Places) (pairs : Pairs) (literal : ℤ) (literals : List ℤ) (numbers out : List ℕ) (left : ℕ) → left ≡ 0
    → AreVisited places pairs literal literals numbers (take left out) → AreVisited places pairs literal literals numbers []
none-left places pairs literal literals numbers out left none visited =
    subst (λ (n : ℕ). AreVisited places pairs literal literals numbers (take n out)) none visited

pub returns-clause-visited : goal.returns-clause-visited
returns-clause-visited c = λ is. none-left c.args.db.now c.numbers.pairs.items c.args.literal c.numbers.trail.literals c.args.out.now
    c.numbers.out c.numbers.left
    (omega arith) c.numbers.invariant.visited
