-- From the conflict's clause back to the first literal.
use Rattle.std.proofs.Common.{◌≡◌, ◌+◌, ◌-◌, ℕ, List, [], ◌∷◌, ◌++◌, take, ap, ◌∙◌, subst, arith}
use Rattle.lrat_rules.specs.Chain.{literals_of}
use Rattle.drat_checker.specs.Hints.{RefuteSoFar}
use Rattle.drat_checker.proofs.Hinted.{own-marked, refute-end, refute-start}
use Rattle.drat_checker.proofs.hints.explain_all.Goals as goal

pub places-init : goal.places-init
places-init c = record {
  within = omega arith;
  so_far = refute-start c.args.db.now c.args.trail.now c.args.given.now c.args.first
      (literals_of (take c.args.first.count c.args.trail.now.literals)) (literals_of c.note.new.needed) c.note.new.found (λ x m. m)
      c.in_ok-note.ensures.marked
      (own-marked c.args.db.now c.args.first.number c.clear.new.self c.note.new.needed c.clear.ensures c.in_ok-note.ensures.own)
      c.note.ensures.id
      (c.in_ok-note.ensures.found ∙ ap (λ (l : List ℕ). l ++ (c.args.first.number + 1) ∷ []) c.clear-2.ensures);
}

pub take_back-requires : goal.take_back-requires
take_back-requires c = record { within = omega (arith, c.places.invariant.within, c.requires.within) }

pub places-preserved : goal.places-preserved
places-preserved c =
    let so_far = c.places.invariant in
    let i = c.places.place - 1 in
    let more : c.places.place ≡ i + 1 = omega arith in
    record {
      within = omega (arith, so_far.within);
      so_far = c.in_ok-take_back.ensures c.args.first (omega (arith, so_far.within))
          (subst (λ (n : ℕ). RefuteSoFar c.args.db.now c.args.trail.now c.args.given.now c.args.first
          (literals_of (take n c.args.trail.now.literals)) (literals_of c.places.needed) c.places.found) more so_far.so_far);
    }

pub returns : goal.returns
returns c =
    let none : c.places.place ≡ 0 = omega arith in
    refute-end c.args.db.now c.args.trail.now c.args.given.now c.args.first (literals_of (take 0 c.args.trail.now.literals))
    (literals_of c.places.needed) c.places.found (λ x left need. cc)
    (subst (λ (n : ℕ). RefuteSoFar c.args.db.now c.args.trail.now c.args.given.now c.args.first
    (literals_of (take n c.args.trail.now.literals)) (literals_of c.places.needed) c.places.found) none c.places.invariant.so_far)
