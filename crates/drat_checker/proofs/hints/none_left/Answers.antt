-- One literal more, and the end.
use Rattle.std.proofs.Common.{◌≡◌, Bool, true, false, not, ◌||◌, ◌&&◌, ℤ, List, refl, sym, ap, ◌∙◌}
use Rattle.std.proofs.lemmas.List.{take_all}
use Rattle.lrat_rules.specs.Chain.{literals_of}
use Rattle.drat_checker.proofs.Hinted.{each-literal}
use Rattle.drat_checker.proofs.hints.none_left.Goals as goal

either-of : (there taken given : Bool) → (there && not taken && not given) ≡ false → there ≡ true → (taken || given) ≡ true
either-of true true given e m = refl
either-of true false true e m = refl
either-of true false false e m = cc
either-of false taken given e m = cc

pub loop-literal-preserved : goal.loop-literal-preserved
loop-literal-preserved c =
    let x = c.literal-item.result in
    each-literal (λ (y : ℤ). literals_of c.args.trail.now.literals y ≡ true
    → (literals_of c.args.taken.now y || literals_of c.args.given.now y) ≡ true) c.args.needed.now
    c.loop-literal.literal-index x c.loop-literal-test.true c.literal-item.is c.loop-literal.invariant
    (either-of (literals_of c.args.trail.now.literals x) (literals_of c.args.taken.now x) (literals_of c.args.given.now x)
    (sym c.is_left-left.ensures ∙ c.if-left.false))

pub returns : goal.returns
returns c = λ is x m.
    c.loop-literal.invariant x
    (ap (λ (l : List ℤ). literals_of l x) (take_all c.loop-literal.literal-index c.args.needed.now c.loop-literal-test.false) ∙ m)
