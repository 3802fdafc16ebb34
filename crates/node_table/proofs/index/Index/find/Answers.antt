-- What is left to show of `Index::find`.
use Rattle.std.proofs.Common.{◌≡◌, ℕ, length, get_or, ap, sym, subst, rules, ◌∙◌, arith}
use Rattle.node_table.specs.Index.{home_of, place_at}
use Rattle.node_table.proofs.IndexKeys.{none_stored}
use Rattle.node_table.proofs.index.Index.find.Goals as goal

pub returns-then-word-eq0 : goal.returns-then-word-eq0
returns-then-word-eq0 c =
    let places = c.args.self.now.places.items in
    let size : c.len-size.result ≡ length places = search rules in
    let from = c.home_of-home.ensures.value
    ∙ ap (λ (n : ℕ). home_of c.args.self.now.hasher n c.args.level c.args.high.word c.args.low.word) size in
    let place = c.place_at.ensures.value ∙ ap (λ (n : ℕ). place_at n c.home_of-home.result c.loop-step.step) size in
    let free = sym (subst (λ (n : ℕ). n ≡ get_or places c.place_at.result n) c.if-word-eq0.true c.index-word.ensures) in
    none_stored c.args.self.now c.args.nodes.now c.args.level c.args.high c.args.low c.home_of-home.result c.loop-step.step c.requires from
    c.loop-step.invariant
    (λ _. ap (λ (at : ℕ). get_or places at 0) (sym place) ∙ free)

pub returns : goal.returns
returns c =
    let size : c.len-size.result ≡ length c.args.self.now.places.items = search rules in
    let from = c.home_of-home.ensures.value
    ∙ ap (λ (n : ℕ). home_of c.args.self.now.hasher n c.args.level c.args.high.word c.args.low.word) size in
    none_stored c.args.self.now c.args.nodes.now c.args.level c.args.high c.args.low c.home_of-home.result c.loop-step.step c.requires from
    c.loop-step.invariant
    (λ h. absurd (omega (arith, h, size, c.loop-step-test.false)))
