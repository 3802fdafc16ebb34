-- What is left to show of `Kept::remove`.
use Rattle.std.proofs.Common.{◌≡◌, ◌-◌, ◌<◌, ◌≤◌, None, map, set, length, ◌∙◌, ap, arith}
use Rattle.std.proofs.lemmas.List.{map-set, length-map}
use Rattle.clause_ledger.specs.declared.kept.Span.TheVariants.{Free}
use Rattle.clause_ledger.specs.Kept.{KeptClauses}
use Rattle.clause_ledger.specs.Spans.{clause_of}
use Rattle.clause_ledger.proofs.Places.{are_kept-set, are_kept-same}
use Rattle.clause_ledger.proofs.kept.Kept.remove.Goals as goal
use Rattle.clause_ledger.proofs.kept.Kept.remove.Goals.{else-number-gt0-via-then-number-gt0+else-number-len}
use Rattle.clause_ledger.proofs.kept.Kept.remove.Goals.{else-number-gt0-via-else-number-gt0}

pub returns-then-number-len-clause-kept : goal.returns-then-number-len-clause-kept
returns-then-number-len-clause-kept c state are =
    let literals = c.self.inside.literals.items in
    let spans = c.self.inside.spans.items in
    let seen = ap (λ (k : KeptClauses). k.places) c.self.view_is in
    let size : length (map (clause_of literals) spans) ≡ length c.args.self.now.places = ap length seen in
    let count : length (map (clause_of literals) spans) ≡ length spans = length-map spans (clause_of literals) in
    let above : 0 < c.args.id = omega (arith, c.if-number-gt0.true, c.get-number.ensures) in
    let within : c.args.id ≤ length c.args.self.now.places =
    omega (arith, c.if-number-len.true, c.len.ensures, c.get-number.ensures, c.self.inside.spans.ok.0, size, count) in
    are_kept-set state c.args.self.now c.args.id are above within
    (map-set (clause_of literals) spans (c.get-number.result - 1) Free ∙ (λ i. set (seen i) (c.get-number.ensures i - 1) None))

pub returns-else-number-gt0-clause-kept : goal.returns-else-number-gt0-clause-kept
returns-else-number-gt0-clause-kept c state are =
    let literals = c.self.inside.literals.items in
    let spans = c.self.inside.spans.items in
    let size : length (map (clause_of literals) spans) ≡ length c.args.self.now.places = ap (λ (k : KeptClauses). length k.places)
    c.self.view_is in
    let count : length (map (clause_of literals) spans) ≡ length spans = length-map spans (clause_of literals) in
    let above : 0 < c.args.id → length c.args.self.now.places < c.args.id =
    elim c.else-number-gt0.branch [
      | else-number-gt0-via-then-number-gt0+else-number-len w ↦ λ more.
          omega (arith, w.if-number-len.false, w.len.ensures, c.get-number.ensures, c.self.inside.spans.ok.0, size, count)
      | else-number-gt0-via-else-number-gt0 w ↦ λ more. omega (arith, w.if-number-gt0.false, c.get-number.ensures, more)
    ] in
    are_kept-same state c.args.self.now c.args.id are above
