-- What is left of a block is no longer than the block, so what is ahead is near.
use Rattle.std.proofs.Common.{◌≡◌, ◌≤◌, length, length-drop, drop, take, arith}
use Rattle.std.proofs.lemmas.List.{length-take-le}
use Rattle.text_scan.specs.Scan.{block_size}
use Rattle.text_scan.proofs.Near.{near_ahead}
use Rattle.text_scan.proofs.scanner.Scanner.near_law.Goals as goal

pub returns : goal.returns
returns c =
    let taken : length (take c.self.inside.end c.self.inside.block) ≡ c.self.inside.end =
    length-take-le c.self.inside.end c.self.inside.block (omega (arith, c.self.invariant.in_block, c.self.invariant.size)) in
    let left : length (drop c.self.inside.at (take c.self.inside.end c.self.inside.block)) ≤ block_size =
    omega (arith, length-drop c.self.inside.at (take c.self.inside.end c.self.inside.block), taken, c.self.invariant.in_block) in
    λ more. near_ahead c.args.self.now more (rw (← c.self.view_is) left)
