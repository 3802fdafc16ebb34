-- What is left to show of `store`.
use Rattle.std.proofs.Common.{ℕ, List, subst, sym}
use Rattle.reconstruction.specs.declared.cells.Cell.{Cell}
use Rattle.reconstruction.specs.Copies.{AreCopies, KeepsCopies}
use Rattle.reconstruction.specs.Stack.{SayTheSame}
use Rattle.reconstruction.proofs.TakenOver.{stores}
use Rattle.reconstruction.proofs.Wanted.{on_ok}
use Rattle.reconstruction.proofs.stack.Reconstruction.store.Goals as goal

pub returns-clause-stores : goal.returns-clause-stores
returns-clause-stores g c = on_ok c.take_over.result
    (stores c.args.table.now.graph c.args.self.now c.copy_recent.new.self c.take_over.new.self c.copy_recent.ensures.copied
    c.in_ok-copy_recent.ensures.all) c.take_over.ensures.ok

pub returns-clause-same : goal.returns-clause-same
returns-clause-same g c = subst (λ (cells : List Cell). SayTheSame c.args.self.now.cells cells c.args.self.now.stored)
    (sym c.take_over.ensures.same.0) c.copy_recent.ensures.copied.says

pub returns-clause-copies : goal.returns-clause-copies
returns-clause-copies g c =
    subst (λ (cells : List Cell). AreCopies c.args.table.now.graph cells c.take_over.new.self.copies) (sym c.take_over.ensures.same.0)
    (subst (λ (copies : List ℕ). AreCopies c.args.table.now.graph c.copy_recent.new.self.cells copies) (sym c.take_over.ensures.same.1)
    c.copy_recent.ensures.copied.copied.are)

pub returns-clause-kept : goal.returns-clause-kept
returns-clause-kept g c = subst (λ (copies : List ℕ). KeepsCopies c.args.self.now.copies copies) (sym c.take_over.ensures.same.1)
    c.copy_recent.ensures.copied.kept
