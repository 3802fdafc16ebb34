-- No token ended so far, and what is ahead with the bytes taken is what was ahead at the start.
use Rattle.std.proofs.Common.{◌≡◌, ℕ, ◌+◌, ◌-◌, ◌*◌, ◌≤◌, min, List, ◌++◌, length}
use Rattle.std.specs.Prelude.{IsTrue}
use Rattle.text_scan.specs.declared.scanner.ScanStatus.TheVariants.{Reading}
use Rattle.text_scan.specs.Scan.{ahead, so_far}
use Rattle.text_scan.specs.Decides.{gained, Decides, OnlyReads}
use Rattle.text_scan.proofs.scanner.Scanner.read_on.Given as goal

abbrev pub invariant-turns : goal.invariant-turns
invariant-turns g l = record {
  same : IsTrue g.S.Source.tells → Decides (g.S.Source.channel l.fn.source) (g.S.Source.channel l.source)
      (λ bytes more. ahead l.fn.self bytes ≡ ahead l.self more);
  front : IsTrue g.S.Source.tells → (more : List ℕ) → so_far l.fn.self
      (gained (g.S.Source.channel l.fn.source) (g.S.Source.channel l.source) ++ more) ≡ so_far l.self more;
  status : l.self.status ≡ Reading;
  line : l.self.line ≡ l.fn.self.line;
  room : l.self.room ≤ l.fn.self.room;
  reads : OnlyReads (g.S.Source.channel l.fn.source) (g.S.Source.channel l.source);
  unfailed : (g.S.Source.channel l.source).faults ≡ (g.S.Source.channel l.fn.source).faults;
  beside : g.S.Source.beside l.source ≡ g.S.Source.beside l.fn.source;
}

abbrev pub decreases-turns : goal.decreases-turns
decreases-turns g l = 2 * l.self.room + 1 - min 1 (length l.self.unread)
