-- All tokens so far are good, so what the body is from here on is what it was from its start on.
use Rattle.std.proofs.Common.{◌≡◌, ℕ, List, ◌++◌, true, false}
use Rattle.std.specs.Prelude.{IsTrue}
use Rattle.text_scan.specs.Decides.{gained, Decides, OnlyReads}
use Rattle.text_scan.specs.Scan.{ahead, so_far, is_reading, is_faulted, fuel}
use Rattle.dimacs_reader.specs.Body.{Passes}
use Rattle.dimacs_reader.specs.Cnf.{body}
use Rattle.dimacs_reader.proofs.body.read_body.Given as goal

abbrev pub invariant-tokens : goal.invariant-tokens
invariant-tokens g l = record {
  passed : IsTrue g.S.Source.tells → Decides (g.S.Source.channel l.fn.source) (g.S.Source.channel l.source)
      (λ bytes more. Passes l.fn.body.mode l.fn.body.count (ahead l.fn.scanner bytes) l.fn.body.draft (ahead l.scanner more) l.body.draft);
  front : IsTrue g.S.Source.tells → is_reading l.scanner.status ≡ true → (is_reading l.fn.scanner.status ≡ true)
      × ((more : List ℕ) → body l.fn.body.mode (so_far l.fn.scanner (gained (g.S.Source.channel l.fn.source) (g.S.Source.channel l.source)
      ++ more)) l.fn.body.count l.fn.body.draft ≡ body l.fn.body.mode (so_far l.scanner more) l.fn.body.count l.body.draft);
  count : l.body.count ≡ l.fn.body.count;
  mode : l.body.mode ≡ l.fn.body.mode;
  sound : is_faulted l.scanner.status ≡ false;
  reads : OnlyReads (g.S.Source.channel l.fn.source) (g.S.Source.channel l.source);
  unfailed : (g.S.Source.channel l.source).faults ≡ (g.S.Source.channel l.fn.source).faults;
  beside : g.S.Source.beside l.source ≡ g.S.Source.beside l.fn.source;
}

abbrev pub decreases-tokens : goal.decreases-tokens
decreases-tokens g l = fuel l.scanner
