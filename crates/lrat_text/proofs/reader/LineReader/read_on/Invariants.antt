-- The steps from here on are those from the start on.
use Rattle.std.proofs.Common.{◌≡◌}
use Rattle.text_scan.specs.Decides.{OnlyReads}
use Rattle.text_scan.specs.Scan.{fuel}
use Rattle.lrat_text.proofs.GoesOn.{Stands}
use Rattle.lrat_text.proofs.reader.LineReader.read_on.Given as goal

abbrev pub invariant-tokens : goal.invariant-tokens
invariant-tokens g l = record {
  stands : Stands g.F.LineForm.form g.S.Source.tells (g.S.Source.channel l.fn.source) (g.S.Source.channel l.source) l.fn.self l.self;
  reads : OnlyReads (g.S.Source.channel l.fn.source) (g.S.Source.channel l.source);
  unfailed : (g.S.Source.channel l.source).faults ≡ (g.S.Source.channel l.fn.source).faults;
  beside : g.S.Source.beside l.source ≡ g.S.Source.beside l.fn.source;
}

abbrev pub decreases-tokens : goal.decreases-tokens
decreases-tokens g l = fuel l.self.scan
