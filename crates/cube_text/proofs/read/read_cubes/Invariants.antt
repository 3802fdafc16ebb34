-- No token so far offends, so what the text is from here on is what it was from its start on.
use Rattle.std.proofs.Common.{◌≡◌, ℕ, List, ◌++◌, true, false}
use Rattle.std.specs.Prelude.{IsTrue}
use Rattle.text_scan.specs.Decides.{gained, Decides, OnlyReads}
use Rattle.text_scan.specs.Items.{items, items_of_front}
use Rattle.text_scan.specs.Scan.{ahead, so_far, is_reading, is_faulted, fuel}
use Rattle.cube_text.specs.CubeReader.{Passes}
use Rattle.cube_text.specs.CubeText.{max_bytes, no_cubes, cubes_of}
use Rattle.cube_text.proofs.read.read_cubes.Given as goal

abbrev pub invariant-tokens : goal.invariant-tokens
invariant-tokens g l = record {
  passed : IsTrue g.S.Source.tells → Decides (g.S.Source.channel l.fn.source) (g.S.Source.channel l.source)
      (λ bytes more. Passes l.fn.vars (items 35 max_bytes bytes) (ahead l.scanner more) l.front);
  so_far : IsTrue g.S.Source.tells → is_reading l.scanner.status ≡ true
      → (more : List ℕ) → cubes_of (items_of_front 35 (gained (g.S.Source.channel l.fn.source) (g.S.Source.channel l.source)
      ++ more)) (no_cubes l.fn.vars) ≡ cubes_of (so_far l.scanner more) l.front;
  vars : l.front.vars ≡ l.fn.vars;
  sound : is_faulted l.scanner.status ≡ false;
  reads : OnlyReads (g.S.Source.channel l.fn.source) (g.S.Source.channel l.source);
  unfailed : (g.S.Source.channel l.source).faults ≡ (g.S.Source.channel l.fn.source).faults;
  beside : g.S.Source.beside l.source ≡ g.S.Source.beside l.fn.source;
}

abbrev pub decreases-tokens : goal.decreases-tokens
decreases-tokens g l = fuel l.scanner
