-- What is ahead of a reader is near.
use Rattle.std.proofs.Common.{length}
use Rattle.text_scan.specs.Scan.{ahead}
use Rattle.lrat_text.proofs.Wanted.{near_ahead}
use Rattle.lrat_text.proofs.reader.LineReader.near_law.Goals as goal

pub returns : goal.returns
returns g c =
    let form = g.F.LineForm.form in
    λ more. rw (← c.self.view_is)
    (near_ahead form (ahead c.self.inside.scanner more) c.self.inside.draft (length more) (c.near_law.ensures more))
