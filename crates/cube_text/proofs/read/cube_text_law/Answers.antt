-- What is left to show of `cube_text_law`.
use Rattle.std.proofs.Common.{refl}
use Rattle.text_scan.specs.Items.{items}
use Rattle.cube_text.specs.CubeText.{max_bytes, no_cubes}
use Rattle.cube_text.proofs.Consistent.{text_is_cubes}
use Rattle.cube_text.proofs.read.cube_text_law.Goals as goal

pub returns : goal.returns
returns c vars bytes all h = text_is_cubes (items 35 max_bytes bytes) vars (no_cubes vars) all refl
    (record { literals = refl; begun = refl; consistent = refl; begun_consistent = refl }) h
