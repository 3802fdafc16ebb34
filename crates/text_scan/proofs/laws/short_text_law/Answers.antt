-- Its length is under the limit, and each of its tokens is kept whole.
use Rattle.std.proofs.Common.{◌≡◌, true, length, arith, refl}
use Rattle.std.specs.Prelude.{nat_le}
use Rattle.cnf_base.specs.Text.{tokens}
use Rattle.text_scan.proofs.Kept.{map-kept}
use Rattle.text_scan.proofs.laws.short_text_law.Goals as goal

pub returns : goal.returns
returns c = λ comment limit bytes fits short.
    let e : nat_le (length bytes) limit ≡ true = grind arith in
    rw (e, map-kept (tokens comment bytes) short) refl
