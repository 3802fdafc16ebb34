-- What the loops of `take_live` keep.
use Rattle.std.proofs.Common.{◌≡◌, ◌++◌, drop}
use Rattle.lrat_rules.specs.State.{without_clauses}
use Rattle.proof_trim.specs.Trimmed.{live_ids}
use Rattle.proof_trim.proofs.cutting.take_live.Given as goal

-- with the rest it is what the whole gives
abbrev pub invariant-loop-id : goal.invariant-loop-id
invariant-loop-id l = record {
  live : l.list ++ live_ids l.judge.live (drop l.id-index l.ids) ≡ live_ids l.fn.judge.live l.ids;
  left : without_clauses l.judge.live (drop l.id-index l.ids) ≡ without_clauses l.fn.judge.live l.ids;
  top : l.judge.top ≡ l.fn.judge.top;
}
