-- What is left to show of `put`.
use Rattle.std.proofs.Common.{◌∙◌, rules}
use Rattle.host_io.specs.Channel.{Puts}
use Rattle.host_io.proofs.Written.{carried, puts_whole}
use Rattle.host_io.proofs.client.put.Goals as goal

pub returns-in_err-write_all-clause-kept : goal.returns-in_err-write_all-clause-kept
returns-in_err-write_all-clause-kept g c =
    let made = c.new-sink.ensures in
    (c.beside_kept.ensures.sink made.same_reference made.same_value made.role c.write_all.ensures.beside (search rules)).kept

pub returns-clause-kept : goal.returns-clause-kept
returns-clause-kept g c =
    let made = c.new-sink.ensures in
    let same = c.flush.ensures.beside ∙ c.write_all.ensures.beside in
    (c.beside_kept.ensures.sink made.same_reference made.same_value made.role same (search rules)).kept

pub returns-clause-puts : goal.returns-clause-puts
returns-clause-puts g c =
    let made = c.new-sink.ensures in
    let same = c.flush.ensures.beside ∙ c.write_all.ensures.beside in
    carried (λ old new. Puts g.H.Host.tells old new c.args.bytes.now c.flush.result) _ _ _ _ (
    puts_whole _ _ _ _ _ _ _ c.in_ok-write_all.ensures.writes c.flush.ensures.flushes
    ) (cc) (c.beside_kept.ensures.sink made.same_reference made.same_value made.role same (search rules)).same
