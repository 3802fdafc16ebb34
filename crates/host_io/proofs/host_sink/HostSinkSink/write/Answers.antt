-- What is left to show of `HostSinkSink::write`.
use Rattle.host_io.proofs.Kept.{rest_kept}
use Rattle.host_io.proofs.host_sink.HostSinkSink.write.Goals as goal

pub returns-clause-beside : goal.returns-clause-beside
returns-clause-beside g c =
    let name = c.write.ensures.writes.name in
    rest_kept _ _ _ _ _ _ _ _ c.write.ensures.kept name name
