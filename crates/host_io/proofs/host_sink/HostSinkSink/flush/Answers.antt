-- What is left to show of `HostSinkSink::flush`.
use Rattle.host_io.proofs.Kept.{rest_kept}
use Rattle.host_io.proofs.host_sink.HostSinkSink.flush.Goals as goal

pub returns-clause-beside : goal.returns-clause-beside
returns-clause-beside g c =
    let name = c.flush.ensures.flushes.name in
    rest_kept _ _ _ _ _ _ _ _ c.flush.ensures.kept name name
