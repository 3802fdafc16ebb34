-- What is left to show of `beside_kept`.
use Rattle.host_io.proofs.Kept.{keeps_beside}
use Rattle.host_io.proofs.law.beside_kept.Goals as goal

pub returns : goal.returns
returns g c = keeps_beside g.H.Host.channel g.H.Host.files
