use Rattle.std.proofs.Common.{[]}
use Rattle.repository.proofs.repository.Repository.displace.Goals as goal

pub returns : goal.returns
returns g c = λ a. c.carry_out.ensures [] tt
