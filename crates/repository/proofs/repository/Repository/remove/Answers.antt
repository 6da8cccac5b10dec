use Rattle.repository.proofs.repository.Repository.remove.Goals as goal

pub returns : goal.returns
returns g c = c.change.ensures
