use Rattle.repository.proofs.repository.Repository.resolve_all.Goals as goal

pub returns : goal.returns
returns g c = c.change.ensures
