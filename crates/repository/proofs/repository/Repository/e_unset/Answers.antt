use Rattle.repository.proofs.repository.Repository.e_unset.Goals as goal

pub returns : goal.returns
returns g c = c.change.ensures
