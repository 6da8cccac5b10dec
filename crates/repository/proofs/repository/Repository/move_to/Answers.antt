use Rattle.repository.proofs.repository.Repository.move_to.Goals as goal

pub returns : goal.returns
returns g c = c.change.ensures
