use Rattle.repository.proofs.repository.Repository.has_steady_texts.Goals as goal

pub returns : goal.returns
returns g c = rw (← c.self.view_is) c.self.invariant.steady
