use Rattle.repository.proofs.repository.Repository.is_heard.Goals as goal

pub is_heard-requires : goal.is_heard-requires
is_heard-requires g c = record { legal = c.self.invariant.legal.model.links.set; no_cycle = c.self.invariant.legal.model.links.forest; known = c.self.invariant.hearers }

pub returns : goal.returns
returns g c = rw (← c.self.view_is) c.is_heard.ensures
