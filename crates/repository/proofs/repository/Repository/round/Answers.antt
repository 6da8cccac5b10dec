use Rattle.repository.proofs.repository.Repository.round.Goals as goal

pub round-requires : goal.round-requires
round-requires g c =
    let links = c.self.invariant.legal.model.links in
    record { legal = links.set; no_cycle = links.forest; known = c.self.invariant.hearers }
