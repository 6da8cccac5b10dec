use Rattle.std.proofs.Common.{subst, sym, List}
use Rattle.notice_chain.specs.Listed.{Listed}
use Rattle.repository.specs.Repository.{state}
use Rattle.repository.specs.State.{IsLegal, State}
use Rattle.repository.proofs.LegalAdapterLemmas.{let_go-legal}
use Rattle.repository.proofs.repository.Repository.release.Goals as goal

pub invariant_of-self : goal.invariant_of-self
invariant_of-self g c =
    let s : State = state g.L.LinkStore.links c.self.inside in
    record {
      legal = subst (λ (rs : List Listed). IsLegal (record { model = s.model; adapters = rs })) (sym c.release-told.ensures.others) (let_go-legal s c.in-Ok.release c.self.invariant.legal);
      steady = c.self.invariant.steady;
      kinds_are = c.self.invariant.kinds_are;
      paths = c.self.invariant.paths;
      hearers = rw c.forget.ensures tt;
    }
