use Rattle.std.proofs.Common.{◌≡◌, ◌∙◌, Some, ap, subst, sym}
use Rattle.fragment_paths.specs.Fragments.{fragment}
use Rattle.repository.specs.Repository.{state}
use Rattle.repository.specs.State.{State, reads}
use Rattle.repository.proofs.RememberedLemmas.{kept-more}
use Rattle.repository.proofs.repository.Repository.remembered_fragment.Goals as goal

-- the remembered text is the fragment that was found
pub invariant_of-self : goal.invariant_of-self
invariant_of-self g c =
    let s : State = state g.L.LinkStore.links c.self.inside in
    let found = subst (λ (t : State). fragment (reads t) c.args.object ≡ Some c.in_ok-fragment.fragment) (sym c.self.view_is) c.in_ok-fragment.ensures.found ∙ ap Some (sym c.as_str.ensures) in
    record {
      legal = c.self.invariant.legal;
      steady = c.self.invariant.steady;
      kinds_are = c.self.invariant.kinds_are;
      paths = kept-more (reads s) c.self.inside.paths c.keep.new.self c.args.object c.as_str.result.now c.keep.ensures found c.self.invariant.paths;
      hearers = c.self.invariant.hearers;
    }
