use Rattle.std.proofs.Common.{◌≡◌, ◌∙◌, None, Some, ap, sym}
use Rattle.std.specs.Option.{option_copied}
use Rattle.mm_types.specs.Lookups.{feature}
use Rattle.mm_meta.specs.Meta.{metamodel}
use Rattle.mm_meta.proofs.ConformLemmas.{owner_tells}
use Rattle.mm_meta.proofs.OwnerLemmas.{has_none}
use Rattle.mm_meta.proofs.ResolverLemmas.{got}
use Rattle.mm_meta.proofs.meta.Meta.has_feature.Goals as goal

pub returns-in-Some : goal.returns-in-Some
returns-in-Some c =
    let m = metamodel c.self.inside in
    let found : feature m c.args.feature ≡ Some c.in-Some.found.now =
    rw (← c.as_slice-features.ensures) (sym (got _ _ c.get.result c.get.ensures.lookup) ∙ ap option_copied c.in-Some.is) in
    c.conforms.ensures
    ∙ rw (← c.self.view_is) (owner_tells m c.self.invariant.of_document c.args.class c.args.feature c.in-Some.found.now found)

pub returns-in-None : goal.returns-in-None
returns-in-None c =
    let m = metamodel c.self.inside in
    let none : feature m c.args.feature ≡ None =
    rw (← c.as_slice-features.ensures) (sym (got _ _ c.get.result c.get.ensures.lookup) ∙ ap option_copied c.in-None.is) in
    rw (← c.self.view_is) (has_none m c.self.invariant.of_document c.args.class c.args.feature none)
