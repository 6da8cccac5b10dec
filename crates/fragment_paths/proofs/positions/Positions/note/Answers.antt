use Rattle.std.proofs.Common.{◌≡◌, Some, slice_get, sym, subst, true}
use Rattle.mm_types.specs.Shapes.{shape}
use Rattle.mm_types.specs.declared.value.Value.TheVariants as value
use Rattle.models.specs.Model.{Model, reading}
use Rattle.fragment_paths.proofs.PlaceLemmas.{one-more-known}
use Rattle.fragment_paths.proofs.positions.Positions.note.Goals as goal

pub invariant_of-self-2 : goal.invariant_of-self-2
invariant_of-self-2 g c =
    let s = c.self.inside.model.now in
    let is = sym c.self.view_is in
    one-more-known s c.self.inside.known.entries c.insert.new.self.entries c.args.end c.args.index c.args.object c.lemma_is_legal.ensures
    (subst (λ (m : Model). (shape m.metamodel c.args.end.feature).is_reference ≡ true) is c.requires.reference)
    (subst (λ (m : Model). slice_get ((reading m).values c.args.end) c.args.index ≡ Some (value.Object c.args.object)) is c.requires.there)
    c.in_ok-insert.ensures.updates.0 c.self.invariant
