-- The removal of a change that destroys an object is the removal of that object.
use Rattle.std.proofs.Common.{◌≡◌, List, map, Option, Some, None, option_map, sym, ap, subst, ◌∙◌}
use Rattle.std.specs.Prelude.{IfSome}
use Rattle.std.specs.Option.{option_map_or}
use Rattle.std.proofs.lemmas.Option.{none-some, same_Some}
use Rattle.mm_types.specs.declared.numbers.ObjectNo.{ObjectNo}
use Rattle.mm_values.specs.declared.value_edit.ValueEdit.TheVariants.{DropObject}
use Rattle.models.specs.Reading.{Reading}
use Rattle.containment.specs.Forest.{subtree}
use Rattle.removal.specs.Removals.{IsRemoval}
use Rattle.removal.specs.declared.gone.Removal.{Removal}
use Rattle.handshake.specs.Effects.{value_edits}
use Rattle.handshake.specs.Changes.{IsRemovalOf}
use Rattle.handshake.specs.FeatureChanges.{destroyed_by}
use Rattle.handshake.specs.declared.change.Change.{Change}
use Rattle.handshake.specs.declared.change.Change.TheVariants.{Delete}

-- a function of the removal is a function of the object that is destroyed
pub of-destroyed : {X : Type 0} (f : ObjectNo → X) (d : X) (q : Option Removal) (o : ObjectNo) → option_map (λ (x : Removal). x.object) q ≡ Some o → option_map_or (λ (x : Removal). f x.object) q d ≡ f o
of-destroyed f d None o is = absurd (none-some o is)
of-destroyed f d (Some x) o is = ap f (same_Some x.object o is)

-- the objects that are destroyed are those of the subtree
pub of-objects : {X : Type 0} (f : List ObjectNo → X) (d : X) (r : Reading) (q : Option Removal) (o : ObjectNo) → option_map (λ (x : Removal). x.object) q ≡ Some o → IfSome q (IsRemoval r)
    → option_map_or (λ (x : Removal). f x.objects.items) q d ≡ f (subtree r o)
of-objects f d r None o is found = absurd (none-some o is)
of-objects f d r (Some x) o is found = ap f (found.objects ∙ ap (subtree r) (same_Some x.object o is))

-- these objects are dropped
pub dropped : (r : Reading) (c : Change) (q : Option Removal) (x : Removal) → q ≡ Some x → IsRemovalOf r c q → map DropObject x.objects.items ≡ value_edits r c
dropped r c q x is of = by c (sym (ap (option_map (λ (y : Removal). y.object)) is) ∙ of.whose) (subst (λ (p : Option Removal). IfSome p (IsRemoval r)) is of.found)
  where
    by : (d : Change) → Some x.object ≡ destroyed_by d → IsRemoval r x → map DropObject x.objects.items ≡ value_edits r d
    by (Delete o) same found = ap (map DropObject) (found.objects ∙ ap (subtree r) (same_Some x.object o same))
    by _ same found = absurd (none-some x.object (sym same))
