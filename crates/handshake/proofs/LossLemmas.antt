-- One end after the losses at the ends of links.
use Rattle.std.proofs.Common.{◌≡◌, Bool, true, false, not, List, [], ◌∷◌, flat_map, Option, Some, None, if◌then◌else◌, refl, sym, ap, ◌∙◌}
use Rattle.std.specs.Option.{option_map_or}
use Rattle.mm_types.specs.Ends.{Held}
use Rattle.mm_types.specs.Same.{same_end}
use Rattle.mm_types.specs.Shapes.{Shape, is_containment, shape}
use Rattle.mm_types.specs.declared.end.End.{End}
use Rattle.mm_types.specs.declared.numbers.ObjectNo.{ObjectNo}
use Rattle.mm_types.specs.declared.value.Value.{Value}
use Rattle.mm_types.specs.declared.value.Value.TheVariants as value
use Rattle.models.specs.Reading.{Reading}
use Rattle.handshake.specs.Displaced.{opposite_link_end}
use Rattle.handshake.specs.FeatureChanges.{far_loss, is_replaced, loss, losses, other_losses}
use Rattle.handshake.specs.declared.change_kind.ChangeKind.TheVariants.{Gains, Loses}
use Rattle.removal.specs.declared.link_end.LinkEnd.{LinkEnd}
use Rattle.handshake.proofs.HappenedLemmas.{done, happened_at, happened_at-append, happened_at-filter}

-- the value of a single end after a gain, and after a loss
abbrev pub gained : Shape → Value → Held
gained a v = record { values = v ∷ []; flag = a.is_unsettable }

abbrev pub lost : Shape → Held
lost a = gained a value.Null

abbrev pub IsSingle : Shape → Type 0
IsSingle a = a.is_single ≡ true

pub gained-single : (a : Shape) (v : Value) (h : Held) → IsSingle a → done a (Gains v) h ≡ gained a v
gained-single a v h single = rw single refl

-- if a new link replaces no value, all losses are made
pub happened_at-other_losses : (r : Reading) (e : End) (o : ObjectNo) (ts : List LinkEnd) (d : End) (h : Held) → is_replaced r e o d ≡ false
    → happened_at r.metamodel (flat_map (other_losses r e o) ts) d h ≡ happened_at r.metamodel (flat_map (losses r) ts) d h
happened_at-other_losses r e o [] d h kept = refl
happened_at-other_losses r e o (t ∷ ts) d h kept =
    let m = r.metamodel in
    happened_at-append m (other_losses r e o t) (flat_map (other_losses r e o) ts) d h
    ∙ happened_at-other_losses r e o ts d (happened_at m (other_losses r e o t) d h) kept
    ∙ ap (happened_at m (flat_map (losses r) ts) d) (happened_at-filter m (λ x. not (is_replaced r e o x)) (losses r t) d h (ap not kept))
    ∙ sym (happened_at-append m (losses r t) (flat_map (losses r) ts) d h)

-- at an end other than the near one, the losses of the far end are all losses
pub happened_at-far_loss : (r : Reading) (t : LinkEnd) (d : End) (h : Held) → same_end t.end d ≡ false → happened_at r.metamodel (far_loss r t) d h ≡ happened_at r.metamodel (losses r t) d h
happened_at-far_loss r t d h other = by (opposite_link_end r t)
  where
    far : (a : Shape) (v : Value) (u : LinkEnd) (b : Bool) → b ≡ false → (if same_end u.end d then done a (Loses u.value) h else h) ≡ (let k = if b then done a (Loses v) h else h in if same_end u.end d then done a (Loses u.value) k else k)
    far a v u b other = rw other refl

    far_turned : (a : Shape) (v : Value) (u : LinkEnd) (b : Bool) → b ≡ false → (if same_end u.end d then done a (Loses u.value) h else h) ≡ (let k = if same_end u.end d then done a (Loses u.value) h else h in if b then done a (Loses v) k else k)
    far_turned a v u b other = rw other refl

    by : (o : Option LinkEnd) → happened_at r.metamodel (option_map_or (λ u. loss u ∷ []) o []) d h
        ≡ happened_at r.metamodel (option_map_or (λ u. if is_containment r.metamodel u.end.feature then loss u ∷ loss t ∷ [] else loss t ∷ loss u ∷ []) o (loss t ∷ [])) d h
    by None = rw other refl
    by (Some u) =
        let a = shape r.metamodel d.feature in
        elim (is_containment r.metamodel u.end.feature) as (λ b. happened_at r.metamodel (loss u ∷ []) d h ≡ happened_at r.metamodel (if b then loss u ∷ loss t ∷ [] else loss t ∷ loss u ∷ []) d h) [
          | true ↦ far_turned a t.value u (same_end t.end d) other
          | false ↦ far a t.value u (same_end t.end d) other
        ]
