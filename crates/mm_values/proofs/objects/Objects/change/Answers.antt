use Rattle.std.proofs.Common.{◌≡◌, ◌<◌, ◌∙◌, ap, sym, length, is_some, true, arith}
use Rattle.mm_values.specs.ListEdits.{list_after_edit, list_edit_capacity, IsReadyFor}
use Rattle.mm_values.specs.Values.{change_list}
use Rattle.mm_values.proofs.SlotLemmas.{live_has, objects_changed, objects_dead, kept_taken, none_read}
use Rattle.mm_values.proofs.objects.Objects.change.Goals as goal
use Rattle.mm_values.proofs.objects.Objects.change.Goals.{else-index-self-via-then-index-self+else-is_some, else-index-self-via-else-index-self}

pub change-requires : goal.change-requires
change-requires c =
    let s = c.self.inside in
    let within : c.args.object.0 < length s.lists.items = omega (arith, c.self.invariant.in_range) in
    let live : is_some c.index.result.now ≡ true = sym c.is_some.ensures ∙ c.if-is_some.true in
    live_has s.classes.items s.lists.items s.next c.args.object.0 (λ l. IsReadyFor l c.args.feature.0 c.args.edit) c.index.result.now c.index_mut.result.now c.self.invariant.same_length within c.index.ensures live c.index_mut.ensures.value (rw (← c.self.view_is) at c.requires)

pub returns-then-is_some-clause-objects : goal.returns-then-is_some-clause-objects
returns-then-is_some-clause-objects c =
    let s = c.self.inside in
    let within : c.args.object.0 < length s.lists.items = omega (arith, c.self.invariant.in_range) in
    rw (← c.self.view_is) (objects_changed s.classes.items s.lists.items s.next c.args.object.0 c.index_mut.result.now _ (change_list c.args.feature (list_after_edit c.args.edit)) c.self.invariant.same_length c.if-index-self.true within c.index_mut.ensures.value (λ class. ap (λ m. record { class = class; stored = m }) c.change.ensures.stored))

pub returns-then-is_some-clause-kept : goal.returns-then-is_some-clause-kept
returns-then-is_some-clause-kept c =
    let s = c.self.inside in
    let within : c.args.object.0 < length s.lists.items = omega (arith, c.self.invariant.in_range) in
    rw (← c.self.view_is) (kept_taken s.classes.items s.lists.items s.next c.args.object c.args.feature (list_edit_capacity c.args.edit) c.index_mut.result.now _ within c.index_mut.ensures.value c.change.ensures.kept)

-- no object is live there
pub returns-else-index-self-clause-objects : goal.returns-else-index-self-clause-objects
returns-else-index-self-clause-objects c =
    let s = c.self.inside in
    rw (← c.self.view_is) (objects_dead s.classes.items s.lists.items s.next c.args.object.0 (change_list c.args.feature (list_after_edit c.args.edit)) c.self.invariant.same_length c.self.invariant.in_range (λ made. elim c.else-index-self.branch [
      | else-index-self-via-then-index-self+else-is_some w ↦ none_read s.classes.items c.args.object.0 w.index.result.now (omega (arith, c.self.invariant.same_length, c.self.invariant.in_range)) w.index.ensures (sym w.is_some.ensures ∙ w.if-is_some.false)
      | else-index-self-via-else-index-self w ↦ absurd (omega (arith, w.if-index-self.false))
    ]))
