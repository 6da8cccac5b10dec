use Rattle.std.proofs.Common.{List, [], ◌∷◌, ◌∙◌, sym, ap, subst}
use Rattle.std.specs.Vec.Iter.{into_iter_items}
use Rattle.links.specs.declared.plan.Edit.{Edit}
use Rattle.links.specs.Links.{Links}
use Rattle.links.specs.Plans.{HasPlanOfKind, PlanFits, links_after_edits}
use Rattle.node_slots.specs.Cells.{Room, room}
use Rattle.node_slots.specs.Growth.{HasRoom}
use Rattle.slot_store.specs.CellLinks.{IsStoreOfKind, store_links}
use Rattle.slot_store.proofs.RoomLemmas.{fits_object}
use Rattle.slot_store.proofs.StoreLemmas.{kept_once}
use Rattle.slot_store.proofs.ApplyLemmas.{edit_fits, edit_kept, edit_kind, edit_rest, kinds_same, room_first, room_rest}
use Rattle.slot_store.proofs.slot_store.apply_edits.Goals as goal

pub edit_rows-requires-clause-distinct : goal.edit_rows-requires-clause-distinct
edit_rows-requires-clause-distinct c = kept_once c.make_guess-guess.new.rows c.make_guess-guess.ensures.kept

pub edit_rows-requires-clause-object : goal.edit_rows-requires-clause-object
edit_rows-requires-clause-object c =
    let rest = into_iter_items c.next.new.self in
    let s = store_links c.loop-edit.rows in
    let first : PlanFits s (c.in-Some.edit ∷ rest) = subst (λ (es : List Edit). PlanFits s es) c.in-Some.ensures.steps.0 c.loop-edit.invariant.fits in
    fits_object s c.in-Some.edit first.0

pub edit_rows-requires-clause-room : goal.edit_rows-requires-clause-room
edit_rows-requires-clause-room c =
    let x = c.in-Some.edit in
    let rest = into_iter_items c.next.new.self in
    let t = c.loop-edit.rows in
    let has : HasRoom (room t) (x ∷ rest) = subst (λ (es : List Edit). HasRoom (room t) es) c.in-Some.ensures.steps.0 c.loop-edit.invariant.room in
    subst (λ (r : Room). HasRoom r (x ∷ [])) (sym c.make_guess-guess.ensures.room) (room_first (room t) x rest has)

pub loop-edit-preserved : goal.loop-edit-preserved
loop-edit-preserved c =
    let v = c.loop-edit.invariant in
    let s = c.loop-edit.rows in
    let t = c.make_guess-guess.new.rows in
    let u = c.edit_rows.new.rows in
    let x = c.in-Some.edit in
    let rest = into_iter_items c.next.new.self in
    let steps = c.in-Some.ensures.steps.0 in
    let now = c.edit_rows.ensures.cells in
    let same = c.make_guess-guess.ensures.links in
    let kept = c.make_guess-guess.ensures.kept in
    let first : PlanFits (store_links s) (x ∷ rest) = subst (λ (es : List Edit). PlanFits (store_links s) es) steps v.fits in
    let fits : PlanFits (store_links t) (x ∷ rest) = subst (λ (ls : Links). PlanFits ls (x ∷ rest)) (sym same) first in
    let of : HasPlanOfKind (IsStoreOfKind s) (x ∷ rest) = subst (λ (es : List Edit). HasPlanOfKind (IsStoreOfKind s) es) steps v.kind in
    let kind : HasPlanOfKind (IsStoreOfKind t) (x ∷ rest) = (of.0, kinds_same s t same of.0 of.1, of.2) in
    let room_s : HasRoom (room s) (x ∷ rest) = subst (λ (es : List Edit). HasRoom (room s) es) steps v.room in
    let has : HasRoom (room t) (x ∷ rest) = subst (λ (r : Room). HasRoom r (x ∷ rest)) (sym c.make_guess-guess.ensures.room) room_s in
    record {
      can = tt;
      ends = tt;
      kept = edit_kept t u kept x rest fits kind now;
      fits = edit_fits t u kept x rest fits kind now;
      kind = edit_kind t u kept x rest fits kind now;
      room = room_rest (room t) (room u) x rest has c.edit_rows.ensures.room;
      rest = edit_rest t u kept x rest fits kind now ∙ ap (λ (ls : Links). links_after_edits ls (x ∷ rest)) same ∙ ap (λ (es : List Edit). links_after_edits (store_links s) es) (sym steps) ∙ v.rest;
    }
