use Rattle.std.proofs.Common.{[], ◌∷◌, ◌∙◌, sym, ap, subst}
use Rattle.links.specs.Links.{Links}
use Rattle.links.specs.Plans.{HasPlanOfKind, PlanFits, links_after_edits}
use Rattle.node_slots.specs.Cells.{Room}
use Rattle.node_slots.specs.Growth.{HasRoom}
use Rattle.slot_store.specs.CellLinks.{IsStoreOfKind, store_links}
use Rattle.slot_store.proofs.RoomLemmas.{fits_object}
use Rattle.slot_store.proofs.StoreLemmas.{kept_once}
use Rattle.slot_store.proofs.ApplyLemmas.{edit_kept, edit_rest, kinds_same}
use Rattle.slot_store.proofs.slot_store.apply_edit.Goals as goal

pub edit_rows-requires-clause-distinct : goal.edit_rows-requires-clause-distinct
edit_rows-requires-clause-distinct c = kept_once c.make_guess-guess.new.rows c.make_guess-guess.ensures.kept

pub edit_rows-requires-clause-object : goal.edit_rows-requires-clause-object
edit_rows-requires-clause-object c = fits_object (store_links c.args.rows.now) c.args.edit c.requires.fits.0

pub edit_rows-requires-clause-room : goal.edit_rows-requires-clause-room
edit_rows-requires-clause-room c = subst (λ (r : Room). HasRoom r (c.args.edit ∷ [])) (sym c.make_guess-guess.ensures.room) c.requires.reserved

pub returns : goal.returns
returns c =
    let s = c.args.rows.now in
    let t = c.make_guess-guess.new.rows in
    let u = c.edit_rows.new.rows in
    let x = c.args.edit in
    let now = c.edit_rows.ensures.cells in
    let same = c.make_guess-guess.ensures.links in
    let kept = c.make_guess-guess.ensures.kept in
    let fits : PlanFits (store_links t) (x ∷ []) = subst (λ (ls : Links). PlanFits ls (x ∷ [])) (sym same) c.requires.fits in
    let of : HasPlanOfKind (IsStoreOfKind s) (x ∷ []) = c.requires.of_kind in
    let kind : HasPlanOfKind (IsStoreOfKind t) (x ∷ []) = (of.0, kinds_same s t same of.0 of.1, of.2) in
    record {
      kept = edit_kept t u kept x [] fits kind now;
      links = edit_rest t u kept x [] fits kind now ∙ ap (λ (ls : Links). links_after_edits ls (x ∷ [])) same;
    }
