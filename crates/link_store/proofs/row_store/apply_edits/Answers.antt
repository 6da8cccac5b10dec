use Rattle.std.proofs.Common.{List, ◌∷◌, length, ◌∙◌, sym, ap, subst, arith}
use Rattle.std.specs.Vec.Iter.{into_iter_items}
use Rattle.links.specs.declared.plan.Edit.{Edit}
use Rattle.links.specs.LegalSets.{IsLegalSet}
use Rattle.links.specs.Links.{Links}
use Rattle.links.specs.Plans.{PlanFits, links_after_edits}
use Rattle.links.proofs.LegalLemmas.{edited_legal}
use Rattle.link_store.proofs.RowLemmas.{of_rows}
use Rattle.link_store.proofs.row_store.apply_edits.Goals as goal

pub edit_rows-requires : goal.edit_rows-requires
edit_rows-requires c = record { placed = c.loop-edit.invariant.legal.placed; room = omega (arith, c.loop-edit.invariant.room, ap length c.in-Some.ensures.steps.0) }

pub loop-edit-preserved : goal.loop-edit-preserved
loop-edit-preserved c =
    let rest = into_iter_items c.next.new.self in
    let s = of_rows c.loop-edit.rows.items in
    let steps = c.in-Some.ensures.steps.0 in
    let fits : PlanFits s (c.in-Some.edit ∷ rest) = subst (λ (es : List Edit). PlanFits s es) steps c.loop-edit.invariant.fits in
    let now = c.edit_rows.ensures.edited in
    record {
      can = tt;
      ends = tt;
      legal = subst IsLegalSet (sym now) (edited_legal s c.in-Some.edit c.loop-edit.invariant.legal fits.0);
      fits = subst (λ (t : Links). PlanFits t rest) (sym now) fits.1;
      room = omega (arith, c.edit_rows.ensures.len, c.edit_rows.ensures.capacity, c.loop-edit.invariant.room, ap length steps);
      rest = ap (λ (t : Links). links_after_edits t rest) now ∙ ap (λ es. links_after_edits s es) (sym steps) ∙ c.loop-edit.invariant.rest;
    }
