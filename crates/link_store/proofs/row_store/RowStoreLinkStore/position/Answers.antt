use Rattle.std.proofs.Common.{◌≡◌, ◌∙◌, sym, ap, subst, List, ℕ, Option, Some, MatchOption}
use Rattle.links.specs.declared.link.Link.{Link}
use Rattle.std.specs.List.{slice_get}
use Rattle.mm_types.specs.declared.value.Value.TheVariants as value
use Rattle.links.specs.Links.{end}
use Rattle.links.specs.Plans.{Lacks}
use Rattle.link_store.specs.Rows.{position_in}
use Rattle.link_store.proofs.RowLemmas.{of_rows}
use Rattle.link_store.proofs.ReadLemmas.{rows_position}
use Rattle.link_store.proofs.row_store.RowStoreLinkStore.position.Goals as goal

pub returns : goal.returns
returns c =
    let rows = c.args.self.now.rows.items in
    let v = value.Object c.args.object in
    let same = c.position_of.ensures ∙ ap (λ (ls : List Link). position_in ls c.args.end v) c.deref.ensures.value in
    subst (λ (o : Option ℕ). MatchOption o (Lacks (of_rows rows) c.args.end v) (λ k. slice_get (end (of_rows rows) c.args.end) k ≡ Some v)) (sym same) (rows_position rows c.requires.legal.placed c.args.end v)
