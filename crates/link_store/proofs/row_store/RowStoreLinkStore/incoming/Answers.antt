use Rattle.std.proofs.Common.{◌≡◌, ◌∙◌, sym, ap, map, subst, List}
use Rattle.std.proofs.lemmas.Result.{IfOk-weaker}
use Rattle.mm_types.specs.declared.end.End.{End}
use Rattle.mm_types.specs.declared.numbers.Node.TheVariants as node
use Rattle.mm_types.specs.declared.value.Value.TheVariants as value
use Rattle.links.specs.declared.incoming.Incoming.{Incoming}
use Rattle.links.specs.declared.link.Link.{Link}
use Rattle.links.specs.Plans.{AreInOrder, AreEntriesOf, has_end, incoming_end}
use Rattle.link_store.specs.Rows.{ends_with, places_in}
use Rattle.link_store.proofs.PlacesLemmas.{rows_places_all}
use Rattle.link_store.proofs.RowLemmas.{of_rows}
use Rattle.link_store.proofs.row_store.RowStoreLinkStore.incoming.Goals as goal

pub returns-clause-entries : goal.returns-clause-entries
returns-clause-entries c =
    let rows = c.args.self.now.rows.items in
    let v = value.Object c.args.object in
    let es = c.put_in_order.new.ends.items in
    let found = c.in_ok-ends.ensures ∙ ap (λ (ls : List Link). ends_with ls (node.Object c.args.object)) c.deref.ensures.value in
    let same = λ (e : End). c.put_in_order.ensures.same e ∙ ap (λ (ds : List End). has_end ds e) found in
    IfOk-weaker c.places_of.result (λ r. r.items ≡ places_in c.deref-2.result.now c.deref-3.result.now v) (λ r. AreEntriesOf (of_rows rows) c.args.object r.items)
    (λ r is. subst (λ (ps : List Incoming). AreEntriesOf (of_rows rows) c.args.object ps) (sym (is ∙ (λ i. places_in (c.deref-2.ensures.value i) (c.deref-3.ensures.value i) v))) (rows_places_all rows c.requires.legal.placed c.args.object es c.put_in_order.ensures.order same).0)
    c.places_of.ensures

pub returns-clause-order : goal.returns-clause-order
returns-clause-order c =
    let rows = c.args.self.now.rows.items in
    let v = value.Object c.args.object in
    let es = c.put_in_order.new.ends.items in
    let found = c.in_ok-ends.ensures ∙ ap (λ (ls : List Link). ends_with ls (node.Object c.args.object)) c.deref.ensures.value in
    let same = λ (e : End). c.put_in_order.ensures.same e ∙ ap (λ (ds : List End). has_end ds e) found in
    IfOk-weaker c.places_of.result (λ r. r.items ≡ places_in c.deref-2.result.now c.deref-3.result.now v) (λ r. AreInOrder (map incoming_end r.items))
    (λ r is. subst (λ (ps : List Incoming). AreInOrder (map incoming_end ps)) (sym (is ∙ (λ i. places_in (c.deref-2.ensures.value i) (c.deref-3.ensures.value i) v))) (rows_places_all rows c.requires.legal.placed c.args.object es c.put_in_order.ensures.order same).1)
    c.places_of.ensures
