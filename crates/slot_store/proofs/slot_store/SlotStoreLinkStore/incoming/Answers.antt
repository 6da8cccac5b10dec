use Rattle.std.proofs.Common.{◌≡◌, ◌∙◌, sym, ap, map, subst, List}
use Rattle.std.proofs.lemmas.Result.{IfOk-weaker}
use Rattle.mm_types.specs.declared.end.End.{End}
use Rattle.mm_types.specs.declared.value.Value.TheVariants as value
use Rattle.links.specs.declared.incoming.Incoming.{Incoming}
use Rattle.links.specs.Plans.{AreInOrder, AreEntriesOf, has_end, incoming_end}
use Rattle.links.specs.Found.{entries_by}
use Rattle.node_slots.specs.Cells.{cells}
use Rattle.slot_store.specs.CellLinks.{store_links}
use Rattle.slot_store.specs.Entering.{found_in}
use Rattle.slot_store.proofs.EnteringLemmas.{entering_places}
use Rattle.slot_store.proofs.slot_store.SlotStoreLinkStore.incoming.Goals as goal

pub returns-clause-entries : goal.returns-clause-entries
returns-clause-entries c =
    let t = c.args.self.now.rows in
    let search = found_in (cells t) (value.Object c.args.object) in
    let es = c.put_in_order.new.ends.items in
    let same = λ (e : End). c.put_in_order.ensures.same e ∙ ap (λ (ds : List End). has_end ds e) c.in_ok-ends.ensures in
    IfOk-weaker c.places_of.result (λ r. r.items ≡ entries_by search c.deref.result.now) (λ r. AreEntriesOf (store_links t) c.args.object r.items)
    (λ r is. subst (λ (ps : List Incoming). AreEntriesOf (store_links t) c.args.object ps) (sym (is ∙ ap (λ (ds : List End). entries_by search ds) c.deref.ensures.value)) (entering_places t c.args.self.now.kept c.args.object c.requires.legal es c.put_in_order.ensures.order same).0)
    c.places_of.ensures

pub returns-clause-order : goal.returns-clause-order
returns-clause-order c =
    let t = c.args.self.now.rows in
    let search = found_in (cells t) (value.Object c.args.object) in
    let es = c.put_in_order.new.ends.items in
    let same = λ (e : End). c.put_in_order.ensures.same e ∙ ap (λ (ds : List End). has_end ds e) c.in_ok-ends.ensures in
    IfOk-weaker c.places_of.result (λ r. r.items ≡ entries_by search c.deref.result.now) (λ r. AreInOrder (map incoming_end r.items))
    (λ r is. subst (λ (ps : List Incoming). AreInOrder (map incoming_end ps)) (sym (is ∙ ap (λ (ds : List End). entries_by search ds) c.deref.ensures.value)) (entering_places t c.args.self.now.kept c.args.object c.requires.legal es c.put_in_order.ensures.order same).1)
    c.places_of.ensures
