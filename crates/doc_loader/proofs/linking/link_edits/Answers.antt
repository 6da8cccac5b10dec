use Rattle.std.proofs.Common.{◌≡◌, ◌∙◌, List, false, subst, sym}
use Rattle.std.specs.List.{list_any}
use Rattle.resource_docs.specs.declared.doc.DocObject.{DocObject}
use Rattle.doc_loader.specs.ListIndexes.{index_among}
use Rattle.doc_loader.specs.LoadEdits.{is_higher}
use Rattle.doc_loader.proofs.LinkLemmas.{all_edits, far-none, proxies-none}
use Rattle.doc_loader.proofs.linking.link_edits.Goals as goal

pub returns-then-not-has_higher : goal.returns-then-not-has_higher
returns-then-not-has_higher c =
    let m = c.args.meta.now in
    let es = c.push_objects.new.edits.items in
    let none = sym c.has_higher.ensures ∙ c.if-not-has_higher.true in
    let none_in = subst (λ (os : List DocObject). list_any (λ o. list_any (is_higher m) o.contents) os ≡ false) c.as_slice-objects.ensures none in
    all_edits m c.args.next c.args.resource c.args.doc.now c.contents_end-roots.result c.as_slice-objects.result.now c.as_slice.result.now
    c.in_ok-edits.edits.items c.push_roots.new.edits.items es es es
    c.as_slice-objects.ensures c.as_slice.ensures c.contents_end-roots.ensures
    c.in_ok-edits.ensures.items c.in_ok-push_roots.ensures c.in_ok-push_objects.ensures (far-none m c.args.next (index_among m c.args.doc.now.objects) c.args.doc.now.objects es none_in) (proxies-none m c.args.next c.as_slice-objects.result.now es none)

pub returns : goal.returns
returns c =
    all_edits c.args.meta.now c.args.next c.args.resource c.args.doc.now c.contents_end-roots.result c.as_slice-objects.result.now c.as_slice.result.now
    c.in_ok-edits.edits.items c.push_roots.new.edits.items c.push_objects.new.edits.items c.push_in_order.new.edits.items c.push_objects-2.new.edits.items
    c.as_slice-objects.ensures c.as_slice.ensures c.contents_end-roots.ensures
    c.in_ok-edits.ensures.items c.in_ok-push_roots.ensures c.in_ok-push_objects.ensures c.in_ok-push_in_order.ensures c.in_ok-push_objects-2.ensures
