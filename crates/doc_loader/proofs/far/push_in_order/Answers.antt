use Rattle.std.proofs.Common.{◌∙◌, sym}
use Rattle.std.proofs.lemmas.Result.{on_ok_weaker}
use Rattle.doc_loader.specs.ListIndexes.{index_among}
use Rattle.doc_loader.proofs.LinkLemmas.{far-found, nothing-left}
use Rattle.doc_loader.proofs.far.push_in_order.Goals as goal

pub returns-then-not-has_any_unordered : goal.returns-then-not-has_any_unordered
returns-then-not-has_any_unordered c =
    let m = c.args.meta.now in
    let os = c.as_slice-objects.result.now in
    rw (← c.as_slice-objects.ensures) (nothing-left m c.args.next (index_among m os) os c.args.edits.now.items (sym c.has_any_unordered.ensures ∙ c.if-not-has_any_unordered.true))

pub returns : goal.returns
returns c =
    rw (← c.as_slice-objects.ensures) (on_ok_weaker c.push_objects.result
    (far-found c.args.meta.now c.args.next c.as_slice-objects.result.now c.in_ok-indexes.indexes c.args.edits.now.items c.push_objects.new.edits.items c.in_ok-indexes.ensures)
    c.push_objects.ensures)
