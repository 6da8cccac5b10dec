use Rattle.std.proofs.Common.{◌∙◌, ◌≤◌, ◌<◌, ap, arith, length, sym, take}
use Rattle.std.specs.List.{list_any}
use Rattle.std.proofs.lemmas.List.{take_all}
use Rattle.doc_parts.specs.FoundParts.{has_other_member, seen_part}
use Rattle.doc_parts.proofs.KnowLemmas.{any_seen, any_with_other_key, count_known}
use Rattle.resource_docs.specs.Reading.{objects_so_far}
use Rattle.resource_docs.specs.Texts.{base_of}
use Rattle.resource_docs.proofs.ObjectLemmas.{other-as, others-more, part_at, parts_more, row_of_part}
use Rattle.resource_docs.proofs.objects.read_objects.Goals as goal

pub parts-preserved : goal.parts-preserved
parts-preserved c =
    let m = c.args.source.now.meta.now in
    let same = c.as_slice-part-items.ensures.value in
    let count = ap length same in
    let below : c.parts.part-index < length c.args.source.now.found.now.parts.items = let h = c.parts-test.true in omega (arith, h, count) in
    record {
      value = λ ps known.
          c.in_ok-is_whole.ensures.value ps (take c.parts.part-index ps) (part_at ps c.parts.part-index) known
          (row_of_part m c.args.source.now.found.now ps c.parts.part-index c.as_slice-part-items.result.now _ known below same)
          (c.parts.invariant.value ps known)
          ∙ ap (objects_so_far m (base_of c.args.source.now.uri.now) ps) (parts_more m c.args.source.now.found.now ps c.parts.part-index known below);
      proxy = c.in_ok-is_whole.ensures.proxy c.parts.invariant.proxy;
      all = λ ps known.
          others-more m c.args.source.now.found.now ps c.parts.part-index c.parts.is_all c.in_ok-is_whole.is_whole known below (c.parts.invariant.all ps known)
          (λ whole. other-as m _ _ (c.in_ok-is_whole.ensures.all whole) (row_of_part m c.args.source.now.found.now ps c.parts.part-index c.as_slice-part-items.result.now _ known below same));
    }

pub returns : goal.returns
returns c =
    let m = c.args.source.now.meta.now in
    let items = c.args.source.now.found.now.parts.items in
    let past : length items ≤ c.parts.part-index = let h = c.parts-test.false in let count = ap length c.as_slice-part-items.ensures.value in omega (arith, h, count) in
    record {
      all = λ ps known h.
          let count = count_known m ps items known.parts in
          sym (any_with_other_key m ps items known.parts)
          ∙ any_seen m (has_other_member m) ps items known.parts
          ∙ ap (list_any (λ p. has_other_member m (seen_part m ps p))) (sym (take_all c.parts.part-index ps (omega (arith, count, past))))
          ∙ c.parts.invariant.all ps known h;
      value = λ ps known.
          let count = count_known m ps items known.parts in
          c.parts.invariant.value ps known ∙ ap (objects_so_far m (base_of c.args.source.now.uri.now) ps) (take_all c.parts.part-index ps (omega (arith, count, past)));
      proxy = c.parts.invariant.proxy;
    }
