use Rattle.std.proofs.Common.{◌≡◌, ◌∙◌, ◌≤◌, ap, arith, eqb-true, length, take}
use Rattle.std.proofs.lemmas.List.{take_all}
use Rattle.std.specs.List.{filter_map}
use Rattle.borrowed_json.specs.View.{members_view}
use Rattle.doc_parts.specs.Parts.{entry_at}
use Rattle.resource_docs.specs.Reading.{contents_so_far}
use Rattle.resource_docs.specs.Texts.{base_of}
use Rattle.resource_docs.proofs.MemberLemmas.{all-readable, no-others}
use Rattle.resource_docs.proofs.ObjectLemmas.{count_more, entries_more}
use Rattle.resource_docs.proofs.objects.read_features.Goals as goal

pub features-preserved : goal.features-preserved
features-preserved c =
    let entry = entry_at c.args.source.now.meta.now (members_view c.args.members.now) in
    record {
      value = λ ps path known first.
          c.in_ok-is_found.ensures.value ps path known first (filter_map entry (take c.features.feature-index c.args.features.now)) (c.features.invariant.value ps path known first)
          ∙ ap (contents_so_far c.args.source.now.meta.now (base_of c.args.source.now.uri.now) ps path)
          (entries_more c.args.source.now.meta.now (members_view c.args.members.now) c.args.features.now c.features.feature-index _ c.features-test.true);
      proxy = c.in_ok-is_found.ensures.proxy c.features.invariant.proxy;
      left =
          let more = count_more c.args.source.now.meta.now (members_view c.args.members.now) c.args.features.now c.features.feature-index _ c.in_ok-is_found.is_found c.features-test.true c.in_ok-is_found.ensures.found in
          let before = c.features.invariant.left in
          let less = c.left_after-left.ensures in
          omega (arith, more, before, less);
    }

pub returns-then-left-eq0-clause-all : goal.returns-then-left-eq0-clause-all
returns-then-left-eq0-clause-all c = λ _.
    let m = c.args.source.now.meta.now in
    let xs = c.args.members.now in
    let before = c.features.invariant.left in
    let none = c.if-left-eq0.true in
    let all : length xs ≤ length (filter_map (entry_at m (members_view xs)) (take c.features.feature-index c.args.features.now)) = omega (arith, before, none) in
    let same = ap length (no-others m xs c.lemma_is_of_document.ensures c.args.class c.args.features.now c.requires.features c.features.feature-index all) in
    all-readable m xs c.lemma_is_of_document.ensures c.args.class c.args.features.now c.requires.features (omega (arith, all, same))

pub returns-then-left-eq0-clause-value : goal.returns-then-left-eq0-clause-value
returns-then-left-eq0-clause-value c = λ ps path known first.
    let m = c.args.source.now.meta.now in
    let xs = c.args.members.now in
    let before = c.features.invariant.left in
    let none = c.if-left-eq0.true in
    let all : length xs ≤ length (filter_map (entry_at m (members_view xs)) (take c.features.feature-index c.args.features.now)) = omega (arith, before, none) in
    c.features.invariant.value ps path known first
    ∙ ap (contents_so_far m (base_of c.args.source.now.uri.now) ps path) (no-others m xs c.lemma_is_of_document.ensures c.args.class c.args.features.now c.requires.features c.features.feature-index all)

pub returns : goal.returns
returns c =
    let m = c.args.source.now.meta.now in
    let xs = c.args.members.now in
    let whole : take c.features.feature-index c.args.features.now ≡ c.args.features.now = take_all c.features.feature-index c.args.features.now c.features-test.false in
    let before = c.features.invariant.left in
    record {
      all = λ h.
          let none = eqb-true c.features.left 0 h in
          let same = ap (λ fs. length (filter_map (entry_at m (members_view xs)) fs)) whole in
          all-readable m xs c.lemma_is_of_document.ensures c.args.class c.args.features.now c.requires.features (omega (arith, before, none, same));
      value = λ ps path known first.
          c.features.invariant.value ps path known first ∙ ap (λ fs. contents_so_far m (base_of c.args.source.now.uri.now) ps path (filter_map (entry_at m (members_view xs)) fs)) whole;
      proxy = c.features.invariant.proxy;
    }
