use Rattle.std.proofs.Common.{◌∙◌, ap, map, sym, take}
use Rattle.borrowed_json.specs.View.{view}
use Rattle.resource_docs.specs.Reading.{values_so_far}
use Rattle.resource_docs.specs.Texts.{base_of}
use Rattle.resource_docs.proofs.ReadingLemmas.{views_more, views_taken}
use Rattle.resource_docs.proofs.values.read_values.Goals as goal

pub values-preserved : goal.values-preserved
values-preserved c =
    record {
      value = λ ps path known first.
          c.in_ok-add_value.ensures.value ps path known first (map view (take c.values.i c.args.values.now)) (c.in_ok-position.ensures.index ∙ views_taken c.args.values.now c.values.i c.values-test.true) (c.values.invariant.value ps path known first)
          ∙ ap (values_so_far c.args.source.now.meta.now (base_of c.args.source.now.uri.now) ps path c.args.feature c.args.kind.now) (sym (views_more c.args.values.now c.values.i c.index-values-i.result c.values-test.true c.index-values-i.is));
      proxy = c.in_ok-add_value.ensures.proxy c.values.invariant.proxy;
    }
