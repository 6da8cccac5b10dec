use Rattle.std.proofs.Common.{◌≡◌, map, take}
use Rattle.std.specs.List.{All}
use Rattle.borrowed_json.specs.View.{view}
use Rattle.resource_docs.specs.Reading.{Numbered, values_so_far}
use Rattle.resource_docs.specs.Texts.{base_of}
use Rattle.resource_docs.specs.Values.{IsProxyValue}
use Rattle.resource_docs.proofs.values.read_values.Given as goal

abbrev pub invariant-values : goal.invariant-values
invariant-values l =
    record {
      value : Numbered l.source.meta.now l.source.found.now l.number (λ ps path. l.read ≡ values_so_far l.source.meta.now (base_of l.source.uri.now) ps path l.feature l.kind (map view (take l.i l.values)));
      proxy : All IsProxyValue l.read.values;
    }
