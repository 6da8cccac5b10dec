use Rattle.std.proofs.Common.{◌≡◌, ◌+◌, length, take}
use Rattle.std.specs.List.{All, filter_map}
use Rattle.borrowed_json.specs.View.{members_view}
use Rattle.doc_parts.specs.Parts.{entry_at}
use Rattle.resource_docs.specs.Reading.{IsProxyContent, Numbered, contents_so_far}
use Rattle.resource_docs.specs.Texts.{base_of}
use Rattle.resource_docs.proofs.objects.read_features.Given as goal

abbrev pub invariant-features : goal.invariant-features
invariant-features l =
    record {
      value : Numbered l.source.meta.now l.source.found.now l.number (λ ps path. l.read ≡ contents_so_far l.source.meta.now (base_of l.source.uri.now) ps path (filter_map (entry_at l.source.meta.now (members_view l.members)) (take l.feature-index l.features)));
      proxy : All IsProxyContent l.read.contents;
      left : l.left + length (filter_map (entry_at l.source.meta.now (members_view l.members)) (take l.feature-index l.features)) ≡ length l.members;
    }
