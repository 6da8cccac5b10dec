use Rattle.std.proofs.Common.{◌≡◌, List, false, take, true}
use Rattle.std.specs.List.{All, list_any}
use Rattle.doc_parts.specs.FoundParts.{Knows, has_other_member, seen_part}
use Rattle.doc_parts.specs.Parts.{Part}
use Rattle.resource_docs.specs.Reading.{IsProxyObject, objects_so_far}
use Rattle.resource_docs.specs.Texts.{base_of}
use Rattle.resource_docs.proofs.objects.read_objects.Given as goal

abbrev pub invariant-parts : goal.invariant-parts
invariant-parts l =
    record {
      value : (ps : List Part) → Knows l.source.meta.now l.source.found.now ps → l.read ≡ objects_so_far l.source.meta.now (base_of l.source.uri.now) ps (take l.part-index ps);
      proxy : All IsProxyObject l.read.objects;
      all : (ps : List Part) → Knows l.source.meta.now l.source.found.now ps → l.is_all ≡ true → list_any (λ p. has_other_member l.source.meta.now (seen_part l.source.meta.now ps p)) (take l.part-index ps) ≡ false;
    }
