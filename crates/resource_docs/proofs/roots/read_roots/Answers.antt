use Rattle.std.proofs.Common.{◌∙◌, ◌++◌, [], ap, map, sym, take}
use Rattle.std.specs.Prelude.{option_to_list}
use Rattle.std.specs.List.{filter_map}
use Rattle.borrowed_json.specs.View.{view}
use Rattle.web_uris.specs.Paths.{new_path}
use Rattle.doc_parts.specs.FoundParts.{roots_from}
use Rattle.doc_parts.proofs.WalkLemmas.{root, roots_next}
use Rattle.resource_docs.specs.Read.{root_number}
use Rattle.resource_docs.proofs.ReadingLemmas.{filter_map-push}
use Rattle.resource_docs.proofs.roots.read_roots.Goals as goal

pub roots-preserved : goal.roots-preserved
roots-preserved c = λ m ps known.
    c.in_ok-add_root.ensures m ps known
    ∙ ap (λ i. c.roots.numbers ++ option_to_list (root_number ps (new_path i []))) c.in_ok-position.ensures.index
    ∙ ap (λ ns. ns ++ option_to_list (root_number ps (new_path c.roots.i []))) (c.roots.invariant m ps known)
    ∙ sym (ap (filter_map (λ p. root_number ps p.path)) (roots_next c.args.roots.now c.roots.i c.index-roots-i.result c.roots-test.true c.index-roots-i.is)
    ∙ filter_map-push (λ p. root_number ps p.path) (roots_from (map view (take c.roots.i c.args.roots.now))) (root c.roots.i (view c.index-roots-i.result)))
