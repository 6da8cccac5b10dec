use Rattle.std.proofs.Common.{◌∙◌, Option, ap, false, subst, sym}
use Rattle.std.specs.Option.{option_map_or}
use Rattle.borrowed_json.specs.View.{items_view}
use Rattle.doc_parts.specs.Layout.{Top, new_top}
use Rattle.doc_parts.specs.Parts.{parts}
use Rattle.resource_docs.specs.Causes.{Answers, has_first_format}
use Rattle.resource_docs.specs.Texts.{base_of}
use Rattle.resource_docs.proofs.CauseLemmas.{roots_are, shape_faulty, shape_right}
use Rattle.resource_docs.proofs.reading.read_parts.Goals as goal

pub returns-in-Some : goal.returns-in-Some
returns-in-Some c = λ d known here.
    let t = new_top c.args.top.format (items_view c.args.top.roots.now) in
    shape_faulty c.args.source.now.meta.now (base_of c.args.source.now.uri.now) d t c.in-Some.fault here (c.in-Some.ensures (parts c.args.source.now.meta.now d) known)

pub returns-in-None : goal.returns-in-None
returns-in-None c = λ d known here.
    let t = new_top c.args.top.format (items_view c.args.top.roots.now) in
    subst (Answers c.read_found.result)
    (shape_right c.args.source.now.meta.now (base_of c.args.source.now.uri.now) d t here (c.in-None.ensures (parts c.args.source.now.meta.now d) known))
    (c.read_found.ensures d known (c.has_first_format.ensures ∙ ap (λ (o : Option Top). option_map_or has_first_format o false) (sym here)) (roots_are d c.args.top.format c.args.top.roots.now here))
