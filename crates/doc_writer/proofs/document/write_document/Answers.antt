use Rattle.std.proofs.Common.{◌≡◌, ◌++◌, ◌∷◌, List, [], codes, map, refl, subst, rules}
use Rattle.json.specs.Token.{begin_object, key}
use Rattle.mm_types.specs.declared.limits.TheConstants.{DOCUMENT_FORMAT}
use Rattle.mm_types.specs.declared.numbers.ObjectNo.{ObjectNo}
use Rattle.models.specs.Model.{reading}
use Rattle.serde_json.specs.Data.{array, number, unsigned}
use Rattle.serde_json.specs.View.{items_of}
use Rattle.doc_writer.specs.Added.{Adds}
use Rattle.doc_writer.specs.Document.{document, object_data}
use Rattle.fragment_paths.specs.Finding.{roots}
use Rattle.doc_writer.proofs.AddedLemmas.{keyed, two_members-added}
use Rattle.doc_writer.proofs.document.write_document.Goals as goal

pub returns : goal.returns
unfolding document
returns g c =
    let r = reading c.args.source.now.positions.now in
    let k = c.args.source.now.resource in
    let value = λ (os : List ObjectNo). array (items_of (map (object_data r k r.next) os)) in
    let opened : c.begin_object.new.self.tokens ≡ c.args.out.now.tokens ++ begin_object ∷ [] = search rules in
    let named : c.key.new.self.tokens ≡ c.write_format.new.out.tokens ++ key (codes "roots") ∷ [] = search rules in
    let listed = subst (λ os. Adds (value os) c.key.new.self c.write_roots.new.out) c.requires.roots c.in_ok-write_roots.ensures in
    two_members-added c.end_object.result (codes "format") (codes "roots") (number (unsigned DOCUMENT_FORMAT)) (value (roots r k)) c.args.out.now c.begin_object.new.self c.write_format.new.out c.write_roots.new.out c.end_object.new.self refl
    c.begin_object.ensures.room.0 opened c.in_ok-write_format.ensures (keyed (codes "roots") (value (roots r k)) c.write_format.new.out c.key.new.self c.write_roots.new.out c.key.ensures.room.0 named listed) c.end_object.ensures
