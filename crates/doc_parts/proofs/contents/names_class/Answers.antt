use Rattle.std.proofs.Common.{◌∙◌, ◌≡◌, Some, ap, sym}
use Rattle.std.proofs.lemmas.Slice.Eq.{bytes_eq-Decides}
use Rattle.mm_types.specs.Lookups as lookups
use Rattle.doc_parts.proofs.ClassLemmas.{conforms-self, own-class}
use Rattle.doc_parts.proofs.contents.names_class.Goals as goal

pub returns-in-Some-Some-clause-class : goal.returns-in-Some-Some-clause-class
returns-in-Some-Some-clause-class c = λ same.
    let found = c.in-Some-Some.found.now in
    let named : c.in-Some-Some.object.class.now ≡ found.name = (bytes_eq-Decides c.in-Some-Some.object.class.now c.as_str.result.now).0 (sym c.eq.ensures ∙ same) ∙ c.as_str.ensures in
    let own = own-class c.args.meta.now c.lemma_is_of_document.ensures c.args.class found (sym c.in-Some-Some.ensures') in
    rw (← c.in-Some-Some.ensures) (rw named own)

pub returns-in-Some-Some-clause-conforms : goal.returns-in-Some-Some-clause-conforms
returns-in-Some-Some-clause-conforms c = λ same. conforms-self c.args.meta.now c.args.class c.in-Some-Some.found.now (sym c.in-Some-Some.ensures')
