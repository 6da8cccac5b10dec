use Rattle.std.proofs.Common.{◌∙◌, subst, sym}
use Rattle.doc_parts.specs.Parts.{parts}
use Rattle.resource_docs.specs.Causes.{Answers}
use Rattle.resource_docs.specs.Texts.{base_of}
use Rattle.resource_docs.proofs.CauseLemmas.{name_faulty, names_right}
use Rattle.resource_docs.proofs.reading.read_found.Goals as goal

pub returns-then-has_other_member : goal.returns-then-has_other_member
returns-then-has_other_member c = λ d known format roots.
    let m = c.args.source.now.meta.now in
    name_faulty m (base_of c.args.source.now.uri.now) d (sym (c.has_other_member.ensures (parts m d) known (c.in-Ok.ensures.all (parts m d) known)) ∙ c.if-has_other_member.true)

pub returns-else-has_other_member : goal.returns-else-has_other_member
returns-else-has_other_member c = λ d known format roots.
    let m = c.args.source.now.meta.now in
    subst (Answers c.read_rest.result)
    (names_right m (base_of c.args.source.now.uri.now) d (sym (c.has_other_member.ensures (parts m d) known (c.in-Ok.ensures.all (parts m d) known)) ∙ c.if-has_other_member.false))
    (c.read_rest.ensures d known format roots (c.in-Ok.ensures.value (parts m d) known))
