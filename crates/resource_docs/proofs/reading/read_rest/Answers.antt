use Rattle.std.proofs.Common.{◌∙◌, ap, sym}
use Rattle.doc_parts.specs.Parts.{parts}
use Rattle.resource_docs.specs.Causes.{sense_cause}
use Rattle.resource_docs.specs.Texts.{base_of}
use Rattle.resource_docs.proofs.CauseLemmas.{count_roots, doc_is, no_fault, one_fault, value_faulty, values_right}
use Rattle.resource_docs.proofs.reading.read_rest.Goals as goal

pub returns-then-read : goal.returns-then-read
returns-then-read c = λ d known format roots read. value_faulty c.args.source.now.meta.now (base_of c.args.source.now.uri.now) d c.args.read read c.if-read.true

pub returns-in-Ok-None : goal.returns-in-Ok-None
returns-in-Ok-None c = λ d known format roots read.
    let m = c.args.source.now.meta.now in
    let b = base_of c.args.source.now.uri.now in
    let is = doc_is m b d _ _ _ read (c.in-Ok.ensures m (parts m d) known) roots in
    let says = rw c.in-Ok-None.field-0-is at c.in-Ok-None.ensures in (
      sym (values_right m b d c.args.read read c.if-read.false)
          ∙ no_fault _ _ (sense_cause m b d (parts m d)) is (says (parts m d) d known format (count_roots c.args.roots.now _ roots) (ap (λ r. r.is_lost) read) (ap (λ r. r.has_long) read)),
      c.requires,
    )

pub returns-in-Ok-Some : goal.returns-in-Ok-Some
returns-in-Ok-Some c = λ d known format roots read.
    let m = c.args.source.now.meta.now in
    let b = base_of c.args.source.now.uri.now in
    let is = doc_is m b d _ _ _ read (c.in-Ok.ensures m (parts m d) known) roots in
    let says = rw c.in-Ok-Some.field-0-is at c.in-Ok-Some.ensures in
    sym (values_right m b d c.args.read read c.if-read.false)
    ∙ (one_fault _ _ (sense_cause m b d (parts m d)) _ is (says (parts m d) d known format (count_roots c.args.roots.now _ roots) (ap (λ r. r.is_lost) read) (ap (λ r. r.has_long) read)))
