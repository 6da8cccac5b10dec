use Rattle.std.proofs.Common.{◌≡◌, ◌∙◌, Bool, Option, Some, true, ap, sym}
use Rattle.std.specs.Bool.{beq}
use Rattle.std.specs.Prelude.{slice_get}
use Rattle.std.specs.Option.{option_copied, option_eq}
use Rattle.mm_meta.specs.Meta.{metamodel}
use Rattle.mm_meta.proofs.ConformLemmas.{conforms_by_row}
use Rattle.mm_meta.proofs.ResolverLemmas.{got}
use Rattle.mm_meta.proofs.meta.Meta.conforms.Goals as goal

pub returns-in-Some : goal.returns-in-Some
returns-in-Some c =
    let by_class : slice_get c.self.inside.conformance c.args.sub.0 ≡ Some c.in-Some.by_class.now =
    rw (← c.as_slice.ensures) (sym (got _ _ c.get.result c.get.ensures.lookup) ∙ ap option_copied c.in-Some.is) in
    let cell : c.copied.result ≡ slice_get c.in-Some.by_class.now c.args.sup.0 =
    rw (← c.as_slice-in-Some.ensures) (c.copied.ensures ∙ got _ _ c.get-in-Some.result c.get-in-Some.ensures.lookup) in
    c.eq.ensures
    ∙ (ap (λ (o : Option Bool). option_eq beq o (Some true)) cell
    ∙ rw (← c.self.view_is)
    (conforms_by_row (metamodel c.self.inside) c.self.invariant.of_document c.self.inside.conformance c.self.invariant.conforms c.args.sub c.args.sup c.in-Some.by_class.now by_class))
