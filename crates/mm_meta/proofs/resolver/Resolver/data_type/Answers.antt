use Rattle.std.proofs.Common.{◌≡◌, ◌∙◌, None, Some, ap, map, sym}
use Rattle.std.specs.Prelude.{option_map}
use Rattle.std.specs.Str.{bytes_eq}
use Rattle.mm_types.specs.Resolved.{enum_named}
use Rattle.mm_types.specs.declared.feature.DataType.TheVariants.{Enum}
use Rattle.mm_meta.proofs.NameLemmas.{position-map}
use Rattle.mm_meta.proofs.ResolverLemmas.{not_primitive}
use Rattle.mm_meta.proofs.resolver.Resolver.data_type.Goals as goal

pub returns-in_err-e : goal.returns-in_err-e
returns-in_err-e c =
    let enums = c.self.inside.enums.now in
    let found : None ≡ enum_named enums c.args.name.now =
    c.in_err-e.ensures (map (λ e. e.name) enums) c.self.invariant.finds_enums ∙ position-map (λ n. bytes_eq n c.args.name.now) (λ e. e.name) enums in
    rw (← c.self.view_is)
    (c.from_residual.ensures ∙ sym (not_primitive enums c.args.name.now (sym c.if-eq.ensures) (sym c.if-eq-2.ensures) (sym c.if-eq-3.ensures) (sym c.if-eq-4.ensures) ∙ ap (option_map Enum) (sym found)))

pub returns : goal.returns
returns c =
    let enums = c.self.inside.enums.now in
    let found : Some c.in_ok-e.e ≡ enum_named enums c.args.name.now =
    c.in_ok-e.ensures (map (λ e. e.name) enums) c.self.invariant.finds_enums ∙ position-map (λ n. bytes_eq n c.args.name.now) (λ e. e.name) enums in
    rw (← c.self.view_is)
    (sym (not_primitive enums c.args.name.now (sym c.if-eq.ensures) (sym c.if-eq-2.ensures) (sym c.if-eq-3.ensures) (sym c.if-eq-4.ensures) ∙ ap (option_map Enum) (sym found)))
