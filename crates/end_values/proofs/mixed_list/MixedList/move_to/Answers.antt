use Rattle.std.proofs.Common.{◌<◌, Option, false, length, sym, ap, ◌∙◌, subst, arith}
use Rattle.std.specs.Option.{option_map_or}
use Rattle.mm_types.specs.declared.value.Value.{Value}
use Rattle.end_values.specs.Proxies.{HasNoProxyBefore, is_proxy}
use Rattle.end_values.proofs.ProxyLemmas.{none_before-moved}
use Rattle.end_values.proofs.mixed_list.MixedList.move_to.Goals as goal

pub invariant_of-self : goal.invariant_of-self
invariant_of-self c =
    let vs = c.self.inside.values.items in
    let to : c.args.to < length vs = omega (arith, ap (λ p. length p.items) c.self.view_is, c.requires.to) in
    let from : c.args.from < length vs = omega (arith, ap (λ p. length p.items) c.self.view_is, c.requires.from) in
    let kind = c.is_proxy_there-is_proxy.ensures ∙ ap (λ (o : Option Value). option_map_or is_proxy o false) c.get.ensures in
    subst (HasNoProxyBefore c.start_after_insert-self-inside.result) (sym c.move_to.ensures.items)
    (none_before-moved c.start_after_remove.result c.start_after_insert-self-inside.result vs c.args.to c.args.from to from
    (c.start_after_remove.ensures vs c.self.invariant)
    (λ ws v within is none. c.start_after_insert-self-inside.ensures ws v within (is ∙ sym kind) none))
