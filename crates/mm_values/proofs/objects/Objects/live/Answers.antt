use Rattle.std.proofs.Common.{◌≡◌, ◌<◌, ◌∙◌, ap, sym, length, get_or, [], None, Some, arith}
use Rattle.std.proofs.lemmas.List.{get_or_read}
use Rattle.mm_values.specs.Slots.{state_of}
use Rattle.mm_values.proofs.SlotLemmas.{object-get_or, object_read}
use Rattle.mm_values.proofs.objects.Objects.live.Goals as goal

pub returns-in_err-class : goal.returns-in_err-class
returns-in_err-class c =
    let cs = c.self.inside.classes.items in
    let ls = c.self.inside.lists.items in
    let o = c.args.object.0 in
    let made : o < c.self.inside.next = omega arith in
    let within : o < length ls = omega (arith, c.self.invariant.in_range) in
    let none : get_or cs o None ≡ None = sym (get_or_read cs o c.index.result.now (omega (arith, c.self.invariant.same_length)) c.index.ensures None) ∙ c.in_err-class.was in
    rw (← c.self.view_is, c.from_residual.ensures) (object-get_or cs ls c.self.inside.next o [] c.self.invariant.same_length made within ∙ ap (λ k. state_of k (get_or ls o [])) none)

pub returns : goal.returns
returns c =
    let made : c.args.object.0 < c.self.inside.next = omega arith in
    let within : c.args.object.0 < length c.self.inside.lists.items = omega (arith, c.self.invariant.in_range) in
    let class : c.index.result.now ≡ Some c.in_ok-class.class = c.in_ok-class.was in
    rw (← c.self.view_is) (object_read c.self.inside.classes.items c.self.inside.lists.items c.self.inside.next c.args.object.0 c.index.result.now c.index-2.result.now c.self.invariant.same_length made within c.index.ensures c.index-2.ensures ∙ ap (λ k. state_of k c.index-2.result.now) class)
