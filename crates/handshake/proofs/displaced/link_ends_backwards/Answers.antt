use Rattle.std.proofs.Common.{◌≤◌, ◌++◌, ℕ, Bool, [], length, take, Option, option_map, option_to_list, if◌then◌else◌, sym, ap, ◌∙◌, subst, arith}
use Rattle.mm_types.specs.Resolved.{Metamodel}
use Rattle.mm_types.specs.Shapes.{shape}
use Rattle.mm_types.specs.declared.value.Value.{Value}
use Rattle.models.specs.Model.{reading}
use Rattle.handshake.specs.Displaced.{link_ends_backwards}
use Rattle.removal.specs.TreeLinkEnds.{link_end}
use Rattle.handshake.proofs.FeatureChangeLemmas.{backwards-before, backwards-end, take-whole}
use Rattle.handshake.proofs.displaced.link_ends_backwards.Goals as goal

pub loop-index-init : goal.loop-index-init
loop-index-init g c =
    let e = c.args.end in
    let vs = (reading c.args.model.now).values e in (
      subst (λ (n : ℕ). n ≤ length vs) (sym c.len-index.ensures) (omega arith),
      (λ i. c.new-link_ends.ensures.items i ++ link_ends_backwards e (take (c.len-index.ensures i) vs)) ∙ ap (link_ends_backwards e) (take-whole vs),
    )

pub loop-index-preserved : goal.loop-index-preserved
loop-index-preserved g c =
    let e = c.args.end in
    let vs = (reading c.args.model.now).values e in
    let low = c.loop-index.invariant.0 in (
      omega (arith, low),
      backwards-before e vs c.loop-index.index _ _ _ c.loop-index-test.true low
          (c.in_ok-push_link_end.ensures ∙ ap (λ (x : Option Value). c.loop-index.link_ends.items ++ option_to_list (option_map (link_end e) x)) c.value_in.ensures) c.loop-index.invariant.1,
    )

pub returns : goal.returns
returns g c =
    let e = c.args.end in
    let vs = (reading c.args.model.now).values e in
    let reference = sym (ap (λ (m : Metamodel). (shape m e.feature).is_reference) c.meta.ensures) ∙ sym c.is_reference.ensures ∙ c.if-not-is_reference.false in
    backwards-end e vs c.loop-index.index _ _ c.loop-index-test.false c.loop-index.invariant.1 ∙ ap (λ (b : Bool). if b then link_ends_backwards e vs else []) (sym reference)
