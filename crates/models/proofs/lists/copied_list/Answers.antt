use Rattle.std.proofs.Common.{◌∙◌, ◌≤◌, ◌<◌, ◌+◌, ℕ, List, ◌++◌, Option, unwrap_or, vec_capacity, arith, ap, subst}
use Rattle.mm_types.specs.declared.value.Value.{Value}
use Rattle.mm_types.specs.declared.value.Value.TheVariants.{Null}
use Rattle.models.specs.Model.{reading}
use Rattle.models.proofs.ListLemmas.{all-read, one-further}
use Rattle.models.proofs.lists.copied_list.Goals as goal

pub loop-index-init : goal.loop-index-init
loop-index-init g c =
    let vs = (reading c.args.model.now).values c.args.end in (
      ap (λ (os : List Value). os ++ vs) c.in_ok-values.ensures.items,
      c.in_ok-values.ensures.len,
      subst (λ (n : ℕ). n ≤ vec_capacity c.in_ok-values.values) c.len-len.ensures c.in_ok-values.ensures.capacity,
    )

pub push_reserved-requires : goal.push_reserved-requires
push_reserved-requires g c =
    let low = subst (λ (n : ℕ). c.loop-index.index < n) c.len-len.ensures c.loop-index-test.true in
    omega (arith, low, c.loop-index.invariant.1, c.loop-index.invariant.2)

pub loop-index-preserved : goal.loop-index-preserved
loop-index-preserved g c =
    let vs = (reading c.args.model.now).values c.args.end in
    let low = subst (λ (n : ℕ). c.loop-index.index < n) c.len-len.ensures c.loop-index-test.true in
    let is = c.in_ok-copied.ensures ∙ ap (λ (o : Option Value). unwrap_or o Null) c.value_in.ensures in (
      one-further vs c.loop-index.values.items c.push_reserved.new.self.items vs c.loop-index.index c.in_ok-copied.field-0 low c.push_reserved.ensures.items is c.loop-index.invariant.0,
      c.push_reserved.ensures.len ∙ ap (λ n. n + 1) c.loop-index.invariant.1,
      rw c.push_reserved.ensures.capacity c.loop-index.invariant.2,
    )

pub returns : goal.returns
returns g c =
    let vs = (reading c.args.model.now).values c.args.end in
    let past = subst (λ (n : ℕ). n ≤ c.loop-index.index) c.len-len.ensures c.loop-index-test.false in
    c.from_vec.ensures ∙ all-read vs c.loop-index.values.items vs c.loop-index.index past c.loop-index.invariant.0
