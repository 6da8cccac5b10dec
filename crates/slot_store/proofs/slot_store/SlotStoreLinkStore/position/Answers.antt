use Rattle.std.proofs.Common.{List, ◌∙◌, sym, ap, arith}
use Rattle.std.specs.List.{slice_get}
use Rattle.std.proofs.lemmas.Option.{slice_get_within}
use Rattle.mm_types.specs.declared.value.Value.{Value}
use Rattle.mm_types.specs.declared.value.Value.TheVariants as value
use Rattle.node_slots.specs.Cells.{cells}
use Rattle.slot_store.proofs.PositionLemmas.{position_at, position_lacks}
use Rattle.slot_store.proofs.StoreLemmas.{ends_kept, few_kept, kept_once}
use Rattle.slot_store.proofs.slot_store.SlotStoreLinkStore.position.Goals as goal

pub found-requires : goal.found-requires
found-requires c = (kept_once c.args.self.now.rows c.args.self.now.kept).values c.args.end

pub overflow_cast-result : goal.overflow_cast-result
overflow_cast-result c =
    let t = c.args.self.now.rows in
    let vs = (cells t).vals c.args.end in
    let v = value.Object c.args.object in
    let at = position_at vs v c.in-Some.index (sym c.found.ensures ∙ c.in-Some.is) in
    omega (arith, slice_get_within vs c.in-Some.index v at, few_kept t c.args.self.now.kept c.args.end)

pub returns-in-Some : goal.returns-in-Some
returns-in-Some c =
    let t = c.args.self.now.rows in
    let vs = (cells t).vals c.args.end in
    ap (λ (xs : List Value). slice_get xs c.in-Some.index) (ends_kept t c.args.self.now.kept c.args.end)
    ∙ position_at vs (value.Object c.args.object) c.in-Some.index (sym c.found.ensures ∙ c.in-Some.is)

pub returns-then-far_lacks : goal.returns-then-far_lacks
returns-then-far_lacks c = λ k h.
    c.far_lacks.ensures c.if-far_lacks.true (k, ap (λ (xs : List Value). slice_get xs k) (sym (ends_kept c.args.self.now.rows c.args.self.now.kept c.args.end)) ∙ h)

pub returns : goal.returns
returns c = λ k h.
    let t = c.args.self.now.rows in
    position_lacks ((cells t).vals c.args.end) (value.Object c.args.object) k (sym c.found.ensures ∙ c.in-None.is)
    (ap (λ (xs : List Value). slice_get xs k) (sym (ends_kept t c.args.self.now.kept c.args.end)) ∙ h)
