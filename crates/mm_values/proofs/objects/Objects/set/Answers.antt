use Rattle.std.proofs.Common.{◌≡◌, ◌<◌, ◌∙◌, ap, sym, length, arith}
use Rattle.std.proofs.lemmas.Result.{on_err_weaker, on_ok_weaker}
use Rattle.mm_values.specs.Attributes.{stored_in}
use Rattle.mm_values.specs.Stored.{Stored, with_stored}
use Rattle.mm_values.specs.Values.{put_stored}
use Rattle.mm_values.proofs.SlotLemmas.{objects_changed, objects_dead, objects_same, none_read}
use Rattle.mm_values.proofs.objects.Objects.set.Goals as goal
use Rattle.mm_values.proofs.objects.Objects.set.Goals.{else-index-self-via-then-index-self+else-is_some, else-index-self-via-else-index-self}

pub returns-then-is_some-clause-ok : goal.returns-then-is_some-clause-ok
returns-then-is_some-clause-ok c =
    let s = c.self.inside in
    let within : c.args.object.0 < length s.lists.items = omega (arith, c.self.invariant.in_range) in
    let put : Stored = record { list = c.args.list; flag = c.args.flag } in
    rw (← c.self.view_is) (on_ok_weaker c.set.result (λ (stored : stored_in c.set.new.self ≡ with_stored (stored_in c.index_mut.result.now) c.args.feature.0 put).
    objects_changed s.classes.items s.lists.items s.next c.args.object.0 c.index_mut.result.now c.set.new.self (put_stored c.args.feature put) c.self.invariant.same_length c.if-index-self.true within c.index_mut.ensures.value (λ class. ap (λ m. record { class = class; stored = m }) stored)) c.set.ensures.ok)

pub returns-then-is_some-clause-err : goal.returns-then-is_some-clause-err
returns-then-is_some-clause-err c =
    let s = c.self.inside in
    let within : c.args.object.0 < length s.lists.items = omega (arith, c.self.invariant.in_range) in
    rw (← c.self.view_is) (on_err_weaker c.set.result (objects_same s.classes.items s.lists.items s.next c.args.object.0 c.index_mut.result.now c.set.new.self c.self.invariant.same_length within c.index_mut.ensures.value) c.set.ensures.err)

-- no object is live there
pub returns-clause-ok : goal.returns-clause-ok
returns-clause-ok c =
    let s = c.self.inside in
    rw (← c.self.view_is) (objects_dead s.classes.items s.lists.items s.next c.args.object.0 (put_stored c.args.feature (record { list = c.args.list; flag = c.args.flag })) c.self.invariant.same_length c.self.invariant.in_range (λ made. elim c.else-index-self.branch [
      | else-index-self-via-then-index-self+else-is_some w ↦ none_read s.classes.items c.args.object.0 w.index.result.now (omega (arith, c.self.invariant.same_length, c.self.invariant.in_range)) w.index.ensures (sym w.is_some.ensures ∙ w.if-is_some.false)
      | else-index-self-via-else-index-self w ↦ absurd (omega (arith, w.if-index-self.false))
    ]))
