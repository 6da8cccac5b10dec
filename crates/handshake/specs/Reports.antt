-- The notifications of reports and of losses. A report says what happened at an end.
use Rattle.std.specs.Prelude.{ℕ, pos, nat_lt, Some, if◌then◌else◌}
use Rattle.mm_types.specs.declared.end.End.{End}
use Rattle.mm_types.specs.declared.numbers.ObjectNo.{ObjectNo}
use Rattle.mm_types.specs.declared.value.Value.TheVariants as value
use Rattle.notice_chain.specs.Kinds.{no_index}
use Rattle.notice_chain.specs.declared.kind.NoticeKind.TheVariants as kind
use Rattle.notice_chain.specs.declared.notice.Notice.{Notice}
use Rattle.models.specs.Reading.{Reading, held_at, shape_at}
use Rattle.removal.specs.declared.loss.Loss.{Loss}
use Rattle.doc_loader.specs.Loading.{loaded_number}
use Rattle.handshake.specs.declared.chain.Report.{Report}
use Rattle.handshake.specs.FeatureChange.{notice}

-- the notification of a report; its `was_set` is whether the end is set in the model
abbrev pub report_notice : Reading → End → Report → Notice
report_notice r e p = notice (shape_at r e) e (held_at r e) p.kind p.old_value p.new_value p.position

-- the notification of a loss, computed in a model in which the end still has the value: SET to null at a single end, else REMOVE at the
-- position of the loss
abbrev pub lost_notice : Reading → Loss → Notice
lost_notice r l =
    if (shape_at r l.end).is_single
    then notice (shape_at r l.end) l.end (held_at r l.end) kind.Set l.value value.Null no_index
    else notice (shape_at r l.end) l.end (held_at r l.end) kind.Remove l.value value.Null (pos l.position)

-- the notification when the end e gains a root of a document. x has the position of the root, and the root's number in the document; n is
-- the number that the first object of the document gets. `was_set` is true if the position is above 0, since the end then has earlier roots
abbrev pub root_notice : ℕ → End → ℕ × ObjectNo → Notice
root_notice n e x =
    record {
      notifier = e.node;
      feature = Some e.feature;
      kind = kind.Add;
      old_value = value.Null;
      new_value = value.Object (loaded_number n x.1);
      position = pos x.0;
      was_set = nat_lt 0 x.0;
    }
