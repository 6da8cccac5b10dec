-- Changes of ends, and the notifications that report these changes. If a gain or a loss at a list names no index, its position is computed
-- for the notification. Each notification is computed from the ends as they are after the earlier notifications are replayed.
use Rattle.std.specs.Prelude.{ℤ, pos, Bool, false, List, [], ◌∷◌, ◌++◌, length, Some, if◌then◌else◌}
use Rattle.mm_types.specs.Resolved.{Metamodel}
use Rattle.mm_types.specs.Same.{same_value}
use Rattle.mm_types.specs.Shapes.{Shape, shape}
use Rattle.mm_types.specs.Ends.{Ends, Held, index_in, is_set, value_in, with_held}
use Rattle.mm_types.specs.declared.numbers.FeatureNo.{FeatureNo}
use Rattle.mm_types.specs.declared.end.End.{End}
use Rattle.mm_types.specs.declared.value.Value.{Value}
use Rattle.mm_types.specs.declared.value.Value.TheVariants as value
use Rattle.notice_chain.specs.declared.kind.NoticeKind.{NoticeKind}
use Rattle.notice_chain.specs.declared.kind.NoticeKind.TheVariants as kind
use Rattle.notice_chain.specs.declared.notice.Notice.{Notice}
use Rattle.models.specs.Reading.{Reading, held_at, shape_at}
use Rattle.notice_chain.specs.Kinds.{no_index}
use Rattle.notice_chain.specs.Replay.{ends_after_notice, list_after_add, list_after_position_move, list_after_remove, list_after_resolve}
use Rattle.handshake.specs.declared.change_kind.ChangeKind.{ChangeKind}
use Rattle.handshake.specs.declared.change_kind.ChangeKind.TheVariants.{Gains, GainsAt, Loses, LosesAt, Unsets, Moves, Resolves}
use Rattle.handshake.specs.declared.change_kind.FeatureChange.{FeatureChange}

abbrev pub feature_change : End → ChangeKind → FeatureChange
feature_change e h = record { at = e; does = h }

---------------------------------------------------------------- the notification of a feature change

-- the notification of the kind k at the end e, with an old value, a new value and the position p; a is the shape of the end's feature, and
-- h is what the end holds before the change
abbrev pub notice : Shape → End → Held → NoticeKind → Value → Value → ℤ → Notice
notice a e h k old new p =
    record { notifier = e.node; feature = Some e.feature; kind = k; old_value = old; new_value = new; position = p; was_set = is_set a h }

abbrev pub notice_of : Shape → End → ChangeKind → Held → Notice
notice_of a e (Gains v) h =
    if a.is_single then notice a e h kind.Set (value_in h.values 0) v no_index
    else notice a e h kind.Add value.Null v (pos (length h.values))
notice_of a e (GainsAt i v) h = notice a e h kind.Add value.Null v (pos i)
notice_of a e (Loses v) h =
    if a.is_single then notice a e h kind.Set v value.Null no_index
    else notice a e h kind.Remove v value.Null (pos (index_in h.values v))
notice_of a e (LosesAt i) h = notice a e h kind.Remove (value_in h.values i) value.Null (pos i)
notice_of a e Unsets h = notice a e h kind.Unset (value_in h.values 0) a.default no_index
notice_of a e (Moves to from) h = notice a e h kind.Move (value.Int (pos from)) (value_in h.values from) (pos to)
notice_of a e (Resolves i v) h = notice a e h kind.Resolve (value_in h.values i) v (if a.is_single then no_index else pos i)

-- the notification of a feature change, computed from what the ends of a model hold
abbrev pub notice_at : Reading → FeatureChange → Notice
notice_at r t = notice_of (shape_at r t.at) t.at t.does (held_at r t.at)

-- whether a feature has a set flag
abbrev pub has_flag : Metamodel → FeatureNo → Bool
has_flag m f = (shape m f).is_unsettable

-- the notifications of feature changes; e is what the ends hold before the first feature change. Each notification is computed from what
-- the ends hold after the earlier notifications are replayed
abbrev pub change_notices : Metamodel → Ends → List FeatureChange → List Notice
change_notices m e [] = []
change_notices m e (t ∷ ts) =
    let n = notice_of (shape m t.at.feature) t.at t.does (e t.at) in
    n ∷ change_notices m (ends_after_notice (has_flag m) e n) ts

---------------------------------------------------------------- what a feature change does, without its notification

-- the list without the first occurrence of a value
abbrev pub list_without_value : List Value → Value → List Value
list_without_value [] v = []
list_without_value (w ∷ ws) v = if same_value v w then ws else w ∷ list_without_value ws v

-- the values of an end after a feature change
abbrev pub values_after_change : Shape → ChangeKind → List Value → List Value
values_after_change a (Gains v) vs = if a.is_single then v ∷ [] else vs ++ v ∷ []
values_after_change a (GainsAt i v) vs = list_after_add vs (pos i) v
values_after_change a (Loses v) vs = if a.is_single then value.Null ∷ [] else list_without_value vs v
values_after_change a (LosesAt i) vs = list_after_remove vs (pos i)
values_after_change a Unsets vs = a.default ∷ []
values_after_change a (Moves to from) vs = list_after_position_move vs (pos from) (pos to)
values_after_change a (Resolves i v) vs = if a.is_single then v ∷ [] else list_after_resolve vs (pos i) v

-- the set flag of an end after a feature change. A gain or a loss at a single end turns the flag on if the end is unsettable, and off if it
-- is not. Unsetting turns the flag off. Any other feature change leaves the flag as it is
abbrev pub flag_after_change : Shape → ChangeKind → Bool → Bool
flag_after_change a (Gains v) b = if a.is_single then a.is_unsettable else b
flag_after_change a (GainsAt i v) b = b
flag_after_change a (Loses v) b = if a.is_single then a.is_unsettable else b
flag_after_change a (LosesAt i) b = b
flag_after_change a Unsets b = false
flag_after_change a (Moves to from) b = b
flag_after_change a (Resolves i v) b = b

abbrev pub ends_after_change : Metamodel → Ends → FeatureChange → Ends
ends_after_change m e t =
    let a = shape m t.at.feature in
    with_held e t.at (record { values = values_after_change a t.does (e t.at).values; flag = flag_after_change a t.does (e t.at).flag })

abbrev pub ends_after_changes : Metamodel → Ends → List FeatureChange → Ends
ends_after_changes m e [] = e
ends_after_changes m e (t ∷ ts) = ends_after_changes m (ends_after_change m e t) ts
