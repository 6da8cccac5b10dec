-- The nodes at which feature changes have notifications.
use Rattle.std.proofs.Common.{◌≡◌, Bool, true, false, List, [], ◌∷◌, if◌then◌else◌, refl, sym, subst}
use Rattle.std.specs.List.{AllByRecursion}
use Rattle.mm_types.specs.Ends.{Ends, Held}
use Rattle.mm_types.specs.Resolved.{Metamodel}
use Rattle.mm_types.specs.Shapes.{Shape, shape}
use Rattle.mm_types.specs.declared.end.End.{End}
use Rattle.mm_types.specs.declared.numbers.Node.{Node}
use Rattle.notice_chain.specs.Replay.{ends_after_notice}
use Rattle.notice_chain.specs.declared.notice.Notice.{Notice}
use Rattle.handshake.specs.FeatureChange.{change_notices, has_flag, notice_of}
use Rattle.handshake.specs.declared.change_kind.ChangeKind.{ChangeKind}
use Rattle.handshake.specs.declared.change_kind.ChangeKind.TheVariants.{Gains, GainsAt, Loses, LosesAt, Unsets, Moves, Resolves}
use Rattle.handshake.specs.declared.change_kind.FeatureChange.{FeatureChange}

chosen-notifier : (b : Bool) (m n : Notice) (x : Node) → m.notifier ≡ x → n.notifier ≡ x → (if b then m else n).notifier ≡ x
chosen-notifier true m n x first second = first
chosen-notifier false m n x first second = second

-- a notification is of the node of its end
notifier-of : (a : Shape) (e : End) (k : ChangeKind) (h : Held) → (notice_of a e k h).notifier ≡ e.node
notifier-of a e (Gains v) h = chosen-notifier a.is_single _ _ e.node refl refl
notifier-of a e (GainsAt i v) h = refl
notifier-of a e (Loses v) h = chosen-notifier a.is_single _ _ e.node refl refl
notifier-of a e (LosesAt i) h = refl
notifier-of a e Unsets h = refl
notifier-of a e (Moves to from) h = refl
notifier-of a e (Resolves i v) h = refl

-- a property of the nodes of feature changes holds for the notifiers of their notifications
pub change_notices-notifiers : (P : Node → Type 0) (m : Metamodel) (e : Ends) (ts : List FeatureChange) → AllByRecursion (λ (t : FeatureChange). P t.at.node) ts → AllByRecursion (λ (n : Notice). P n.notifier) (change_notices m e ts)
change_notices-notifiers P m e [] h = tt
change_notices-notifiers P m e (t ∷ ts) h =
    let n = notice_of (shape m t.at.feature) t.at t.does (e t.at) in
    (subst P (sym (notifier-of (shape m t.at.feature) t.at t.does (e t.at))) h.0, change_notices-notifiers P m (ends_after_notice (has_flag m) e n) ts h.1)
