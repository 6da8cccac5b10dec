-- Notifications are enough: replayed on a snapshot of a deep target, the notifications of an adapter give the later state of that target,
-- and of each node that stays below it.
use Rattle.std.specs.Prelude.{◌≡◌, ◌&&◌, Bool, true, false, IsTrue, List, [], ◌∷◌, drop, length, Some, None}
use Rattle.std.specs.List.{list_any}
use Rattle.std.specs.Option.{option_map_or}
use Rattle.mm_types.specs.Same.{same_node}
use Rattle.mm_types.specs.declared.end.End.{End}
use Rattle.mm_types.specs.declared.numbers.AdapterNo.{AdapterNo}
use Rattle.mm_types.specs.declared.numbers.Node.{Node}
use Rattle.models.specs.Legal as models
use Rattle.models.specs.Model.{Model, reading}
use Rattle.models.specs.Reading.{held_at, is_within}
use Rattle.notice_chain.specs.Listed.{Listed, adapter}
use Rattle.notice_chain.specs.Replay.{ends_after_notices}
use Rattle.notice_chain.specs.View.{View}
use Rattle.handshake.specs.FeatureChange.{has_flag}
use Rattle.notice_chain.specs.declared.notice.Notice.{Notice}
use Rattle.mmrepo_lib.specs.Heard.{handed_out, handed_out_by, told_by_all, told_to}
use Rattle.repository.specs.Refusals.{chain}
use Rattle.repository.specs.Run.{run}
use Rattle.repository.specs.State.{State, IsLegal, is_there, reads}
use Rattle.repository.specs.Step.{adapters_at_close, refusal_of, step}
use Rattle.repository.specs.declared.command.Command.{Command}
use Rattle.repository.specs.declared.command.Command.TheVariants.{Detach}
use Rattle.snapshots.specs.Replayed.{replayed_notices, state_at}
use Rattle.snapshots.specs.Snapshots.{node_state, snapshot_of}

-- If the notifications of a command are replayed on the values and the set flag that an end has before the command, the result is the
-- values and the set flag that the end has after the command. This is so in a legal state, if the command is not refused, and the end's
-- node exists both before and after the command.
abbrev pub ChainReplays : State → Command View → Type 0
ChainReplays s c =
    IsLegal s → refusal_of s c ≡ None
    → (d : End) → IsTrue (is_there (reads s) d.node) → IsTrue (is_there (reads (step s c).after) d.node)
    → ends_after_notices (has_flag s.model.metamodel) (held_at (reads s)) (chain (reads s) c) d ≡ held_at (reads (step s c).after) d

-- in a legal model, a snapshot of the node `target`, which exists, has the state of each node n that is `target` or below `target`
abbrev pub HasEachNode : Model → Node → Node → Type 0
HasEachNode s target n =
    models.IsLegal s → IsTrue (is_there (reading s) target) → is_within (reading s) target n ≡ true → state_at n (snapshot_of (reading s) target) ≡ Some (node_state (reading s) n)

---------------------------------------------------------------- over a list of commands

-- P is true of each state of a run: of the first, and of the state after each command
abbrev pub AllAlong : (State → Type 0) → State → List (Command View) → Type 0
AllAlong P s [] = P s
AllAlong P s (c ∷ cs) = P s × AllAlong P (step s c).after cs

-- whether a node is a deep target of an adapter
abbrev pub is_deep_of : Node → Listed → Bool
is_deep_of target a = list_any (λ t. t.deep && same_node t.node target) a.targets

-- whether a node is a deep target of the attached adapter that has this number
abbrev pub is_deep_target : AdapterNo → Node → State → Bool
is_deep_target number target s = option_map_or (is_deep_of target) (adapter number s.adapters) false

abbrev pub HasDeepTarget : AdapterNo → Node → State → Type 0
HasDeepTarget number target s = IsTrue (is_deep_target number target s)

-- a node is the target or below it
abbrev pub IsAtOrBelow : Node → Node → State → Type 0
IsAtOrBelow target n s = is_within (reads s) target n ≡ true

-- The notifications `ns`, replayed on a snapshot of the target before a run, give the node n the state that n has in a snapshot of the
-- target after the run.
abbrev pub AreEnough : State → List (Command View) → Node → Node → List Notice → Type 0
AreEnough s cs target n ns = state_at n (replayed_notices (snapshot_of (reads s) target) ns) ≡ state_at n (snapshot_of (reads (run s cs).after) target)

-- `Holds` is true if these conditions apply: the state s before a run is legal; in s the adapter a is attached, under the number `number`;
-- and in each state of the run, the adapter with this number has the node `target` as a deep target, and the node n is `target` or below
-- `target`. Other targets of the adapter may come and go.
abbrev pub OfWatched : State → List (Command View) → AdapterNo → Node → Listed → Node → Type 0 → Type 0
OfWatched s cs number target a n Holds =
    IsLegal s → adapter number s.adapters ≡ Some a → AllAlong (HasDeepTarget number target) s cs → AllAlong (IsAtOrBelow target n) s cs → Holds

-- under the conditions of `OfWatched`, the adapter's notifications in the replies of the run are enough (`AreEnough`), however many
-- notifications the adapter keeps
abbrev pub ToldIsEnough : State → List (Command View) → AdapterNo → Node → Listed → Node → Type 0
ToldIsEnough s cs number target a n = OfWatched s cs number target a n (AreEnough s cs target n (told_to number (told_by_all (run s cs).outcomes)))

-- v is an adapter's view before a run, and w a later view of this adapter: if the adapter keeps all notifications, the notifications in w
-- that come after those of v are enough for the run (`AreEnough`)
abbrev pub KeepsEnough : State → List (Command View) → Node → Node → View → View → Type 0
KeepsEnough s cs target n v w = v.room ≡ None → AreEnough s cs target n (drop (length v.kept) w.kept)

-- under the conditions of `OfWatched`: if the adapter keeps all notifications and is still attached after the run, the notifications that
-- it has kept since the beginning of the run are enough
abbrev pub NoticesAreEnough : State → List (Command View) → AdapterNo → Node → Listed → Listed → Node → Type 0
NoticesAreEnough s cs number target a b n = OfWatched s cs number target a n (adapter number (run s cs).after.adapters ≡ Some b → KeepsEnough s cs target n a.view b.view)

-- under the conditions of `OfWatched`: if the adapter keeps all notifications and is detached after the run, the notifications that it has
-- kept since the beginning of the run are enough
abbrev pub DetachedKeepsEnough : State → List (Command View) → AdapterNo → Node → Listed → View → Node → Type 0
DetachedKeepsEnough s cs number target a w n =
    OfWatched s cs number target a n (handed_out number (handed_out_by (step (run s cs).after (Detach number)).outcome) ≡ Some w → KeepsEnough s cs target n a.view w)

-- under the conditions of `OfWatched`: if the adapter keeps all notifications, and the repository is closed after the run, the
-- notifications that the adapter has kept since the beginning of the run are enough
abbrev pub ClosedKeepsEnough : State → List (Command View) → AdapterNo → Node → Listed → View → Node → Type 0
ClosedKeepsEnough s cs number target a w n = OfWatched s cs number target a n (handed_out number (adapters_at_close (run s cs).after) ≡ Some w → KeepsEnough s cs target n a.view w)
