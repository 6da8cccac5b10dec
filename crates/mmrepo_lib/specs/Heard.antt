-- What an adapter was notified of, according to the replies of commands.
use Rattle.std.specs.Prelude.{◌≡◌, List, [], ◌∷◌, ◌++◌, Option, Some, None, Ok, Err, option_map, if◌then◌else◌}
use Rattle.std.specs.List.{find}
use Rattle.std.specs.Option.{option_map_or}
use Rattle.mm_types.specs.declared.numbers.AdapterNo.{AdapterNo}
use Rattle.notice_chain.specs.Listed.{Listed, adapter, same_no}
use Rattle.notice_chain.specs.View.{View, hear_all}
use Rattle.notice_chain.specs.declared.notice.Notice.{Notice}
use Rattle.repository.specs.State.{State, IsLegal}
use Rattle.repository.specs.Step.{Stepped, step}
use Rattle.repository.specs.Views.{Outcome}
use Rattle.repository.specs.declared.command.Command.{Command}

-- the notifications of a list that are for the adapter with this number
abbrev pub told_to : AdapterNo → List (AdapterNo × Notice) → List Notice
told_to number [] = []
told_to number (t ∷ ts) = if same_no number t.0 then t.1 ∷ told_to number ts else told_to number ts

-- the notifications that an outcome lists, each with the number of the adapter that was notified; none if the command was refused.
-- `told_by_all`: the notifications of all outcomes of a list, in order
abbrev pub told_by : Outcome → List (AdapterNo × Notice)
told_by (Ok r) = r.told
told_by (Err f) = []

abbrev pub told_by_all : List Outcome → List (AdapterNo × Notice)
told_by_all [] = []
told_by_all (o ∷ os) = told_by o ++ told_by_all os

-- the numbers and views of the attached adapters that an outcome gives back; none if the command was refused
abbrev pub handed_out_by : Outcome → List (AdapterNo × View)
handed_out_by (Ok r) = r.released
handed_out_by (Err f) = []

-- the view of the adapter with this number, if it is among the adapters that are given back
abbrev pub handed_out : AdapterNo → List (AdapterNo × View) → Option View
handed_out number vs = option_map (λ (v : AdapterNo × View). v.1) (find (λ (v : AdapterNo × View). same_no number v.0) vs)

-- the view of the adapter with this number, if it is attached or given back
abbrev pub view_among : AdapterNo → List Listed → List (AdapterNo × View) → Option View
view_among number rs vs = option_map_or (λ (a : Listed). Some a.view) (adapter number rs) (handed_out number vs)

abbrev pub view_after : AdapterNo → Stepped → Option View
view_after number t = view_among number t.after.adapters (handed_out_by t.outcome)

-- In a legal state: if an adapter is attached before a command, the command notifies it of exactly the notifications that the reply has for
-- this adapter, in order, whether the adapter is still attached after the command or is given back.
abbrev pub HearsItsReply : State → Command View → AdapterNo → Listed → Type 0
HearsItsReply s c number a =
    IsLegal s → adapter number s.adapters ≡ Some a → view_after number (step s c) ≡ Some (hear_all a.view (told_to number (told_by (step s c).outcome)))
