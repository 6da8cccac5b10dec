-- What is printed for a command.
use Rattle.std.specs.Prelude.{ℕ, true, false, List, [], ◌∷◌, ◌++◌, length, option_map, codes, Ok, Err}
use Rattle.std.specs.Fmt.{decimal}
use Rattle.std.specs.List.{flat_map}
use Rattle.mm_types.specs.Resolved.{Metamodel}
use Rattle.mm_types.specs.declared.numbers.AdapterNo.{AdapterNo}
use Rattle.mm_types.specs.declared.numbers.FeatureNo.{FeatureNo}
use Rattle.mm_types.specs.declared.numbers.Node.TheVariants as node
use Rattle.mm_types.specs.declared.refused.Refused.{Refused}
use Rattle.mm_types.specs.declared.value.Value.{Value}
use Rattle.notice_chain.specs.View.{View}
use Rattle.notice_chain.specs.declared.notice.Notice.{Notice}
use Rattle.repository.specs.Views.{Outcome}
use Rattle.repository.specs.declared.command.Command.{Command}
use Rattle.repository.specs.declared.command.Command.TheVariants as command
use Rattle.mm_types.specs.declared.read.Read.TheVariants as read
use Rattle.repository.specs.declared.reply.Answer.{Answer}
use Rattle.repository.specs.declared.reply.Answer.TheVariants as answer
use Rattle.script_lines.specs.declared.grammar.TheConstants.{NEWLINE}
use Rattle.script_output.specs.Names.{literal_name}
use Rattle.script_output.specs.Notified.{notice_text, released_text}
use Rattle.script_output.specs.Printed.{class_text, features_text, holder_text, json_text, list_text, node_text, objects_text, refused_text, value_text}
use Rattle.script_program.specs.declared.bind.TheConstants.{NOTHING}

-- the feature that a command names; if the command names none, the number NOTHING, which no feature has
abbrev pub feature_of : Command View → FeatureNo
feature_of (command.At e a) = e.feature
feature_of (command.Read (read.At e q)) = e.feature
feature_of _ = record { 0 = NOTHING }

-- the text that says how many proxies were resolved, and how many are left
abbrev pub resolved_text : ℕ → ℕ → List ℕ
resolved_text done left = codes "resolved " ++ (decimal done ++ (codes " left " ++ decimal left))

-- the text of an answer to a command; f is the value of `feature_of` for the command
abbrev pub answer_text : Metamodel → FeatureNo → Answer → List ℕ
answer_text m f answer.Done = codes "ok"
answer_text m f (answer.Object o) = node_text (node.Object o)
answer_text m f (answer.Value v) = value_text (literal_name m f v) v
answer_text m f (answer.Values vs) = list_text m f vs
answer_text m f (answer.Flag true) = codes "true"
answer_text m f (answer.Flag false) = codes "false"
answer_text m f (answer.Class c) = class_text m c
answer_text m f (answer.Count n) = decimal n
answer_text m f (answer.Destroyed n) = codes "deleted " ++ decimal n
answer_text m f (answer.Loaded n) = codes "loaded " ++ decimal n
answer_text m f (answer.Resolved done left) = resolved_text done left
answer_text m f (answer.Resource k) = node_text (node.Resource k)
answer_text m f (answer.Container o) = holder_text (option_map node.Object o)
answer_text m f (answer.Features fs) = features_text m fs
answer_text m f (answer.Found o) = holder_text (option_map node.Object o)
answer_text m f (answer.Fragment t) = json_text t
answer_text m f (answer.Document t) = t
answer_text m f (answer.Within k) = holder_text (option_map node.Resource k)
answer_text m f (answer.Objects os) = objects_text os
answer_text m f (answer.Snapshot xs) = codes "snapshot " ++ decimal (length xs)

abbrev pub answer_line : Metamodel → FeatureNo → Answer → List ℕ
answer_line m f a = answer_text m f a ++ NEWLINE ∷ []

-- a line for each notification of a reply, with the number of the adapter that got the notification
abbrev pub told_text : Metamodel → List (AdapterNo × Notice) → List ℕ
told_text m told = flat_map (λ t. notice_text m t.0 t.1 ++ NEWLINE ∷ []) told

-- a line for each adapter that was released
abbrev pub all_released_text : List (AdapterNo × View) → List ℕ
all_released_text released = flat_map (λ b. released_text b.0 b.1.told (length b.1.kept) ++ NEWLINE ∷ []) released

abbrev pub notified_text : Metamodel → List (AdapterNo × Notice) → List (AdapterNo × View) → List ℕ
notified_text m told released = told_text m told ++ all_released_text released

-- the line that a refusal prints
abbrev pub refusal_line : Refused → List ℕ
refusal_line r = refused_text r ++ NEWLINE ∷ []

-- the lines that a command prints, by its outcome; f is the value of `feature_of` for the command
abbrev pub outcome_text : Metamodel → FeatureNo → Outcome → List ℕ
outcome_text m f (Ok r) = answer_line m f r.answer ++ notified_text m r.told r.released
outcome_text m f (Err e) = refusal_line e.refused

-- the line that a command prints if it is done, notifies no adapter and releases no adapter
abbrev pub unheard_text : Metamodel → FeatureNo → Answer → List ℕ
unheard_text m f a = outcome_text m f (Ok (record { answer = a; told = []; released = [] }))

-- the line that a read of one value of a feature prints
abbrev pub read_text : Metamodel → FeatureNo → Value → List ℕ
read_text m f v = unheard_text m f (answer.Value v)
