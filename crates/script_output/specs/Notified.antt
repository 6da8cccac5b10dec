-- What is printed about adapters: their notifications, and how many notifications they got and keep.
use Rattle.std.specs.Prelude.{ℕ, List, [], ◌∷◌, ◌++◌, codes}
use Rattle.std.specs.Fmt.{decimal, signed_decimal}
use Rattle.std.specs.Option.{option_map_or}
use Rattle.mm_types.specs.Resolved.{Metamodel}
use Rattle.mm_types.specs.declared.numbers.AdapterNo.{AdapterNo}
use Rattle.mm_types.specs.declared.value.Value.{Value}
use Rattle.notice_chain.specs.Kinds.{kind_name}
use Rattle.notice_chain.specs.declared.kind.NoticeKind.{NoticeKind}
use Rattle.notice_chain.specs.declared.kind.NoticeKind.TheVariants.{RemovingAdapter}
use Rattle.notice_chain.specs.declared.notice.Notice.{Notice}
use Rattle.script_lines.specs.declared.grammar.TheConstants.{SPACE}
use Rattle.script_output.specs.Names.{feature_name, literal_name}
use Rattle.script_output.specs.Printed.{adapter_text, node_text, value_text}
use Rattle.script_output.specs.declared.output.told.TheConstants.{FEATURE_MARK}

-- the end at which the change was made, such as `#0.pages`; only the node, such as `#0`, if the notification has no feature
abbrev pub end_text : Metamodel → Notice → List ℕ
end_text m n = node_text n.notifier ++ option_map_or (λ f. FEATURE_MARK ∷ feature_name m f) n.feature []

-- a value of a notification; if the notification has no feature, a literal is printed without its name
abbrev pub told_value_text : Metamodel → Notice → Value → List ℕ
told_value_text m n v = value_text (option_map_or (λ f. literal_name m f v) n.feature []) v

-- the old value, whose text is `old`; for a notification of the kind REMOVING_ADAPTER, the removed adapter instead
abbrev pub text_before : NoticeKind → List ℕ → List ℕ
text_before (RemovingAdapter number) old = adapter_text number
text_before _ old = old

-- the old value, the new value and the position, such as `100 1 -1`
abbrev pub values_text : Metamodel → Notice → List ℕ
values_text m n = text_before n.kind (told_value_text m n n.old_value) ++ SPACE ∷ told_value_text m n n.new_value ++ SPACE ∷ signed_decimal n.position

-- the end at which the change was made, the values and the position, such as `#0.pages 100 1 -1`
abbrev pub change_text : Metamodel → Notice → List ℕ
change_text m n = end_text m n ++ SPACE ∷ values_text m n

-- the kind of a notification, and what it reports, such as `SET #0.pages 100 1 -1`
abbrev pub report_text : Metamodel → Notice → List ℕ
report_text m n = kind_name n.kind ++ SPACE ∷ change_text m n

-- the line of a notification of an adapter, without its newline, such as `told A1 SET #0.pages 100 1 -1`
abbrev pub notice_text : Metamodel → AdapterNo → Notice → List ℕ
notice_text m number n = codes "told " ++ adapter_text number ++ SPACE ∷ report_text m n

-- how many notifications an adapter got and how many it keeps, such as `3 kept 2`
abbrev pub counts_text : ℕ → ℕ → List ℕ
counts_text told kept = decimal told ++ codes " kept " ++ decimal kept

-- the line of a released adapter, without its newline, such as `released A1 told 1 kept 1`
abbrev pub released_text : AdapterNo → ℕ → ℕ → List ℕ
released_text number told kept = codes "released " ++ adapter_text number ++ codes " told " ++ counts_text told kept

-- how many notifications an adapter got and how many it keeps, such as `seen 3 kept 2`
abbrev pub seen_text : ℕ → ℕ → List ℕ
seen_text told kept = codes "seen " ++ counts_text told kept
