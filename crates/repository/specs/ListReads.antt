-- Reads of a list that do not copy the list.
use Rattle.std.specs.Prelude.{ℕ, List, length, slice_get, ok_or, Result, Ok, Err}
use Rattle.std.specs.Option.{option_map_or}
use Rattle.mm_types.specs.declared.end.End.{End}
use Rattle.mm_types.specs.declared.refused.Refused.{Refused}
use Rattle.mm_types.specs.declared.refused.Refused.TheVariants.{Index, NotMany}
use Rattle.mm_types.specs.declared.value.Value.{Value}
use Rattle.models.specs.Existence.{end_refusal}
use Rattle.models.specs.Reading.{Reading}
use Rattle.repository.specs.Answers.{feature_value_at}
use Rattle.repository.specs.declared.reply.FeatureValue.{FeatureValue}
use Rattle.repository.specs.declared.reply.FeatureValue.TheVariants as feature_value

-- the list of a feature; `NotMany` if the feature is single
abbrev pub list_of : FeatureValue → Result (List Value) Refused
list_of (feature_value.One v) = Err NotMany
list_of (feature_value.Many vs) = Ok vs

-- the list that `get` gives at an end, or the refusal
abbrev pub list_at : Reading → End → Result (List Value) Refused
list_at r e = option_map_or Err (end_refusal r e) (list_of (feature_value_at r e))

-- the result of f for a list, or the refusal if there is no list
abbrev pub of_list : {X : Type 0} → (List Value → Result X Refused) → Result (List Value) Refused → Result X Refused
of_list f (Ok vs) = f vs
of_list f (Err r) = Err r

abbrev pub list_len : Reading → End → Result ℕ Refused
list_len r e = of_list (λ vs. Ok (length vs)) (list_at r e)

abbrev pub list_value : Reading → End → ℕ → Result Value Refused
list_value r e i = of_list (λ vs. ok_or (slice_get vs i) Index) (list_at r e)
