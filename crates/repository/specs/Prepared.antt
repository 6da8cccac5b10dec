-- A change that is ready to be made.
use Rattle.std.specs.Prelude.{◌≡◌, ℕ, Bool, List, None}
use Rattle.mm_values.specs.Values as values
use Rattle.mm_values.specs.declared.value_edit.ValueEdit.{ValueEdit}
use Rattle.links.specs.Plans as links
use Rattle.links.specs.declared.plan.Edit.{Edit}
use Rattle.models.specs.Legal.{kinds_of}
use Rattle.models.specs.Model.{Model}
use Rattle.notice_chain.specs.Listed.{Above, Listed, is_chain_full, tell_chain, told_list}
use Rattle.notice_chain.specs.Released.{Spot}
use Rattle.notice_chain.specs.declared.notice.Notice.{Notice}
use Rattle.change_plans.specs.Plans.{IsPlanOf}
use Rattle.change_plans.specs.declared.planned.Finding.{Finding}
use Rattle.handshake.specs.Effects.{model_after}
use Rattle.handshake.specs.FeatureChanges.{chain}
use Rattle.handshake.specs.Refusals.{early_refusal, late_refusal}
use Rattle.handshake.specs.declared.change.Change.{Change}
use Rattle.repository.specs.Answers.{answer_of}
use Rattle.repository.specs.Leaving.{going_with}
use Rattle.repository.specs.Proper.{IsProper}
use Rattle.repository.specs.State.{State, reads}
use Rattle.repository.specs.Views.{command_of}
use Rattle.repository.specs.declared.reply.Answer.{Answer}

-- delivering `made` to the adapters rs has the same effect as delivering the whole chain `chain`; so `made` may lack notifications that no
-- adapter gets
pub record TellsAll (up : Above) (made chain : List Notice) (rs : List Listed) : Type 0 where
  pub told : told_list up made rs ≡ told_list up chain rs
  pub adapters : tell_chain up made rs ≡ tell_chain up chain rs
  pub full : is_chain_full up made rs ≡ is_chain_full up chain rs

-- the edits es of links, the edits vs of values and the notifications ns are, with some finding, a plan of the change c in the model m. If
-- `is_heard` is false, ns is empty
abbrev pub IsPlanned : Bool → Model → Change → List Edit → List ValueEdit → List Notice → Type 0
IsPlanned is_heard m c es vs ns = (f : Finding) × IsPlanOf is_heard m c (record { finding = f; edits = es; values = vs; chain = ns })

-- the change c is ready in the state s: c can be refused only with `AdapterFull` or `Memory`. `text` is the text that c loads, if c is a
-- load; a is the answer of c, and `going` has the targets that c takes away. es and vs are the edits of links and of values that make c. ns
-- has the notifications of c; those that no adapter gets may be missing
pub record IsReady (s : State) (text : List ℕ) (c : Change) (a : Answer) (going : List Spot) (es : List Edit) (vs : List ValueEdit) (ns : List Notice) : Type 0 where
  pub asked : early_refusal (reads s) c ≡ None
  pub allowed : late_refusal (reads s) c ≡ None
  pub proper : IsProper (reads s) text c
  pub answered : a ≡ answer_of (reads s) s.adapters (command_of text c)
  pub spots : going ≡ going_with (reads s) s.adapters c
  pub fits : links.PlanFits s.model.links es
  pub of_kind : links.IsPlanOfKind (kinds_of s.model.metamodel) es
  pub links_made : links.links_after_edits s.model.links es ≡ (model_after s.model c).links
  pub values_made : values.values_after_edits s.model.values vs ≡ (model_after s.model c).values
  pub tells : TellsAll (reads s).above ns (chain (reads s) c) s.adapters
