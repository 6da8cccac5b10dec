-- The adapters that a command gives back.
use Rattle.std.proofs.Common.{◌∷◌, ◌≡◌, ◌∙◌, [], List, Option, Result, Ok, Err, map, refl, sym, ap, subst}
use Rattle.std.specs.Prelude.{ℕ, fold, IfOk}
use Rattle.std.proofs.lemmas.Result.{IfOk-weaker}
use Rattle.std.specs.Option.{option_map_or, option_zip}
use Rattle.std.proofs.lemmas.List.Elements.{All-cons, All-head, All-nil}
use Rattle.notice_chain.specs.View.{View}
use Rattle.notice_chain.specs.Listed.{Listed}
use Rattle.mm_types.specs.declared.numbers.Node.{Node}
use Rattle.mm_types.specs.declared.refused.Refused.{Refused}
use Rattle.repository.specs.Run.{Executed, read_outcome}
use Rattle.repository.specs.State.{State}
use Rattle.repository.specs.Step.{attached_adapters}
use Rattle.repository.specs.Views.{Outcome, brought_adapter}
use Rattle.repository.specs.declared.command.Command.{Command}
use Rattle.repository.specs.declared.command.Command.TheVariants.{Attach}
use Rattle.repository.specs.declared.reply.Answer.{Answer}
use Rattle.repository.proofs.RunLemmas.{refused-nothing}
use Rattle.script_lines.specs.declared.form.Form.{Form}
use Rattle.script_lines.specs.declared.form.FeatureForm.{FeatureForm}
use Rattle.script_lines.specs.declared.form.FeatureForm.TheVariants as feature
use Rattle.script_lines.specs.declared.form.Form.TheVariants as asks
use Rattle.script_program.specs.Bind.{IsGiven, at_command, attach_request, bind, named_end}
use Rattle.script_program.specs.Pool.{Pool, box_of, pool_without, with_box}
use Rattle.script_program.specs.Script.{Adds}
use Rattle.script_program.specs.Session.{IsBrought, Session, brought_no, pool_after, pool_after_return, pool_after_take}
use Rattle.script_answers.specs.Turns.{Printed}
use Rattle.script_answers.specs.declared.turn.Turn.{Turn}
use Rattle.script_program.proofs.PoolLemmas.{put-back}

-- a command that takes no adapter and releases none leaves the pool as it is
pub unheard-pool : {X : Type 0} (pool : Pool) (c : Command View) (f : X → Answer) (r : Result X Refused) → attached_adapters c ≡ [] → pool ≡ pool_after pool c (read_outcome f r)
unheard-pool pool c f (Ok x) alone = ap (λ (js : List Listed). fold pool_without pool (map (λ a. a.no) js)) (sym alone)
unheard-pool pool c f (Err e) alone = refl

-- after the adapter of a command is put back, the pool is as it was
undone : (before : Pool) (c : Command View) → IsBrought before c → option_map_or (with_box (pool_after_take before c)) (option_zip (brought_no c) (brought_adapter c)) (pool_after_take before c) ≡ before
undone before (Attach number target deep view) h = put-back before number view (All-head (λ (a : Listed). box_of before a.no ≡ Ok a.view) (record { no = number; targets = record { node = target; deep = deep } ∷ []; view = view }) [] h)
undone before _ h = refl

pub pool_after_return-after : (before : Pool) (s t : State) (c : Command View) (o : Outcome) → IsBrought before c → Executed s c o t → pool_after_return (pool_after_take before c) (brought_no c) o ≡ pool_after before c o
pool_after_return-after before s t c (Ok r) h x = refl
pool_after_return-after before s t c (Err f) h x =
    ap (λ (back : Option View). option_map_or (with_box (pool_after_take before c)) (option_zip (brought_no c) back) (pool_after_take before c)) (refused-nothing s t c f x).1 ∙ undone before c h

at-given : (s : Session) (n : Node) (name : List ℕ) (f : FeatureForm) → IsBrought s.pool (at_command s.state.model.metamodel (named_end s.state n name) f)
at-given s n name (feature.Read q) = All-nil (λ (a : Listed). box_of s.pool a.no ≡ Ok a.view)
at-given s n name _ = All-nil (λ (a : Listed). box_of s.pool a.no ≡ Ok a.view)

-- the adapter that a form takes is in the pool
pub bind-given : (s : Session) (f : Form) → IsGiven s.pool (bind s f)
bind-given s (asks.Attach number target deep) =
    elim (box_of s.pool number) as (λ r. box_of s.pool number ≡ r → IsGiven s.pool (attach_request r number target deep)) [
      | Ok v ↦ λ e. All-cons (λ (a : Listed). box_of s.pool a.no ≡ Ok a.view) _ [] e (All-nil (λ (a : Listed). box_of s.pool a.no ≡ Ok a.view))
      | Err r ↦ λ e. tt
    ] refl
bind-given s (asks.Seen number) = tt
bind-given s (asks.At n name f) = at-given s n name f
bind-given s _ = All-nil (λ (a : Listed). box_of s.pool a.no ≡ Ok a.view)

-- a fact about an added text, in another form
pub adds-run : {E : Type 0} (r : Result Turn E) (old new : List ℕ) (P Q : Printed → Type 0) → ((p : Printed) → P p → Q p) → IfOk r (λ t. Adds old new t P) → IfOk r (λ t. Adds old new t Q)
adds-run r old new P Q so h = IfOk-weaker r (λ t. Adds old new t P) (λ t. Adds old new t Q) (λ t a. record { text = a.text; added = a.added; said = so _ a.said }) h

-- a text that is added to an empty output is the whole output
pub said-alone : {E : Type 0} (r : Result Turn E) (new : List ℕ) (P : Printed → Type 0) → IfOk r (λ t. Adds [] new t P) → IfOk r (λ t. P (record { text = new; turn = t }))
said-alone r new P h = IfOk-weaker r (λ t. Adds [] new t P) (λ t. P (record { text = new; turn = t })) (λ t a. subst (λ (x : List ℕ). P (record { text = x; turn = t })) (sym a.added) a.said) h
