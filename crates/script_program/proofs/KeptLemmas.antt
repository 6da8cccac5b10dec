-- Whether a journal keeps a line, and the model that the line leaves when it is run again.
use Rattle.std.proofs.Common.{◌≡◌, ◌∙◌, ◌++◌, inl, inr, ℕ, Bool, true, false, List, [], ◌∷◌, Option, Some, None, Ok, Err, Result, refl, sym, ap, ap₂, subst, if◌then◌else◌}
use Rattle.std.specs.Prelude.{MatchBool, option_and_then}
use Rattle.std.proofs.lemmas.Bool.{both_ways, cases_Bool}
use Rattle.durable.specs.Printed as durable
use Rattle.mm_types.specs.Resolved.{Metamodel}
use Rattle.mm_types.specs.declared.numbers.AdapterNo.{AdapterNo}
use Rattle.mm_types.specs.declared.numbers.Node.{Node}
use Rattle.mm_types.specs.declared.refused.Refused.{Refused}
use Rattle.models.specs.Model.{Model}
use Rattle.notice_chain.specs.Listed.{Listed}
use Rattle.notice_chain.specs.View.{View}
use Rattle.repository.specs.Run.{Executed, IsWanting, is_memory}
use Rattle.repository.specs.State.{state_of_model, State}
use Rattle.repository.specs.Step.{Stepped, step}
use Rattle.repository.specs.Views.{Outcome}
use Rattle.repository.specs.declared.command.Command.{Command}
use Rattle.repository.specs.declared.reply.Failure.{Failure}
use Rattle.repository.proofs.RunLemmas.{refused-nothing}
use Rattle.script_lines.specs.Forms.{form}
use Rattle.script_lines.specs.declared.form.FeatureForm.{FeatureForm}
use Rattle.script_lines.specs.declared.form.FeatureForm.TheVariants as feature
use Rattle.script_lines.specs.declared.form.Form.TheVariants as asks
use Rattle.script_lines.specs.declared.line.Line.{Line}
use Rattle.script_lines.specs.declared.line.Line.TheVariants as line
use Rattle.repository.specs.Alone.{is_change}
use Rattle.script_program.specs.Bind.{at_command, attach_request, named_end}
use Rattle.script_program.specs.Kept.{RunsJournaled, asks_change, edits, journal_printed, journal_turn, kept_lines, line_asks, model_after_line, model_after_lines, model_after_request, model_if_done, model_of}
use Rattle.script_program.specs.Live.{live_text}
use Rattle.script_program.specs.Pool.{box_of}
use Rattle.script_program.specs.Script.{RunsCommand, RunsLine, RunsLines, RunsRequest, command_printed}
use Rattle.script_program.specs.Session.{Session}
use Rattle.script_answers.specs.Turns.{Printed}
use Rattle.script_program.specs.declared.request.Request.TheVariants as request
use Rattle.script_answers.specs.declared.turn.Turn.{Turn}
use Rattle.script_answers.specs.declared.turn.Turn.TheVariants as turned
use Rattle.repository.proofs.AloneLemmas.{comes_back, keeps_model}

-- A line was run, which is a change or not. If it counts as kept, it leaves the model `after`, and otherwise the model from before. Without
-- adapters before it, there are none afterwards. Without adapters, a change that can be done and does not count as kept was refused for
-- memory.
record Counts (s u : Session) (asked : Bool) (after : Option Model) (turn : Turn) : Type 0 where
  pub again : durable.is_kept (journal_turn asked turn) ≡ true → after ≡ Some u.state.model
  pub other : durable.is_kept (journal_turn asked turn) ≡ false → u.state.model ≡ s.state.model
  pub lone : s.state.adapters ≡ [] → durable.is_kept (journal_turn asked turn) ≡ true → u.state.adapters ≡ []
  pub lost : (m : Model) → s.state.adapters ≡ [] → after ≡ Some m → durable.is_kept (journal_turn asked turn) ≡ false → durable.is_lost (journal_turn asked turn) ≡ true

-- ---- what asks for no change

never_kept : (t : Turn) → durable.is_kept (journal_turn false t) ≡ false
never_kept turned.Blank = refl
never_kept turned.Bad = refl
never_kept turned.Done = refl
never_kept turned.Refused = refl
never_kept turned.Lost = refl

other_counts : (s u : Session) (t : Turn) → u.state.model ≡ s.state.model → Counts s u false None t
other_counts s u t same = record {
  again = λ is. absurd (both_ways _ (never_kept t) is);
  other = λ _. same;
  lone = λ _ is. absurd (both_ways _ (never_kept t) is);
  lost = λ m _ none. absurd (cc none);
}

other_of : (s u : Session) (c : Command View) (o : Outcome) → is_change c ≡ false → Executed s.state c o u.state → u.state.model ≡ s.state.model
other_of s u c (Ok r) is x = ap (λ (y : Stepped). y.after.model) (sym x) ∙ keeps_model s.state c is
other_of s u c (Err f) is x = ap (λ y. y.model) (refused-nothing s.state u.state c f x).0

other_one : (s u : Session) (c : Command View) (p : Printed) → is_change c ≡ false → RunsCommand s c p u → u.state.model ≡ s.state.model
other_one s u c p is run = other_of s u c run.outcome is run.executed

attach_one : (s u : Session) (box : Result View Refused) (number : AdapterNo) (target : Node) (deep : Bool) (p : Printed) → RunsRequest s (attach_request box number target deep) p u → u.state.model ≡ s.state.model
attach_one s u (Ok v) number target deep p run = other_one s u _ p refl run
attach_one s u (Err r) number target deep p run = ap (λ (v : Session). v.state.model) run.1

-- ---- a change

failed_is_not_kept : (b : Bool) → durable.is_kept (journal_turn true (if b then turned.Lost else turned.Refused)) ≡ false
failed_is_not_kept true = refl
failed_is_not_kept false = refl

alone : (s : State) → s.adapters ≡ [] → s ≡ state_of_model s.model
alone s none = ap (λ (rs : List Listed). let t : State = record { model = s.model; adapters = rs } in t) none

-- a change that is done without adapters leaves no adapters
lone_after : (s u : Session) (c : Command View) (r : _) → is_change c ≡ true → Executed s.state c (Ok r) u.state → s.state.adapters ≡ [] → u.state.adapters ≡ []
lone_after s u c r is x none =
    let back = comes_back s.state c r u.state is x in
    ap (λ (y : Stepped). y.after.adapters) (sym x ∙ ap (λ (t : State). step t c) (alone s.state none) ∙ back.1)

not_wanting : (s u : State) (c : Command View) (f : Failure View) → is_memory (Err f) ≡ false → Executed s c (Err f) u → step s c ≡ record { outcome = Err f; after = u }
not_wanting s u c f is x = subst (λ (b : Bool). MatchBool b (IsWanting s c (Err f) u) (step s c ≡ record { outcome = Err f; after = u })) is x

-- a change that can be done without adapters is refused only for memory
only_memory : (s u : Session) (c : Command View) (f : Failure View) (m : Model) (b : Bool) → is_memory (Err f) ≡ b → Executed s.state c (Err f) u.state
    → s.state.adapters ≡ [] → model_after_request s.state.model (request.Execute c) ≡ Some m → durable.is_lost (journal_turn true (if b then turned.Lost else turned.Refused)) ≡ true
only_memory s u c f m true is x none done = refl
only_memory s u c f m false is x none done =
    let here : step (state_of_model s.state.model) c ≡ record { outcome = Err f; after = u.state } =
    ap (λ (t : State). step t c) (sym (alone s.state none)) ∙ not_wanting s.state u.state c f is x in
    let nothing : None ≡ Some m = sym (ap (λ (y : Stepped). model_if_done y.outcome y.after.model) here) ∙ done in
    absurd (cc nothing)

change_of : (s u : Session) (c : Command View) (o : Outcome) → is_change c ≡ true → Executed s.state c o u.state
    → Counts s u true (model_after_request s.state.model (request.Execute c)) (command_printed s.state.model.metamodel c o).turn
change_of s u c (Ok r) is x = record {
  again = λ _. ap (λ (y : Stepped). model_if_done y.outcome y.after.model) (comes_back s.state c r u.state is x).1;
  other = λ no. absurd (cc no);
  lone = λ none _. lone_after s u c r is x none;
  lost = λ m none done no. absurd (cc no);
}
change_of s u c (Err f) is x = record {
  again = λ yes. absurd (both_ways _ (failed_is_not_kept (is_memory (Err f))) yes);
  other = λ _. ap (λ y. y.model) (refused-nothing s.state u.state c f x).0;
  lone = λ none yes. absurd (both_ways _ (failed_is_not_kept (is_memory (Err f))) yes);
  lost = λ m none done no. only_memory s u c f m (is_memory (Err f)) refl x none done;
}

change_one : (s u : Session) (c : Command View) (p : Printed) → is_change c ≡ true → RunsCommand s c p u
    → Counts s u true (model_after_request s.state.model (request.Execute c)) p.turn
change_one s u c p is run =
    subst (λ (q : Printed). Counts s u true (model_after_request s.state.model (request.Execute c)) q.turn) (sym run.printed) (change_of s u c run.outcome is run.executed)

command_one : (s u : Session) (c : Command View) (b : Bool) (p : Printed) → is_change c ≡ b → RunsCommand s c p u
    → Counts s u b (if b then model_after_request s.state.model (request.Execute c) else None) p.turn
command_one s u c true p is run = change_one s u c p is run
command_one s u c false p is run = other_counts s u p.turn (other_one s u c p is run)

-- ---- a line

at_one : (s u : Session) (n : Node) (name : List ℕ) (f : FeatureForm) (p : Printed) → RunsCommand s (at_command s.state.model.metamodel (named_end s.state n name) f) p u
    → Counts s u (asks_change (asks.At n name f)) (model_after_line s.state.model (line.Form (asks.At n name f))) p.turn
at_one s u n name (feature.Read q) p run = command_one s u _ false p refl run
at_one s u n name f p run = command_one s u _ (edits f) p refl run

line_one : (s u : Session) (x : Line) (p : Printed) → RunsLine s x p u → Counts s u (line_asks x) (model_after_line s.state.model x) p.turn
line_one s u line.Blank p run = other_counts s u p.turn (ap (λ (v : Session). v.state.model) run.1)
line_one s u line.Bad p run = other_counts s u p.turn (ap (λ (v : Session). v.state.model) run.1)
line_one s u (line.Form (asks.At n name f)) p run = at_one s u n name f p run
line_one s u (line.Form (asks.Attach number target deep)) p run = other_counts s u p.turn (attach_one s u (box_of s.pool number) number target deep p run)
line_one s u (line.Form (asks.Seen number)) p run = other_counts s u p.turn (ap (λ (v : Session). v.state.model) run.1)
line_one s u (line.Form f) p run = command_one s u _ (asks_change f) p refl run

-- ---- lines

kept_true : (l : List ℕ) (p : Printed) (ks : List (List ℕ)) → durable.is_kept (journal_printed l p).turn ≡ true → durable.kept_line l (journal_printed l p) ++ ks ≡ l ∷ ks
kept_true l p ks is = ap (λ (b : Bool). (if b then l ∷ [] else []) ++ ks) is

kept_false : (l : List ℕ) (p : Printed) (ks : List (List ℕ)) → durable.is_kept (journal_printed l p).turn ≡ false → durable.kept_line l (journal_printed l p) ++ ks ≡ ks
kept_false l p ks is = ap (λ (b : Bool). (if b then l ∷ [] else []) ++ ks) is

-- the kept lines leave the model that all of them left
pub lines_again : (s t : Session) (ls : List (List ℕ)) (ps : List Printed) → RunsLines s ls ps t → model_after_lines s.state.model (kept_lines ls ps) ≡ Some t.state.model
lines_again s t [] [] run = ap (λ (v : Session). Some v.state.model) (sym run)
lines_again s t [] (p ∷ ps) run = absurd run
lines_again s t (l ∷ ls) [] run = absurd run
lines_again s t (l ∷ ls) (p ∷ ps) run =
    let u = run.0 in
    let ks = kept_lines ls ps in
    let one = line_one s u (form l) p run.1 in
    let rest = lines_again u t ls ps run.2 in
    elim (cases_Bool (durable.is_kept (journal_printed l p).turn)) [
      | inl is ↦ ap (model_after_lines s.state.model) (kept_true l p ks is) ∙ ap (option_and_then (λ (n : Model). model_after_lines n ks)) (one.again is) ∙ rest
      | inr is ↦ ap (model_after_lines s.state.model) (kept_false l p ks is) ∙ ap (λ (m : Model). model_after_lines m ks) (sym (one.other is)) ∙ rest
    ]

model_after_lines-append : (m n : Model) (ls more : List (List ℕ)) → model_after_lines m ls ≡ Some n → model_after_lines m (ls ++ more) ≡ model_after_lines n more
model_after_lines-append m n [] more is = ap (λ (o : Option Model). option_and_then (λ (k : Model). model_after_lines k more) o) is
model_after_lines-append m n (l ∷ ls) more is =
    elim (model_after_line m (form l)) as (λ o. option_and_then (λ (k : Model). model_after_lines k ls) o ≡ Some n → option_and_then (λ (k : Model). model_after_lines k (ls ++ more)) o ≡ model_after_lines n more) [
      | None ↦ λ h. absurd (cc h)
      | Some k ↦ λ h. model_after_lines-append k n ls more h
    ] is

-- the lines of a journal, and some more
pub model_of-append : (m : Metamodel) (a : Model) (ls more : List (List ℕ)) (b : Option Model) → model_of m ls ≡ Some a → model_after_lines a more ≡ b → model_of m (ls ++ more) ≡ b
model_of-append m a [] more b is leaves = absurd (cc is)
model_of-append m a (head ∷ ls) more b is leaves = model_after_lines-append _ a ls more is ∙ leaves

-- ---- lines that a journal counts

-- Lines were run as lines of a script, with their output.
pub record RanAll (s : Session) (ls : List (List ℕ)) (ps : List durable.Printed) (t : Session) : Type 0 where
  pub printed : List Printed
  pub ran : RunsLines s ls printed t
  pub text : durable.answers ps ≡ live_text printed
  pub again : model_after_lines s.state.model (durable.kept_lines ls ps) ≡ Some t.state.model

module _ {S : Type 0} (of : S → Session) where
  abbrev pub Runs : S → List ℕ → durable.Printed → S → Type 0
  Runs j l p k = RunsJournaled (of j) l p (of k)

  -- their parts, one by one
  record Listed2 (s : Session) (ls : List (List ℕ)) (ps : List durable.Printed) (t : Session) : Type 0 where
    pub printed : List Printed
    pub ran : RunsLines s ls printed t
    pub text : durable.answers ps ≡ live_text printed
    pub kept : durable.kept_lines ls ps ≡ kept_lines ls printed

  listed : (j k : S) (ls : List (List ℕ)) (ps : List durable.Printed) → durable.RunsLines Runs j ls ps k → Listed2 (of j) ls ps (of k)
  listed j k [] [] run = record { printed = []; ran = ap of run; text = refl; kept = refl }
  listed j k [] (p ∷ ps) run = absurd run
  listed j k (l ∷ ls) [] run = absurd run
  listed j k (l ∷ ls) (p ∷ ps) run =
      let one = run.1 in
      let rest = listed run.0 k ls ps run.2 in
      record {
        printed = one.printed ∷ rest.printed;
        ran = (of run.0, one.ran, rest.ran);
        text = ap₂ (λ (q : durable.Printed) (b : List ℕ). durable.answer q ++ b) one.counted rest.text;
        kept = ap₂ (λ (q : durable.Printed) (ks : List (List ℕ)). durable.kept_line l q ++ ks) one.counted rest.kept;
      }

  pub ran_all : (j k : S) (ls : List (List ℕ)) (ps : List durable.Printed) → durable.RunsLines Runs j ls ps k → RanAll (of j) ls ps (of k)
  ran_all j k ls ps run =
      let all = listed j k ls ps run in
      record {
        printed = all.printed;
        ran = all.ran;
        text = all.text;
        again = ap (model_after_lines (of j).state.model) all.kept ∙ lines_again (of j) (of k) ls all.printed all.ran;
      }

  -- lines that were run again
  pub kept_all : (j k : S) (ls : List (List ℕ)) → durable.RunsKept Runs j ls k → model_after_lines (of j).state.model ls ≡ Some (of k).state.model
  kept_all j k [] run = ap (λ (v : S). Some (of v).state.model) (sym run)
  kept_all j k (l ∷ ls) run =
      let one = run.2 in
      let is : durable.is_kept (journal_printed l one.printed).turn ≡ true = ap (λ (q : durable.Printed). durable.is_kept q.turn) (sym one.counted) ∙ run.3 in
      ap (option_and_then (λ (n : Model). model_after_lines n ls)) ((line_one (of j) (of run.1) (form l) one.printed one.ran).again is)
      ∙ kept_all run.1 k ls run.4

-- ---- lines that are run again are done

-- the first of lines that are all done is done
first_done : (o : Option Model) (ls : List (List ℕ)) (n : Model) → option_and_then (λ (m : Model). model_after_lines m ls) o ≡ Some n → (m : Model) × (o ≡ Some m)
first_done None ls n is = absurd (cc is)
first_done (Some m) ls n is = (m, refl)

-- if lines leave a model when they are run in turn without adapters, a session without adapters refuses none of them, except for memory
pub none_refused : (x : Session) (ls : List (List ℕ)) (n : Model) → x.state.adapters ≡ [] → model_after_lines x.state.model ls ≡ Some n → durable.Refuses RunsJournaled x ls → ⊥
none_refused x [] n none is refused = refused
none_refused x (l ∷ ls) n none is refused =
    let p = refused.0 in
    let u = refused.1 in
    let ran = refused.2 in
    let one = line_one x u (form l) ran.printed ran.ran in
    let first = first_done (model_after_line x.state.model (form l)) ls n is in
    elim refused.3 [
      | inl here ↦
          let not_kept : durable.is_kept (journal_printed l ran.printed).turn ≡ false = ap (λ (q : durable.Printed). durable.is_kept q.turn) (sym ran.counted) ∙ here.0 in
          let not_lost : durable.is_lost (journal_printed l ran.printed).turn ≡ false = ap (λ (q : durable.Printed). durable.is_lost q.turn) (sym ran.counted) ∙ here.1 in
          both_ways _ not_lost (one.lost first.0 none first.1 not_kept)
      | inr later ↦
          let kept : durable.is_kept (journal_printed l ran.printed).turn ≡ true = ap (λ (q : durable.Printed). durable.is_kept q.turn) (sym ran.counted) ∙ later.0 in
          let rest : model_after_lines u.state.model ls ≡ Some n = ap (option_and_then (λ (m : Model). model_after_lines m ls)) (sym (one.again kept)) ∙ is in
          none_refused u ls n (one.lone none kept) rest later.1
    ]
