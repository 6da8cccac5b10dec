-- The output of lines is the text that is defined for the numbers of the lost lines.
use Rattle.std.proofs.Common.{◌∙◌, ◌≡◌, ◌==◌, ◌+◌, ◌<◌, ◌≤◌, ◌++◌, ℕ, zero, suc, Bool, true, false, IsTrue, List, [], ◌∷◌, Option, Some, Ok, Err, ap, ap₂, append-nil, append_assoc, arith, cond, length, map, refl, slice_get, slice_index, subst, sym}
use Rattle.std.specs.Prelude.{fold}
use Rattle.std.specs.List.{All}
use Rattle.std.specs.List.Sorted.{IsStrictlyIncreasing}
use Rattle.std.specs.Option.{option_map_or}
use Rattle.std.proofs.lemmas.Bool.Decides.{nat_tests}
use Rattle.std.proofs.lemmas.List.{length-append}
use Rattle.std.proofs.lemmas.List.Elements.{All-cons, All-nil}
use Rattle.notice_chain.specs.View.{View}
use Rattle.repository.specs.State.{State}
use Rattle.repository.specs.Step.{Stepped}
use Rattle.repository.specs.Views.{Outcome}
use Rattle.repository.specs.declared.reply.Failure.{Failure}
use Rattle.repository.specs.Run.{Executed, IsWanting}
use Rattle.repository.specs.declared.command.Command.{Command}
use Rattle.script_lines.specs.Forms.{form}
use Rattle.script_lines.specs.Lines.{lines}
use Rattle.script_lines.specs.declared.line.Line.{Line}
use Rattle.script_lines.specs.declared.line.Line.TheVariants as line
use Rattle.script_program.specs.Bind.{bind}
use Rattle.script_program.specs.Lost.{AreCommands, LineRun, is_command_at, is_form, is_in, lost_from, lost_lines, printed_from, run_command, run_line, run_request, script}
use Rattle.script_program.specs.Script.{RunsLine, RunsLines, RunsRequest, command_printed}
use Rattle.script_program.specs.Pool.{Pool}
use Rattle.script_program.specs.Session.{Session, pool_after}
use Rattle.script_program.specs.declared.request.Request.{Request}
use Rattle.script_program.specs.declared.request.Request.TheVariants as request
use Rattle.script_answers.specs.Turns.{Printed, is_lost}
use Rattle.script_program.specs.Summary.{no_lines, outcome_turn, summary_of, with_turn}
use Rattle.script_program.specs.declared.summary.Summary.{Summary}
use Rattle.script_answers.specs.declared.turn.Turn.{Turn}
use Rattle.script_answers.specs.declared.turn.Turn.TheVariants as turned
use Rattle.mm_types.specs.Conditions.{is_memory_refusal}

-- ---- one line

abbrev run_of : Printed → Session → LineRun
run_of p t = record { printed = p; after = t }

same_session : (t s : Session) → t.state ≡ s.state → t.pool ≡ s.pool → t ≡ s
same_session t s e p = ap₂ (λ (x : State) (y : Pool). record { state = x; pool = y }) e p

lost_or_refused : (s t : Session) (c : Command View) (f : Failure View) (b : Bool) → is_memory_refusal f.refused ≡ b → Executed s.state c (Err f) t.state → t.pool ≡ s.pool
    → run_command (is_lost (cond b turned.Lost turned.Refused)) s c ≡ record { printed = command_printed s.state.model.metamodel c (Err f); after = t }
lost_or_refused s t c f true e h pool =
    let kept : IsWanting s.state c (Err f) t.state = rw e at h in
    ap₂ (λ (o : Outcome) (u : Session). record { printed = command_printed s.state.model.metamodel c o; after = u }) (sym kept.outcome) (sym (same_session t s kept.state pool))
lost_or_refused s t c f false e h pool =
    let one = rw e at h in
    ap (λ (q : Stepped). record { printed = command_printed s.state.model.metamodel c q.outcome; after = record { state = q.after; pool = pool_after s.pool c q.outcome } }) one
    ∙ ap (λ (p : Pool). record { printed = command_printed s.state.model.metamodel c (Err f); after = record { state = t.state; pool = p } }) (sym pool)

-- a command that was executed did its step, or was lost
executed_is : (s t : Session) (c : Command View) (o : Outcome) → Executed s.state c o t.state → t.pool ≡ pool_after s.pool c o
    → run_command (is_lost (outcome_turn o)) s c ≡ record { printed = command_printed s.state.model.metamodel c o; after = t }
executed_is s t c (Ok r) h pool =
    ap (λ (q : Stepped). record { printed = command_printed s.state.model.metamodel c q.outcome; after = record { state = q.after; pool = pool_after s.pool c q.outcome } }) h
    ∙ ap (λ (p : Pool). record { printed = command_printed s.state.model.metamodel c (Ok r); after = record { state = t.state; pool = p } }) (sym pool)
executed_is s t c (Err f) h pool = lost_or_refused s t c f (is_memory_refusal f.refused) refl h pool

same_run : (s t : Session) (p q : Printed) → p ≡ q → t ≡ s → run_of q s ≡ run_of p t
same_run s t p q e u = ap₂ (λ (x : Printed) (y : Session). record { printed = x; after = y }) (sym e) (sym u)

request_is : (s t : Session) (r : Request View) (p : Printed) → RunsRequest s r p t → run_request (is_lost p.turn) s r ≡ run_of p t
request_is s t (request.Execute c) p h = subst (λ (q : Printed). run_command (is_lost q.turn) s c ≡ record { printed = q; after = t }) (sym h.printed) (executed_is s t c h.outcome h.executed h.pool)
request_is s t (request.Seen number) p h = same_run s t p _ h.0 h.1
request_is s t (request.Refuse r) p h = same_run s t p _ h.0 h.1

line_is : (s t : Session) (l : Line) (p : Printed) → RunsLine s l p t → run_line (is_lost p.turn) s l ≡ run_of p t
line_is s t line.Blank p h = same_run s t p _ h.0 h.1
line_is s t line.Bad p h = same_run s t p _ h.0 h.1
line_is s t (line.Form f) p h = request_is s t (bind s f) p h

asks_command : (s t : Session) (l : Line) (p : Printed) → RunsLine s l p t → is_lost p.turn ≡ true → is_form l ≡ true
asks_command s t line.Blank p h lost = let none : is_lost p.turn ≡ false = ap (λ (q : Printed). is_lost q.turn) h.0 in cc
asks_command s t line.Bad p h lost = let none : is_lost p.turn ≡ false = ap (λ (q : Printed). is_lost q.turn) h.0 in cc
asks_command s t (line.Form f) p h lost = refl

-- ---- the numbers of lost lines

in_below : (b : Bool) (k j : ℕ) (m : List ℕ) → j < k → is_in m j ≡ false → is_in (cond b (k ∷ m) m) j ≡ false
in_below true k j m low h = let other : (k == j) ≡ false = grind (arith, nat_tests) in rw other h
in_below false k j m low h = h

in_here : (b : Bool) (k : ℕ) (m : List ℕ) → is_in m k ≡ false → is_in (cond b (k ∷ m) m) k ≡ b
in_here true k m h = let same : (k == k) ≡ true = grind (arith, nat_tests) in rw same refl
in_here false k m h = h

in_above : (b : Bool) (k j : ℕ) (m : List ℕ) → k < j → is_in (cond b (k ∷ m) m) j ≡ is_in m j
in_above true k j m low = let other : (k == j) ≡ false = grind (arith, nat_tests) in rw other refl
in_above false k j m low = refl

none_below : (k j : ℕ) (ps : List Printed) → j < k → is_in (lost_from k ps) j ≡ false
none_below k j [] low = refl
none_below k j (p ∷ ps) low = in_below (is_lost p.turn) k j (lost_from (suc k) ps) low (none_below (suc k) j ps (omega arith))

-- ---- the text

-- two lists hold the same numbers from k on
abbrev AgreeFrom : ℕ → List ℕ → List ℕ → Type 0
AgreeFrom k m n = (j : ℕ) → k ≤ j → is_in m j ≡ is_in n j

-- the output of the first lines is followed by the output of the others
goes_on : (m : List ℕ) (k : ℕ) (s t : Session) (first rest : List (List ℕ)) (ps : List Printed) → RunsLines s first ps t → AgreeFrom k m (lost_from k ps)
    → (n : ℕ) × (printed_from m k s (first ++ rest) ≡ ps ++ printed_from m n t rest)
unfolding printed_from
goes_on m k s t [] rest [] h agree = (k, ap (λ (q : Session). printed_from m k q rest) (sym h))
goes_on m k s t [] rest (p ∷ ps) h agree = absurd h
goes_on m k s t (l ∷ ls) rest [] h agree = absurd h
goes_on m k s t (l ∷ ls) rest (p ∷ ps) h agree =
    let later = lost_from (suc k) ps in
    let here : is_in m k ≡ is_lost p.turn = agree k (omega arith) ∙ in_here (is_lost p.turn) k later (none_below (suc k) k ps (omega arith)) in
    let one : run_line (is_in m k) s (form l) ≡ record { printed = p; after = h.0 } = ap (λ b. run_line b s (form l)) here ∙ line_is s h.0 (form l) p h.1 in
    let more = goes_on m (suc k) h.0 t ls rest ps h.2 (λ j low. agree j (omega arith) ∙ in_above (is_lost p.turn) k j later (omega arith)) in
    (more.0, ap (λ (q : LineRun). q.printed ∷ printed_from m (suc k) q.after (ls ++ rest)) one ∙ ap (λ x. p ∷ x) more.1)

pub whole : (s t : Session) (bytes : List ℕ) (ps : List Printed) → RunsLines s (lines bytes) ps t → script s bytes (lost_lines ps) ≡ ps
unfolding printed_from
whole s t bytes ps h =
    let all = goes_on (lost_lines ps) 0 s t (lines bytes) [] ps h (λ j low. refl) in
    ap (printed_from (lost_lines ps) 0 s) (sym (append-nil (lines bytes))) ∙ (all.1 ∙ append-nil ps)

pub front : (s t : Session) (bytes : List ℕ) (first rest : List (List ℕ)) (ps : List Printed) → lines bytes ≡ first ++ rest → RunsLines s first ps t
    → (more : List Printed) × (script s bytes (lost_lines ps) ≡ ps ++ more)
front s t bytes first rest ps cut h =
    let all = goes_on (lost_lines ps) 0 s t first rest ps h (λ j low. refl) in
    (printed_from (lost_lines ps) all.0 t rest, ap (printed_from (lost_lines ps) 0 s) cut ∙ all.1)

-- ---- each number once, and each a command's

increasing_cons : (k : ℕ) (m : List ℕ) → ((i : ℕ) → i < length m → k < slice_index m i) → IsStrictlyIncreasing m → IsStrictlyIncreasing (k ∷ m)
increasing_cons k m above h zero low = above 0 (omega arith)
increasing_cons k m above h (suc i) low = let next : suc i + 1 ≡ suc (i + 1) = omega arith in rw next (h i (omega arith))

above_cons : (b : Bool) (k j : ℕ) (m : List ℕ) → j < k → ((i : ℕ) → i < length m → j < slice_index m i) → (i : ℕ) → i < length (cond b (k ∷ m) m) → j < slice_index (cond b (k ∷ m) m) i
above_cons true k j m low h zero within = low
above_cons true k j m low h (suc i) within = h i (omega arith)
above_cons false k j m low h i within = h i within

all_above : (k j : ℕ) (ps : List Printed) → j < k → (i : ℕ) → i < length (lost_from k ps) → j < slice_index (lost_from k ps) i
all_above k j [] low i within = absurd (omega arith)
all_above k j (p ∷ ps) low i within = above_cons (is_lost p.turn) k j (lost_from (suc k) ps) low (all_above (suc k) j ps (omega arith)) i within

increasing_if : (b : Bool) (k : ℕ) (m : List ℕ) → ((i : ℕ) → i < length m → k < slice_index m i) → IsStrictlyIncreasing m → IsStrictlyIncreasing (cond b (k ∷ m) m)
increasing_if true k m above h = increasing_cons k m above h
increasing_if false k m above h = h

each_once : (k : ℕ) (ps : List Printed) → IsStrictlyIncreasing (lost_from k ps)
each_once k [] = λ i low. absurd (omega arith)
each_once k (p ∷ ps) = increasing_if (is_lost p.turn) k (lost_from (suc k) ps) (all_above (suc k) k ps (omega arith)) (each_once (suc k) ps)

line_at : (done : List (List ℕ)) (l : List ℕ) (ls : List (List ℕ)) (k : ℕ) → k ≡ length done → slice_get (done ++ l ∷ ls) k ≡ Some l
line_at [] l ls zero e = refl
line_at [] l ls (suc k) e = absurd (omega arith)
line_at (d ∷ done) l ls zero e = absurd (omega arith)
line_at (d ∷ done) l ls (suc k) e = line_at done l ls k (omega arith)

all_if : (ls : List (List ℕ)) (b : Bool) (k : ℕ) (m : List ℕ) → (b ≡ true → IsTrue (is_command_at ls k)) → All (λ j. IsTrue (is_command_at ls j)) m
    → All (λ j. IsTrue (is_command_at ls j)) (cond b (k ∷ m) m)
all_if ls true k m here all = All-cons (λ j. IsTrue (is_command_at ls j)) k m (here refl) all
all_if ls false k m here all = all

commands_from : (s t : Session) (done ls : List (List ℕ)) (k : ℕ) (ps : List Printed) → k ≡ length done → RunsLines s ls ps t
    → All (λ j. IsTrue (is_command_at (done ++ ls) j)) (lost_from k ps)
commands_from s t done [] k [] e h = All-nil (λ j. IsTrue (is_command_at (done ++ []) j))
commands_from s t done [] k (p ∷ ps) e h = absurd h
commands_from s t done (l ∷ ls) k [] e h = absurd h
commands_from s t done (l ∷ ls) k (p ∷ ps) e h =
    let at : slice_get (done ++ l ∷ ls) k ≡ Some l = line_at done l ls k e in
    let longer : length (done ++ l ∷ []) ≡ length done + 1 = length-append done (l ∷ []) in
    let more = commands_from h.0 t (done ++ l ∷ []) ls (suc k) ps (omega arith) h.2 in
    all_if (done ++ l ∷ ls) (is_lost p.turn) k (lost_from (suc k) ps)
    (λ hit. subst (λ (o : Option (List ℕ)). IsTrue (option_map_or (λ x. is_form (form x)) o false)) (sym at) (asks_command s h.0 (form l) p h.1 hit))
    (subst (λ (x : List (List ℕ)). All (λ j. IsTrue (is_command_at x j)) (lost_from (suc k) ps)) (append_assoc done (l ∷ []) ls) more)

pub are_commands : (s t : Session) (ls : List (List ℕ)) (ps : List Printed) → RunsLines s ls ps t → AreCommands ls (lost_lines ps)
are_commands s t ls ps h = record { each_once = each_once 0 ps; commands = commands_from s t [] ls 0 ps refl h }

-- ---- how many there are

counted_at : (t : Turn) (c : Summary) (k : ℕ) (m : List ℕ) → (with_turn c t).no_memory + length m ≡ c.no_memory + length (cond (is_lost t) (k ∷ m) m)
counted_at turned.Blank c k m = refl
counted_at turned.Bad c k m = refl
counted_at turned.Done c k m = refl
counted_at turned.Refused c k m = refl
counted_at turned.Lost c k m = omega arith

counted_from : (c : Summary) (k : ℕ) (ps : List Printed) → (fold with_turn c (map (λ p. p.turn) ps)).no_memory ≡ c.no_memory + length (lost_from k ps)
counted_from c k [] = omega arith
counted_from c k (p ∷ ps) = counted_from (with_turn c p.turn) (suc k) ps ∙ counted_at p.turn c k (lost_from (suc k) ps)

pub as_many : (ps : List Printed) → length (lost_lines ps) ≡ (summary_of ps).no_memory
as_many ps = let e = counted_from no_lines 0 ps in omega arith

nil_is : (m : List ℕ) → length m ≡ 0 → m ≡ []
nil_is [] e = refl
nil_is (j ∷ m) e = absurd (omega arith)

pub none_lost : (s t : Session) (bytes : List ℕ) (ps : List Printed) → RunsLines s (lines bytes) ps t → (summary_of ps).no_memory ≡ 0 → ps ≡ script s bytes []
none_lost s t bytes ps h none = sym (whole s t bytes ps h) ∙ ap (script s bytes) (nil_is (lost_lines ps) (as_many ps ∙ none))
