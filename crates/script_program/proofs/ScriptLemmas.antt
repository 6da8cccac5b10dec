-- A script goes on by one line, and ends.
use Rattle.std.proofs.Common.{◌∙◌, ◌≡◌, ◌+◌, ◌<◌, ◌≤◌, ◌++◌, ◌&&◌, ◌⊎◌, ℕ, true, false, inl, inr, List, [], ◌∷◌, Option, ap, append_assoc, arith, length, map, refl, subst, sym}
use Rattle.std.proofs.Math.Bool.{and-false}
use Rattle.std.proofs.lemmas.List.{length-append, map-append, nil_from_length}
use Rattle.std.proofs.lemmas.List.Sums.{fold-append}
use Rattle.std.specs.List.{fold}
use Rattle.std.specs.Io.KnownBytes.{Appends}
use Rattle.std.proofs.KnownBytes.{Appends-nil, Appends-trans}
use Rattle.script_lines.specs.Forms.{form}
use Rattle.script_lines.specs.Lines.{lines}
use Rattle.repository.specs.State.{State}
use Rattle.script_program.specs.Batch.{AnswersFront, AnswersLine, EndsIn, PrintsDressed, PrintsDressedFront, RunsFirst}
use Rattle.script_answers.specs.Dressed.{dressed_line, dressed_output_from, is_stopped, lines_until_end}
use Rattle.script_program.specs.Script.{RunsLine, RunsLines}
use Rattle.script_program.specs.Session.{Session}
use Rattle.script_program.specs.Summary.{IsWithin, no_lines, summary_of, with_turn}
use Rattle.script_answers.specs.Turns.{Printed, is_fault}
use Rattle.script_answers.specs.declared.dress.Dress.{Dress}
use Rattle.script_program.specs.declared.summary.Summary.{Summary}
use Rattle.script_answers.specs.declared.turn.Turn.{Turn}
use Rattle.script_answers.specs.declared.turn.Turn.TheVariants.{Blank}
use Rattle.script_streams.specs.Streams.{AppendsFront}
use Rattle.script_streams.proofs.FrontLemmas.{front_after, front_whole}
use Rattle.script_answers.proofs.DressLemmas.{dressed_push, kept_all, kept_last, stopped_last}

-- ---- one more line

pub runs_more : (s : Session) (ls : List (List ℕ)) (ps : List Printed) (u : Session) (l : List ℕ) (p : Printed) (t : Session)
    → RunsLines s ls ps u → RunsLine u (form l) p t → RunsLines s (ls ++ l ∷ []) (ps ++ p ∷ []) t
runs_more s [] [] u l p t h one = (t, subst (λ (q : Session). RunsLine q (form l) p t) h one, refl)
runs_more s [] (q ∷ ps) u l p t h one = absurd h
runs_more s (k ∷ ls) [] u l p t h one = absurd h
runs_more s (k ∷ ls) (q ∷ ps) u l p t h one = (h.0, h.1, runs_more h.0 ls ps u l p t h.2 one)

-- each line that is run prints
pub runs_length : (s t : Session) (ls : List (List ℕ)) (ps : List Printed) → RunsLines s ls ps t → length ls ≡ length ps
runs_length s t [] [] h = refl
runs_length s t [] (p ∷ ps) h = absurd h
runs_length s t (l ∷ ls) [] h = absurd h
runs_length s t (l ∷ ls) (p ∷ ps) h = let rest = runs_length h.0 t ls ps h.2 in omega (arith, rest)

pub within_more : (t : Turn) (s : Summary) (n : ℕ) → IsWithin s n → IsWithin (with_turn s t) (n + 1)
within_more Blank s n w = record { lines = omega (arith, w.lines); refused = omega (arith, w.refused); bad = omega (arith, w.bad); no_memory = omega (arith, w.no_memory) }
within_more _ s n w = record { lines = omega (arith, w.lines); refused = omega (arith, w.refused); bad = omega (arith, w.bad); no_memory = omega (arith, w.no_memory) }

pub summary_of_push : (ps : List Printed) (p : Printed) → summary_of (ps ++ p ∷ []) ≡ with_turn (summary_of ps) p.turn
summary_of_push ps p = ap (fold with_turn no_lines) (map-append (λ (q : Printed). q.turn) ps (p ∷ [])) ∙ fold-append with_turn no_lines (map (λ (q : Printed). q.turn) ps) (p.turn ∷ [])

-- Some first lines were run, and the rest of the bytes follows them.
pub record Ran (d : Dress) (z : Session) (bytes rest : List ℕ) (s : Session) (number : ℕ) (printed : List Printed) (summary : Summary) : Type 0 where
  pub done : List (List ℕ)
  pub all : done ++ lines rest ≡ lines bytes
  pub ran : RunsLines z done printed s
  pub counted : summary_of printed ≡ summary
  pub number_is : number ≡ length done
  pub room : length done + length rest ≤ length bytes
  pub within : IsWithin summary (length done)
  pub none_behind : lines_until_end d printed ≡ printed

-- The run has not ended, and the answers of its lines are written.
pub record GoesOn (d : Dress) (z : Session) (bytes rest : List ℕ) (s : Session) (number : ℕ) (printed : List Printed) (summary : Summary) (old now : Option (List ℕ)) : Type 0 where
  pub so_far : Ran d z bytes rest s number printed summary
  pub going : is_stopped d printed ≡ false
  pub written : Appends old now (dressed_output_from d 1 so_far.done printed)

unfoldable pub none_run : (d : Dress) (z : Session) (bytes : List ℕ) → Ran d z bytes bytes z 0 [] no_lines
none_run d z bytes = record {
  done = [];
  all = refl;
  ran = refl;
  counted = refl;
  number_is = refl;
  room = omega arith;
  within = record { lines = omega arith; refused = omega arith; bad = omega arith; no_memory = omega arith };
  none_behind = kept_all d [] (and-false d.stop);
}

pub start : (d : Dress) (z : Session) (bytes : List ℕ) (old : Option (List ℕ)) → GoesOn d z bytes bytes z 0 [] no_lines old old
unfolding none_run
start d z bytes old = record { so_far = none_run d z bytes; going = and-false d.stop; written = Appends-nil old }

-- one more line is run
unfoldable pub one_more : (d : Dress) (z : Session) (bytes rest more line : List ℕ) (s u : Session) (number : ℕ) (printed : List Printed) (summary : Summary) (p : Printed)
    → Ran d z bytes rest s number printed summary → is_stopped d printed ≡ false → lines rest ≡ line ∷ lines more → length more < length rest → RunsLine s (form line) p u
    → Ran d z bytes more u (number + 1) (printed ++ p ∷ []) (with_turn summary p.turn)
one_more d z bytes rest more line s u number printed summary p g going cut shorter one =
    let longer : length (g.done ++ line ∷ []) ≡ length g.done + 1 = length-append g.done (line ∷ []) in
    record {
      done = g.done ++ line ∷ [];
      all = append_assoc g.done (line ∷ []) (lines more) ∙ (ap (λ x. g.done ++ x) (sym cut) ∙ g.all);
      ran = runs_more z g.done printed s line p u g.ran one;
      counted = summary_of_push printed p ∙ ap (λ (x : Summary). with_turn x p.turn) g.counted;
      number_is = let n = g.number_is in omega (arith, n, longer);
      room = let r = g.room in omega (arith, r, shorter, longer);
      within = subst (IsWithin (with_turn summary p.turn)) (sym longer) (within_more p.turn summary (length g.done) g.within);
      none_behind = kept_last d printed p going;
    }

-- the output of the line is appended to the earlier output
pub line_behind : (d : Dress) (z : Session) (bytes rest : List ℕ) (s : Session) (number : ℕ) (printed : List Printed) (summary : Summary) (line : List ℕ) (p : Printed)
    → (g : Ran d z bytes rest s number printed summary)
    → dressed_output_from d 1 (g.done ++ line ∷ []) (printed ++ p ∷ []) ≡ dressed_output_from d 1 g.done printed ++ dressed_line d (number + 1) line p
line_behind d z bytes rest s number printed summary line p g =
    let n = g.number_is in
    dressed_push d 1 (number + 1) g.done printed line p (runs_length z s g.done printed g.ran) (omega (arith, n))

-- ---- the ends

module _ (d : Dress) (z : Session) (bytes : List ℕ) where
  first_run : (rest : List ℕ) (s : Session) (number : ℕ) (printed : List Printed) (summary : Summary) → (g : Ran d z bytes rest s number printed summary)
      → RunsFirst d z bytes g.done (lines rest) printed s
  first_run rest s number printed summary g = record { lines_are = sym g.all; ran = g.ran; none_behind = g.none_behind }

  pub whole_of : (Left : Session → Type 0) (rest : List ℕ) (s : Session) (number : ℕ) (printed : List Printed) (summary : Summary) (old new : Option (List ℕ)) → (g : Ran d z bytes rest s number printed summary)
      → ((lines rest ≡ []) ⊎ (is_stopped d printed ≡ true)) → Appends old new (dressed_output_from d 1 g.done printed) → Left s → PrintsDressed d z Left old new bytes summary
  whole_of Left rest s number printed summary old new g ends wrote left = record {
    first = g.done;
    printed = printed;
    after = s;
    left = left;
    ran = record { rest = lines rest; runs = first_run rest s number printed summary g; ends = ends };
    counted = g.counted;
    written = subst (λ ps. Appends old new (dressed_output_from d 1 g.done ps)) (sym g.none_behind) wrote;
  }

  pub front_of : (Left : Session → Type 0) (rest : List ℕ) (s : Session) (number : ℕ) (printed : List Printed) (summary : Summary) (old new : Option (List ℕ))
      → (g : Ran d z bytes rest s number printed summary) → AppendsFront old new (dressed_output_from d 1 g.done printed) → Left s → PrintsDressedFront d z Left old new bytes
  front_of Left rest s number printed summary old new g wrote left = record {
    first = g.done;
    rest = lines rest;
    printed = printed;
    after = s;
    left = left;
    ran = first_run rest s number printed summary g;
    written = subst (λ ps. AppendsFront old new (dressed_output_from d 1 g.done ps)) (sym g.none_behind) wrote;
  }

  -- all lines were run
  pub finish : (rest : List ℕ) (s : Session) (number : ℕ) (printed : List Printed) (summary : Summary) (old new : Option (List ℕ))
      → GoesOn d z bytes rest s number printed summary old new → length rest ≡ 0 → PrintsDressed d z (EndsIn s.state) old new bytes summary
  finish rest s number printed summary old new on none =
      whole_of (EndsIn s.state) rest s number printed summary old new on.so_far (inl (ap lines (nil_from_length rest none))) on.written refl

  -- no line was run
  pub silent : (old : Option (List ℕ)) → PrintsDressedFront d z (EndsIn z.state) old old bytes
  unfolding none_run
  silent old = front_of (EndsIn z.state) bytes z 0 [] no_lines old old (none_run d z bytes) ([], [], Appends-nil old, refl) refl

  -- the answers of the lines that were run are all written
  pub paused : (rest : List ℕ) (s : Session) (number : ℕ) (printed : List Printed) (summary : Summary) (old new : Option (List ℕ))
      → GoesOn d z bytes rest s number printed summary old new → PrintsDressedFront d z (EndsIn s.state) old new bytes
  paused rest s number printed summary old new on = front_of (EndsIn s.state) rest s number printed summary old new on.so_far (front_whole old new _ on.written) refl

  module _ (rest more line : List ℕ) (s : Session) (number : ℕ) (printed : List Printed) (summary : Summary) (old mid new : Option (List ℕ)) where
    -- one more line is run, and the run has not ended after it
    pub next : (u : Session) (turn : Turn) → GoesOn d z bytes rest s number printed summary old mid → lines rest ≡ line ∷ lines more → length more < length rest
        → (one : AnswersLine d (number + 1) line s mid new turn u) → (d.stop && is_fault turn) ≡ false
        → GoesOn d z bytes more u (number + 1) (printed ++ one.printed ∷ []) (with_turn summary turn) old new
    unfolding one_more
    next u turn on cut shorter one go =
        let p = one.printed in
        let is : p.turn ≡ turn = one.counted in
        let grown = one_more d z bytes rest more line s u number printed summary p on.so_far on.going cut shorter one.ran in
        let goes : GoesOn d z bytes more u (number + 1) (printed ++ p ∷ []) (with_turn summary p.turn) old new = record {
          so_far = grown;
          going = stopped_last d printed p on.going ∙ (ap (λ t. d.stop && is_fault t) is ∙ go);
          written = subst (Appends old new) (sym (line_behind d z bytes rest s number printed summary line p on.so_far)) (Appends-trans old mid new _ _ on.written one.written);
        } in
        subst (λ t. GoesOn d z bytes more u (number + 1) (printed ++ p ∷ []) (with_turn summary t) old new) is goes

    -- the line ends the run
    pub ended : (u : Session) (turn : Turn) → GoesOn d z bytes rest s number printed summary old mid → lines rest ≡ line ∷ lines more → length more < length rest
        → AnswersLine d (number + 1) line s mid new turn u → (d.stop && is_fault turn) ≡ true
        → PrintsDressed d z (EndsIn u.state) old new bytes (with_turn summary turn)
    unfolding one_more
    ended u turn on cut shorter one stop =
        let p = one.printed in
        let is : p.turn ≡ turn = one.counted in
        let whole = whole_of (EndsIn u.state) more u (number + 1) (printed ++ p ∷ []) (with_turn summary p.turn) old new
        (one_more d z bytes rest more line s u number printed summary p on.so_far on.going cut shorter one.ran)
        (inr (stopped_last d printed p on.going ∙ (ap (λ t. d.stop && is_fault t) is ∙ stop)))
        (subst (Appends old new) (sym (line_behind d z bytes rest s number printed summary line p on.so_far)) (Appends-trans old mid new _ _ on.written one.written)) refl in
        subst (λ t. PrintsDressed d z (EndsIn u.state) old new bytes (with_turn summary t)) is whole

    -- the answer of the line is written in part, or nothing of it
    pub stopped : (q : State) → GoesOn d z bytes rest s number printed summary old mid → lines rest ≡ line ∷ lines more → length more < length rest
        → ((new ≡ mid) × (q ≡ s.state)) ⊎ AnswersFront d (number + 1) line s (EndsIn q) mid new → PrintsDressedFront d z (EndsIn q) old new bytes
    unfolding one_more
    stopped q on cut shorter (inl same) =
        subst (λ (x : State). PrintsDressedFront d z (EndsIn x) old new bytes) (sym same.1)
        (subst (λ (w : Option (List ℕ)). PrintsDressedFront d z (EndsIn s.state) old w bytes) (sym same.0) (paused rest s number printed summary old mid on))
    stopped q on cut shorter (inr one) =
        let p = one.printed in
        front_of (EndsIn q) more one.after (number + 1) (printed ++ p ∷ []) (with_turn summary p.turn) old new
        (one_more d z bytes rest more line s one.after number printed summary p on.so_far on.going cut shorter one.ran)
        (subst (AppendsFront old new) (sym (line_behind d z bytes rest s number printed summary line p on.so_far)) (front_after old mid new _ _ on.written one.written))
        one.left
