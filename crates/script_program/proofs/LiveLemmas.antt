-- A live run goes on by one line, and ends.
use Rattle.std.proofs.Common.{◌≡◌, ◌∙◌, ◌+◌, ◌-◌, ◌^◌, ◌<◌, ◌≤◌, ◌++◌, ◌⊎◌, inl, inr, ℕ, List, [], ◌∷◌, Option, None, Some, ap, append-nil, arith, length, map, refl, subst, sym}
use Rattle.std.specs.Prelude.{IfSome, OnSome}
use Rattle.std.proofs.lemmas.List.{length-append}
use Rattle.std.proofs.lemmas.List.Concat.{flat_map-append}
use Rattle.std.specs.Io.KnownBytes.{Appends, IsAtEnd, Keeps}
use Rattle.std.proofs.KnownBytes.{Appends-kept, Appends-nil, Appends-trans}
use Rattle.script_lines.specs.Lines.{lines}
use Rattle.script_streams.specs.Line.{BeginsTooLong, ReadsLine}
use Rattle.script_streams.specs.Streams.{AppendsFront}
use Rattle.script_streams.specs.declared.line.LineEnd.{LineEnd}
use Rattle.script_streams.specs.declared.line.LineEnd.TheVariants.{Input}
use Rattle.durable.proofs.InputLemmas.{LinesRead, none_read, read_end, read_more, too_long as line_too_long, too_many as lines_too_many}
use Rattle.script_streams.proofs.FrontLemmas.{front_after, front_more, front_whole}
use Rattle.repository.specs.State.{State}
use Rattle.script_program.specs.Batch.{AnswersFront, AnswersLine, EndsIn}
use Rattle.script_answers.specs.Dressed.{plain_dress}
use Rattle.script_program.specs.Live.{AnswersLive, AnswersLiveFront, IsTooLong, PrintsLive, PrintsLiveFront, live_answer, live_text, with_empty_line}
use Rattle.script_program.specs.Script.{RunsLines}
use Rattle.script_program.specs.Session.{Session}
use Rattle.script_program.specs.Summary.{IsWithin, no_lines, summary_of, with_turn}
use Rattle.script_answers.specs.Turns.{Printed, texts}
use Rattle.script_program.specs.declared.summary.Summary.{Summary}
use Rattle.script_answers.specs.declared.turn.Turn.{Turn}
use Rattle.script_program.proofs.ScriptLemmas.{runs_more, summary_of_push, within_more}

-- ---- an answer, and the empty line after it

pub with_empty_lines : (ps : List Printed) → live_text ps ≡ texts (map with_empty_line ps)
with_empty_lines [] = refl
with_empty_lines (p ∷ ps) = ap (λ x. live_answer p ++ x) (with_empty_lines ps)

-- an answer is written in part, or nothing of it
pub front_of_answer : (line : List ℕ) (s : Session) (q : State) (old new : Option (List ℕ)) → ((new ≡ old) × (q ≡ s.state)) ⊎ AnswersFront plain_dress 0 line s (EndsIn q) old new
    → (new ≡ old) ⊎ AnswersLiveFront line s old new
front_of_answer line s q old new (inl same) = inl same.0
front_of_answer line s q old new (inr one) =
    inr (record { printed = one.printed; after = one.after; ran = one.ran; written = front_more old new one.printed.text (10 ∷ []) one.written })

-- the answer is written, and the empty line is not
pub front_behind : (line : List ℕ) (s u : Session) (old mid new : Option (List ℕ)) (turn : Turn) → AnswersLine plain_dress 0 line s old mid turn u → AppendsFront mid new (10 ∷ [])
    → (new ≡ old) ⊎ AnswersLiveFront line s old new
front_behind line s u old mid new turn one behind =
    inr (record { printed = one.printed; after = u; ran = one.ran; written = front_after old mid new one.printed.text (10 ∷ []) one.written behind })

-- ---- one more line

-- Some first lines were read and run, and their answers are written.
pub record Goes (z : Session) (input rest : Option (List ℕ)) (s : Session) (number : ℕ) (printed : List Printed) (summary : Summary) (old now : Option (List ℕ)) : Type 0 where
  pub done : List (List ℕ)
  pub read : LinesRead input rest done
  pub ran : RunsLines z done printed s
  pub counted : summary_of printed ≡ summary
  pub number_is : number ≡ length done
  pub within : IsWithin summary number
  pub written : Appends old now (live_text printed)

pub begin : (z : Session) (input old : Option (List ℕ)) → Goes z input input z 0 [] no_lines old old
begin z input old = record {
  done = [];
  read = none_read input;
  ran = refl;
  counted = refl;
  number_is = refl;
  within = record { lines = omega arith; refused = omega arith; bad = omega arith; no_memory = omega arith };
  written = Appends-nil old;
}

text_push : (ps : List Printed) (p : Printed) → live_text (ps ++ p ∷ []) ≡ live_text ps ++ live_answer p
text_push ps p = flat_map-append live_answer ps (p ∷ []) ∙ ap (λ x. live_text ps ++ x) (append-nil (live_answer p))

module _ (z : Session) (input : Option (List ℕ)) (old : Option (List ℕ)) (b : Option (List ℕ)) (s : Session) (number : ℕ) (printed : List Printed) (summary : Summary) (w0 w1 : Option (List ℕ)) where
  -- a line was read, and answered
  pub next : (c : Option (List ℕ)) (u : Session) (line : List ℕ) (end : LineEnd) (turn : Turn) (w2 : Option (List ℕ))
      → Goes z input b s number printed summary old w0 → Keeps w0 w1 → ReadsLine b c line end → (end ≡ Input → 0 < length line) → (one : AnswersLive line s w1 w2 turn u)
      → Goes z input c u (number + 1) (printed ++ one.printed ∷ []) (with_turn summary turn) old w2
  next c u line end turn w2 g kept read some one =
      let longer : length (g.done ++ line ∷ []) ≡ length g.done + 1 = length-append g.done (line ∷ []) in
      record {
        done = g.done ++ line ∷ [];
        read = read_more input b c g.done line end g.read read some;
        ran = runs_more z g.done printed s line one.printed u g.ran one.ran;
        counted = summary_of_push printed one.printed ∙ (ap (λ (x : Summary). with_turn x one.printed.turn) g.counted ∙ ap (with_turn summary) one.counted);
        number_is = let n = g.number_is in omega (arith, n, longer);
        within = within_more turn summary number g.within;
        written = subst (Appends old w2) (sym (text_push printed one.printed)) (Appends-trans old w1 w2 _ _ (Appends-kept old w0 w1 _ g.written kept) one.written);
      }

  -- the end was read
  pub ended : (c : Option (List ℕ)) (line : List ℕ) → Goes z input b s number printed summary old w0 → Keeps w0 w1 → ReadsLine b c line Input → length line ≡ 0
      → Goes z input c s number printed summary old w1
  ended c line g kept read none = record {
    done = g.done;
    read = read_end input b c g.done line g.read read none;
    ran = g.ran;
    counted = g.counted;
    number_is = g.number_is;
    within = g.within;
    written = Appends-kept old w0 w1 _ g.written kept;
  }

-- ---- the ends

module _ (z : Session) where
  front_at : (a b : Option (List ℕ)) (old new : Option (List ℕ)) (done : List (List ℕ)) (printed : List Printed) (s : Session)
      → LinesRead a b done → RunsLines z done printed s → AppendsFront old new (live_text printed) → IfSome a (PrintsLiveFront z old new)
  front_at None b old new done printed s read ran wrote = tt
  front_at (Some x) None old new done printed s read ran wrote = absurd read
  front_at (Some x) (Some y) old new done printed s read ran wrote =
      record { first = done; rest = lines y; lines_are = read; printed = printed; after = s; ran = ran; written = wrote }

  -- all lines were run
  pub finish : (a b : Option (List ℕ)) (s : Session) (number : ℕ) (printed : List Printed) (summary : Summary) (old now : Option (List ℕ))
      → Goes z a b s number printed summary old now → OnSome a (IsAtEnd b) → IfSome a (λ bytes. PrintsLive z old now bytes summary)
  finish None b s number printed summary old now g end = tt
  finish (Some x) None s number printed summary old now g end = absurd g.read
  finish (Some x) (Some y) s number printed summary old now g end =
      let all : lines x ≡ g.done = g.read ∙ (ap (λ v. g.done ++ lines v) end ∙ append-nil g.done) in
      record { printed = printed; after = s; ran = subst (λ ls. RunsLines z ls printed s) (sym all) g.ran; counted = g.counted; written = g.written }

  -- no line was run
  pub silent : (a old : Option (List ℕ)) → IfSome a (PrintsLiveFront z old old)
  silent a old = front_at a a old old [] [] z (none_read a) refl (front_whole old old [] (Appends-nil old))

  module _ (a b : Option (List ℕ)) (s : Session) (number : ℕ) (printed : List Printed) (summary : Summary) (old w0 : Option (List ℕ)) where
    -- the answers of the lines that were run are all written
    pub paused : (w1 : Option (List ℕ)) → Goes z a b s number printed summary old w0 → Keeps w0 w1 → IfSome a (PrintsLiveFront z old w1)
    paused w1 g kept = front_at a b old w1 g.done printed s g.read g.ran (front_whole old w1 _ (Appends-kept old w0 w1 _ g.written kept))

    -- the last answer is written in part, or nothing of it
    pub stopped : (c : Option (List ℕ)) (line : List ℕ) (end : LineEnd) (w1 w2 : Option (List ℕ))
        → Goes z a b s number printed summary old w0 → Keeps w0 w1 → ReadsLine b c line end → (end ≡ Input → 0 < length line)
        → (w2 ≡ w1) ⊎ AnswersLiveFront line s w1 w2 → IfSome a (PrintsLiveFront z old w2)
    stopped c line end w1 w2 g kept read some (inl same) = subst (λ w. IfSome a (PrintsLiveFront z old w)) (sym same) (paused w1 g kept)
    stopped c line end w1 w2 g kept read some (inr one) =
        front_at a c old w2 (g.done ++ line ∷ []) (printed ++ one.printed ∷ []) one.after
        (read_more a b c g.done line end g.read read some)
        (runs_more z g.done printed s line one.printed one.after g.ran one.ran)
        (subst (AppendsFront old w2) (sym (text_push printed one.printed)) (front_after old w1 w2 _ _ (Appends-kept old w0 w1 _ g.written kept) one.written))

  module _ (s : Session) (number : ℕ) (printed : List Printed) (summary : Summary) (old now : Option (List ℕ)) where
    -- the next line is too long
    pub too_long : (a b : Option (List ℕ)) → Goes z a b s number printed summary old now → IfSome b BeginsTooLong → IfSome a IsTooLong
    too_long a b g long = line_too_long g.done a b g.read long

    -- there are as many lines as can be counted
    pub too_many : (a b : Option (List ℕ)) → Goes z a b s number printed summary old now → 2 ^ 64 - 1 ≤ number → IfSome a IsTooLong
    too_many a b g many = let is = g.number_is in lines_too_many g.done a b g.read (omega (arith, is, many))
