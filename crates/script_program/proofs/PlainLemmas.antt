-- A script goes on by one line, while the answers of its last lines wait in a block.
use Rattle.std.proofs.Common.{◌≡◌, ◌∙◌, ◌+◌, ◌<◌, ◌++◌, ℕ, List, [], ◌∷◌, Option, inl, inr, ap, append-nil, append_assoc, length, refl, subst, sym}
use Rattle.std.proofs.lemmas.List.{nil_from_length}
use Rattle.std.specs.Io.KnownBytes.{Appends}
use Rattle.std.proofs.KnownBytes.{Appends-nil, Appends-trans}
use Rattle.script_lines.specs.Forms.{form}
use Rattle.script_lines.specs.Lines.{lines}
use Rattle.repository.specs.State.{State}
use Rattle.script_program.specs.Batch.{EndsIn, PrintsDressed, PrintsDressedFront}
use Rattle.script_answers.specs.Dressed.{dressed_line, dressed_output_from, plain_dress}
use Rattle.script_program.specs.Session.{Session}
use Rattle.script_program.specs.Script.{Adds, IsLeft, RunsLine}
use Rattle.script_answers.specs.Turns.{Printed, printed_line}
use Rattle.script_program.specs.Summary.{no_lines, with_turn}
use Rattle.script_program.specs.declared.summary.Summary.{Summary}
use Rattle.script_answers.specs.declared.turn.Turn.{Turn}
use Rattle.script_streams.specs.Streams.{AppendsFront}
use Rattle.script_streams.proofs.FrontLemmas.{front_after, front_more}
use Rattle.script_program.proofs.ScriptLemmas.{Ran, front_of, line_behind, none_run, one_more, whole_of}

-- Some first lines were run. A prefix of their answers is written, and the rest is in the block.
pub record Waits (z : Session) (bytes rest : List ℕ) (s : Session) (summary : Summary) (old now : Option (List ℕ)) (block : List ℕ) : Type 0 where
  pub number : ℕ
  pub printed : List Printed
  pub so_far : Ran plain_dress z bytes rest s number printed summary
  pub front : List ℕ
  pub written : Appends old now front
  pub answers : dressed_output_from plain_dress 1 so_far.done printed ≡ front ++ block

module _ (z : Session) (bytes : List ℕ) (old : Option (List ℕ)) where
  pub begun : Waits z bytes bytes z no_lines old old []
  unfolding none_run
  begun = record { number = 0; printed = []; so_far = none_run plain_dress z bytes; front = []; written = Appends-nil old; answers = refl }

  module _ (rest : List ℕ) (s : Session) (summary : Summary) (now : Option (List ℕ)) (block : List ℕ) (w : Waits z bytes rest s summary old now block) where
    -- one more line is run
    pub answered : (more line grown : List ℕ) (turn : Turn) (u : Session) → lines rest ≡ line ∷ lines more → length more < length rest → Adds block grown turn (λ p. RunsLine s (form line) p u)
        → Waits z bytes more u (with_turn summary turn) old now grown
    unfolding one_more
    answered more line grown turn u cut shorter one =
        let p = printed_line one.text turn in
        record {
          number = w.number + 1;
          printed = w.printed ++ p ∷ [];
          so_far = one_more plain_dress z bytes rest more line s u w.number w.printed summary p w.so_far refl cut shorter one.said;
          front = w.front;
          written = w.written;
          answers = line_behind plain_dress z bytes rest s w.number w.printed summary line p w.so_far ∙ (ap (λ x. x ++ one.text) w.answers ∙ (append_assoc w.front block one.text ∙ ap (λ x. w.front ++ x) (sym one.added)));
        }

    -- the block is written
    pub emptied : (after : Option (List ℕ)) → Appends now after block → Waits z bytes rest s summary old after []
    emptied after wrote = record {
      number = w.number;
      printed = w.printed;
      so_far = w.so_far;
      front = w.front ++ block;
      written = Appends-trans old now after w.front block w.written wrote;
      answers = w.answers ∙ sym (append-nil (w.front ++ block));
    }

    front_waits : AppendsFront old now (dressed_output_from plain_dress 1 w.so_far.done w.printed)
    front_waits = subst (AppendsFront old now) (sym w.answers) (w.front, block, w.written, refl)

    -- memory is refused in the next line, which was run or not, and the block is lost
    pub lost : (more line : List ℕ) (q : State) → lines rest ≡ line ∷ lines more → length more < length rest → IsLeft (RunsLine s (form line)) s.state q
        → PrintsDressedFront plain_dress z (EndsIn q) old now bytes
    unfolding one_more
    lost more line q cut shorter (inl same) = front_of plain_dress z bytes (EndsIn q) rest s w.number w.printed summary old now w.so_far front_waits (sym same)
    lost more line q cut shorter (inr one) =
        let p = one.0 in
        front_of plain_dress z bytes (EndsIn q) more one.1 (w.number + 1) (w.printed ++ p ∷ []) (with_turn summary p.turn) old now
        (one_more plain_dress z bytes rest more line s one.1 w.number w.printed summary p w.so_far refl cut shorter one.2)
        (subst (AppendsFront old now) (sym (line_behind plain_dress z bytes rest s w.number w.printed summary line p w.so_far)) (front_more old now _ (dressed_line plain_dress (w.number + 1) line p) front_waits))
        one.3

    -- a prefix of the block is written
    pub broken : (after : Option (List ℕ)) → AppendsFront now after block → PrintsDressedFront plain_dress z (EndsIn s.state) old after bytes
    broken after wrote =
        front_of plain_dress z bytes (EndsIn s.state) rest s w.number w.printed summary old after w.so_far (subst (AppendsFront old after) (sym w.answers) (front_after old now after w.front block w.written wrote)) refl

    -- all lines were run, and the block is written
    pub done : (after : Option (List ℕ)) → length rest ≡ 0 → Appends now after block → PrintsDressed plain_dress z (EndsIn s.state) old after bytes summary
    done after none wrote = whole_of plain_dress z bytes (EndsIn s.state) rest s w.number w.printed summary old after w.so_far (inl (ap lines (nil_from_length rest none)))
        (subst (Appends old after) (sym w.answers) (Appends-trans old now after w.front block w.written wrote)) refl
