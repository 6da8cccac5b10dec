-- Without output options the answers are the text, and the output of a run is `dressed_output` of the whole script.
use Rattle.std.proofs.Common.{◌∙◌, ◌≡◌, ◌⊎◌, ◌++◌, ℕ, true, false, inl, inr, List, [], Option, None, Some, ap, append-nil, subst, sym}
use Rattle.std.specs.Prelude.{IfSome}
use Rattle.std.specs.Io.KnownBytes.{Appends}
use Rattle.repository.specs.State.{State}
use Rattle.script_lines.specs.Lines.{lines}
use Rattle.script_program.specs.Batch.{EndsAnywhere, EndsIn, PrintsDressed, PrintsDressedFront, PrintsInputDressed, PrintsInputDressedFront}
use Rattle.script_answers.specs.Dressed.{plain_dress}
use Rattle.script_program.specs.Script.{Prints, PrintsFront, PrintsInput, PrintsInputFront, RunsLines}
use Rattle.script_program.specs.Session.{Session}
use Rattle.script_answers.specs.declared.dress.Dress.{Dress}
use Rattle.script_program.specs.declared.summary.Summary.{Summary}
use Rattle.script_streams.specs.Streams.{AppendsFront}
use Rattle.script_answers.proofs.DressLemmas.{plain_text}
use Rattle.script_program.proofs.ScriptLemmas.{runs_length}

no_rest : (rest : List (List ℕ)) → ((rest ≡ []) ⊎ (false ≡ true)) → rest ≡ []
no_rest rest (inl e) = e
no_rest rest (inr e) = cc

-- a run without output options runs all lines, and writes their text
pub plain_run : (s : Session) (old new : Option (List ℕ)) (bytes : List ℕ) (summary : Summary) → PrintsDressed plain_dress s EndsAnywhere old new bytes summary → Prints s old new bytes summary
plain_run s old new bytes summary h =
    let all : lines bytes ≡ h.first = h.ran.runs.lines_are ∙ (ap (λ r. h.first ++ r) (no_rest h.ran.rest h.ran.ends) ∙ append-nil h.first) in
    record {
      printed = h.printed;
      after = h.after;
      ran = subst (λ ls. RunsLines s ls h.printed h.after) (sym all) h.ran.runs.ran;
      counted = h.counted;
      written = subst (Appends old new) (plain_text h.first h.printed (runs_length s h.after h.first h.printed h.ran.runs.ran)) h.written;
    }

pub plain_front : (s : Session) (old new : Option (List ℕ)) (bytes : List ℕ) → PrintsDressedFront plain_dress s EndsAnywhere old new bytes → PrintsFront s old new bytes
plain_front s old new bytes h = record {
  first = h.first;
  rest = h.rest;
  lines_are = h.ran.lines_are;
  printed = h.printed;
  after = h.after;
  ran = h.ran.ran;
  written = subst (AppendsFront old new) (plain_text h.first h.printed (runs_length s h.after h.first h.printed h.ran.ran)) h.written;
}

some_weaker : {X : Type 0} (P Q : X → Type 0) (o : Option X) → ((x : X) → P x → Q x) → IfSome o P → IfSome o Q
some_weaker P Q None f h = tt
some_weaker P Q (Some x) f h = f x h

-- a run that ends in a state ends
pub ends_anywhere : (d : Dress) (input : Option (List ℕ)) (s : Session) (q : State) (old new : Option (List ℕ)) (summary : Summary) → PrintsInputDressed d input s (EndsIn q) old new summary → PrintsInputDressed d input s EndsAnywhere old new summary
ends_anywhere d input s q old new summary h =
    some_weaker _ _ input (λ bytes p. (p.0, record { first = p.1.first; printed = p.1.printed; after = p.1.after; left = tt; ran = p.1.ran; counted = p.1.counted; written = p.1.written })) h

pub ends_anywhere_front : (d : Dress) (input : Option (List ℕ)) (s : Session) (q : State) (old new : Option (List ℕ)) → PrintsInputDressedFront d input s (EndsIn q) old new → PrintsInputDressedFront d input s EndsAnywhere old new
ends_anywhere_front d input s q old new h =
    some_weaker _ _ input (λ bytes p. record { first = p.first; rest = p.rest; printed = p.printed; after = p.after; left = tt; ran = p.ran; written = p.written }) h

pub plain_input : (input : Option (List ℕ)) (s : Session) (old new : Option (List ℕ)) (summary : Summary) → PrintsInputDressed plain_dress input s EndsAnywhere old new summary → PrintsInput input s old new summary
plain_input input s old new summary h = some_weaker _ _ input (λ bytes p. (p.0, plain_run s old new bytes summary p.1)) h

pub plain_input_front : (input : Option (List ℕ)) (s : Session) (old new : Option (List ℕ)) → PrintsInputDressedFront plain_dress input s EndsAnywhere old new → PrintsInputFront input s old new
plain_input_front input s old new h = some_weaker _ _ input (λ bytes p. plain_front s old new bytes p) h
