-- Names are ASCII, and a text is the one that serde_json reads.
use Rattle.std.proofs.Common.{◌≡◌, ◌-◌, ◌&&◌, ℕ, Bool, true, false, List, Option, None, Some, IsUtf8, arith, cond, length, nat_eq, refl, slice_index}
use Rattle.std.specs.Prelude.{option_and_then}
use Rattle.std.proofs.lemmas.Str.{is_utf8-from_IsUtf8}
use Rattle.std.proofs.lemmas.Bool.Decides.{nat_tests}
use Rattle.serde_json.specs.Data.{Data}
use Rattle.serde_json.specs.Read.{read}
use Rattle.serde_json.specs.Find.{as_str}
use Rattle.script_lines.specs.Values.{text_in}

-- ---- names

-- ---- texts

refused_at : (a b : Bool) (r : Option Data) → (b ≡ true → r ≡ None) → None ≡ cond (a && b) (option_and_then as_str r) None
refused_at true true r h = rw (h refl) refl
refused_at true false r h = refl
refused_at false b r h = refl

read_at : (a b : Bool) (r : Option Data) (d : Data) → a ≡ true → b ≡ true → r ≡ Some d → as_str d ≡ cond (a && b) (option_and_then as_str r) None
read_at a b r d p q e = rw (p, q, e) refl

pub text_read : (w : List ℕ) (d : Data) → slice_index w (length w - 1) ≡ 34 → IsUtf8 w → read w ≡ Some d → as_str d ≡ text_in w
text_read w d quote utf8 e =
    let last : nat_eq (slice_index w (length w - 1)) 34 ≡ true = grind (arith, nat_tests) in
    read_at _ _ (read w) d last (is_utf8-from_IsUtf8 w utf8) e
