use Rattle.std.proofs.Common.{◌≡◌, ℕ, true, List, string_bytes, subst, sym}
use Rattle.std.specs.Str.{is_utf8}
use Rattle.std.proofs.lemmas.Str.{IsUtf8-string_bytes, is_utf8-from_IsUtf8}
use Rattle.repository.proofs.repository.Repository.save.Goals as goal

pub returns-in_ok-from_string-in-Ok-clause-utf8 : goal.returns-in_ok-from_string-in-Ok-clause-utf8
returns-in_ok-from_string-in-Ok-clause-utf8 g c = subst (λ (t : List ℕ). is_utf8 t ≡ true) (sym c.in_ok-from_string-in-Ok.ensures.text) (is_utf8-from_IsUtf8 (string_bytes c.in-Ok.text) (IsUtf8-string_bytes c.in-Ok.text))
