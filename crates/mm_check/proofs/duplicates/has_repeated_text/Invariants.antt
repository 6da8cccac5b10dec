use Rattle.std.proofs.Common.{◌≡◌, ◌++◌, drop, map}
use Rattle.mm_check.proofs.duplicates.has_repeated_text.Given as goal

abbrev pub invariant-texts : goal.invariant-texts
invariant-texts l = map (λ w. w.now) l.words.items ++ drop l.text-index l.texts ≡ l.texts
