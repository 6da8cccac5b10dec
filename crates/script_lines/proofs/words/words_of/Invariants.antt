use Rattle.std.proofs.Common.{◌≡◌, ◌≤◌, ◌++◌, length, map}
use denote.Shadow.{shadow}
use denote.Text.{Utf8}
use Rattle.script_lines.specs.Words.{words_after}
use Rattle.script_lines.proofs.words.words_of.Given as goal

abbrev pub invariant-words : goal.invariant-words
invariant-words l =
    (map (λ w. w.now) l.found.items ++ words_after 0 l.rest ≡ words_after 0 l.line)
    × (length l.found.items ≤ 6)
    × shadow (Utf8 l.rest)

abbrev pub decreases-words : goal.decreases-words
decreases-words l = length l.rest
