use Rattle.std.proofs.Common.{◌≡◌, length, option_copied, suc}
use Rattle.std.specs.Option.{option_map_or}
use Rattle.web_uris.specs.Paths.{segments, steps_of as steps_meant}
use Rattle.web_uris.proofs.ReadLemmas.{with_front}
use Rattle.web_uris.proofs.grammar.steps_of.Given as goal

abbrev pub invariant-segments : goal.invariant-segments
invariant-segments l = with_front l.steps (steps_meant (segments (option_copied l.rest))) ≡ steps_meant (segments (option_copied l.text))

abbrev pub decreases-segments : goal.decreases-segments
decreases-segments l = option_map_or (λ t. suc (length t)) (option_copied l.rest) 0
