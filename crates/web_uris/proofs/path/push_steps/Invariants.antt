use Rattle.std.proofs.Common.{◌≡◌, ◌++◌, string_bytes, take}
use Rattle.std.specs.Prelude.{flat_map}
use Rattle.web_uris.specs.Paths.{step_text}
use Rattle.web_uris.proofs.path.push_steps.Given as goal

abbrev pub invariant-steps : goal.invariant-steps
invariant-steps l = string_bytes l.text ≡ string_bytes l.initial.text ++ flat_map step_text (take l.step-index l.steps)
