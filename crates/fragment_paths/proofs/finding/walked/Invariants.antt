use Rattle.std.proofs.Common.{◌≡◌, drop}
use Rattle.models.specs.Model.{reading}
use Rattle.fragment_paths.specs.Finding as finding
use Rattle.fragment_paths.proofs.finding.walked.Given as goal

abbrev pub invariant-steps : goal.invariant-steps
invariant-steps g l = finding.object_after_steps (reading l.model) (drop l.step-index l.steps) l.at ≡ finding.object_after_steps (reading l.model) l.steps l.fn.object
