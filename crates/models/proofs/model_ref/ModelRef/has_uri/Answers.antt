use Rattle.std.proofs.Common.{ap, ◌∙◌}
use Rattle.std.specs.Prelude.{is_some}
use Rattle.models.specs.Model.{reading}
use Rattle.models.proofs.ReadLemmas.{resource-there}
use Rattle.models.proofs.model_ref.ModelRef.has_uri.Goals as goal

pub returns : goal.returns
returns g c = c.is_some.ensures ∙ ap is_some c.resource_named.ensures ∙ resource-there (reading c.args.self.now) c.args.uri.now
