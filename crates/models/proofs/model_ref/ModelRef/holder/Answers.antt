use Rattle.std.proofs.Common.{sym}
use Rattle.links.proofs.AboveLemmas.{resource_top}
use Rattle.models.proofs.model_ref.ModelRef.holder.Goals as goal

-- src/model_ref.rt:116:5
pub returns-in-Resource : goal.returns-in-Resource
returns-in-Resource g c = rw (← c.self.view_is, c.in-Resource.is) (sym (resource_top _ c.in-Resource.field-0 c.self.invariant.links.set))
