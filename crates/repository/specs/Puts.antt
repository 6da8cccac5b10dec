-- Whether an adapter is notified of a change that puts one link.
use Rattle.std.specs.Prelude.{◌&&◌, ◌||◌, Bool, is_some}
use Rattle.links.specs.declared.link.NewLink.{NewLink}
use Rattle.mm_types.specs.declared.numbers.Node.TheVariants as node
use Rattle.adapter_list.specs.Hearing.{is_heard}
use Rattle.repository.specs.State.{State, reads}

-- whether an adapter is notified when the link p is put in: at the node of the end of p or, if the feature has an opposite, at the object
-- of p
abbrev pub is_put_heard : State → NewLink → Bool
is_put_heard s p = is_heard (reads s).above p.end.node s.adapters || (is_some p.opposite && is_heard (reads s).above (node.Object p.object) s.adapters)
