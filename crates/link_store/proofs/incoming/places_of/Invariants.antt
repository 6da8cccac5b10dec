use Rattle.std.proofs.Common.{◌≡◌, ◌++◌, drop}
use Rattle.link_store.specs.Rows.{places_in}
use Rattle.link_store.proofs.incoming.places_of.Given as goal

abbrev pub invariant-loop-end : goal.invariant-loop-end
invariant-loop-end l = l.out.items ++ places_in l.rows (drop l.end-index l.ends) l.value ≡ places_in l.rows l.ends l.value
