use Rattle.std.proofs.Common.{◌≡◌, ◌++◌, flat_map}
use Rattle.std.specs.Vec.Iter.{into_iter_items}
use Rattle.doc_loader.specs.Loading.{attribute_edits}
use Rattle.doc_loader.proofs.values.push_many.Given as goal

-- what is added, and then what is left to add
abbrev pub invariant-contents : goal.invariant-contents
invariant-contents l =
    let made = attribute_edits l.meta l.next l.object in
    record {
      can : (goal.iterator-contents).can_next l.content-iterator;
      ends : (goal.iterator-contents).is_finite l.content-iterator;
      rest : l.edits.items ++ flat_map made (into_iter_items l.content-iterator) ≡ l.fn.edits.items ++ flat_map made l.fn.contents.items;
    }
