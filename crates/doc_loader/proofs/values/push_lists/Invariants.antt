use Rattle.std.proofs.Common.{◌≡◌, ◌+◌, ◌++◌, flat_map, length}
use Rattle.std.specs.List.{enumerate_from}
use Rattle.std.specs.Vec.Iter.{into_iter_items}
use Rattle.doc_loader.specs.Loading.{attribute_edits, of_object}
use Rattle.doc_loader.proofs.values.push_lists.Given as goal

-- what is added, and then what is left to add; the objects so far and those that are left are all
abbrev pub invariant-objects : goal.invariant-objects
invariant-objects l =
    let made = of_object (attribute_edits l.meta l.next) in
    record {
      can : (goal.iterator-objects).can_next l.object-iterator;
      ends : (goal.iterator-objects).is_finite l.object-iterator;
      count : l.number + length (into_iter_items l.object-iterator) ≡ length l.fn.objects.items;
      rest : l.edits.items ++ flat_map made (enumerate_from l.number (into_iter_items l.object-iterator)) ≡ l.fn.edits.items ++ flat_map made (enumerate_from 0 l.fn.objects.items);
    }
