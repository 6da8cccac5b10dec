use Rattle.std.proofs.Common.{rules}
use Rattle.std.proofs.lemmas.List.Sorted.{answers_always}
use Rattle.mm_values.proofs.Place.{searched}
use Rattle.mm_values.proofs.attribute_lists.AttributeLists.find.Goals as goal

-- the closure gives an entry's attribute, and the slice is the row
pub returns : goal.returns
returns c =
    let facts = c.binary_search_by_key.ensures in
    let by_feature = facts.position (λ e. e.feature.0) (answers_always _ _ _ (λ f a r g called. search rules)) in
    rw (← c.self.view_is, ← c.deref.ensures.value) (searched _ (rw c.deref.ensures.value c.self.invariant) c.args.feature.0 _ facts.bound by_feature)
