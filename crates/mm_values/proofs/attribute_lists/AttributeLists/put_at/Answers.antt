use Rattle.std.proofs.Common.{◌≡◌, refl, subst, get_or}
use Rattle.mm_values.specs.Attributes.{IsRising}
use Rattle.mm_values.proofs.Place.{index-set, read_feature, rising_set, stored_in-put}
use Rattle.mm_values.proofs.attribute_lists.AttributeLists.put_at.Goals as goal

pub invariant_of-self : goal.invariant_of-self
invariant_of-self c =
    let rising = subst IsRising c.self.view_is c.self.invariant in
    let x = c.index_mut-entry.result.now in
    let read : x ≡ get_or c.args.self.now c.args.at x = rw c.self.view_is at c.index_mut-entry.ensures.value in
    rw c.self.view_is (rising_set _ rising _ _ c.requires _ (read_feature _ rising _ _ c.requires x read))

pub returns-clause-stored : goal.returns-clause-stored
returns-clause-stored c =
    let rising = subst IsRising c.self.view_is c.self.invariant in
    let x = c.index_mut-entry.result.now in
    let read : x ≡ get_or c.args.self.now c.args.at x = rw c.self.view_is at c.index_mut-entry.ensures.value in
    rw c.self.view_is (stored_in-put _ rising _ _ c.requires _ _ _ (read_feature _ rising _ _ c.requires x read) c.put_in.ensures.items refl)

pub returns-clause-kept : goal.returns-clause-kept
returns-clause-kept c f n index =
    let rising = subst IsRising c.self.view_is c.self.invariant in
    let x = c.index_mut-entry.result.now in
    let read : x ≡ get_or c.args.self.now c.args.at x = rw c.self.view_is at c.index_mut-entry.ensures.value in
    rw c.self.view_is (index-set _ rising _ _ c.requires x _ _ read (read_feature _ rising _ _ c.requires x read) c.put_in.ensures.spare f n index)
