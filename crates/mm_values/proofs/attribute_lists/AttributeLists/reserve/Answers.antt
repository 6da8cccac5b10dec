use Rattle.std.proofs.Common.{◌≡◌, ◌≤◌, ◌+◌, refl, subst, get_or, arith}
use Rattle.std.proofs.lemmas.Result.{on_ok_weaker}
use Rattle.mm_values.specs.Attributes.{IsRising}
use Rattle.mm_values.proofs.Place.{fewer, none_of, place_here, index-set, read_feature, rising_set, stored_in_kept}
use Rattle.mm_values.proofs.attribute_lists.AttributeLists.reserve.Goals as goal

pub invariant_of-self : goal.invariant_of-self
invariant_of-self c =
    let x = c.index_mut.result.now in
    let read : x ≡ get_or c.args.self.now c.args.at x = rw c.self.view_is at c.index_mut.ensures.value in
    rw c.self.view_is (rising_set _ (subst IsRising c.self.view_is c.self.invariant) _ _ c.requires _ (read_feature _ (subst IsRising c.self.view_is c.self.invariant) _ _ c.requires x read))

pub returns-clause-stored : goal.returns-clause-stored
returns-clause-stored c =
    let rising = subst IsRising c.self.view_is c.self.invariant in
    let x = c.index_mut.result.now in
    let read : x ≡ get_or c.args.self.now c.args.at x = rw c.self.view_is at c.index_mut.ensures.value in
    rw c.self.view_is (stored_in_kept _ rising _ _ c.requires x _ read (read_feature _ rising _ _ c.requires x read) c.reserve.ensures.items refl)

pub returns-clause-kept : goal.returns-clause-kept
returns-clause-kept c f n index =
    let rising = subst IsRising c.self.view_is c.self.invariant in
    let x = c.index_mut.result.now in
    let read : x ≡ get_or c.args.self.now c.args.at x = rw c.self.view_is at c.index_mut.ensures.value in
    let spare : x.list.spare ≤ c.reserve.new.self.spare + 0 = omega (arith, c.reserve.ensures.spare) in
    rw c.self.view_is (fewer _ f _ n (omega (arith, none_of c.args.feature.0 f)) (index-set _ rising _ _ c.requires x _ 0 read (read_feature _ rising _ _ c.requires x read) spare f n index))

pub returns-clause-ok : goal.returns-clause-ok
returns-clause-ok c =
    let rising = subst IsRising c.self.view_is c.self.invariant in
    let x = c.index_mut.result.now in
    let read : x ≡ get_or c.args.self.now c.args.at x = rw c.self.view_is at c.index_mut.ensures.value in
    rw c.self.view_is (on_ok_weaker _ (place_here _ rising _ _ c.requires _ _ (read_feature _ rising _ _ c.requires x read)) c.reserve.ensures.ok)
