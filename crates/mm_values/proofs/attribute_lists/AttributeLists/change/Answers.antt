use Rattle.std.proofs.Common.{◌≡◌, refl, subst, get_or, arith}
use Rattle.mm_values.specs.Attributes.{IsRising}
use Rattle.mm_values.specs.ListEdits.{list_after_edit}
use Rattle.mm_values.proofs.ListLemmas.{changed_nothing, is_ready}
use Rattle.mm_values.proofs.Place.{fewer, no_place, index-set, read_feature, rising_set, spare_here, stored_in-changed, unchanged_gap}
use Rattle.mm_values.proofs.attribute_lists.AttributeLists.change.Goals as goal

pub make-requires : goal.make-requires
make-requires c =
    let rising = subst IsRising c.self.view_is c.self.invariant in
    let x = c.index_mut.result.now in
    let read : x ≡ get_or c.args.self.now c.in-Ok.at x = rw c.self.view_is at c.index_mut.ensures.value in
    is_ready _ _ c.args.edit _ (spare_here _ rising _ _ c.in-Ok.ensures.found x 1 read) c.requires

pub invariant_of-self : goal.invariant_of-self
invariant_of-self c =
    let rising = subst IsRising c.self.view_is c.self.invariant in
    let x = c.index_mut.result.now in
    let read : x ≡ get_or c.args.self.now c.in-Ok.at x = rw c.self.view_is at c.index_mut.ensures.value in
    rw c.self.view_is (rising_set _ rising _ _ c.in-Ok.ensures.found _ (read_feature _ rising _ _ c.in-Ok.ensures.found x read))

pub returns-in-Ok-clause-stored : goal.returns-in-Ok-clause-stored
returns-in-Ok-clause-stored c =
    let rising = subst IsRising c.self.view_is c.self.invariant in
    let x = c.index_mut.result.now in
    let read : x ≡ get_or c.args.self.now c.in-Ok.at x = rw c.self.view_is at c.index_mut.ensures.value in
    rw c.self.view_is (stored_in-changed _ rising _ _ c.in-Ok.ensures.found x _ (list_after_edit c.args.edit) read (read_feature _ rising _ _ c.in-Ok.ensures.found x read) c.make.ensures.items refl)

pub returns-in-Ok-clause-kept : goal.returns-in-Ok-clause-kept
returns-in-Ok-clause-kept c f n index =
    let rising = subst IsRising c.self.view_is c.self.invariant in
    let x = c.index_mut.result.now in
    let read : x ≡ get_or c.args.self.now c.in-Ok.at x = rw c.self.view_is at c.index_mut.ensures.value in
    rw c.self.view_is (index-set _ rising _ _ c.in-Ok.ensures.found x _ _ read (read_feature _ rising _ _ c.in-Ok.ensures.found x read) c.make.ensures.spare f n index)

pub returns-in-Err-clause-stored : goal.returns-in-Err-clause-stored
returns-in-Err-clause-stored c = unchanged_gap _ _ _ c.in-Err.ensures.absent (list_after_edit c.args.edit) (changed_nothing _ _ c.args.edit (no_place _ _ _ c.in-Err.ensures.absent 1) c.requires)

pub returns-in-Err-clause-kept : goal.returns-in-Err-clause-kept
returns-in-Err-clause-kept c f n index = fewer _ f n _ (omega arith) index
