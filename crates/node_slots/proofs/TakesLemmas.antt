-- Ends that get proxies, while capacity grows.
use Rattle.std.proofs.Common.{◌≡◌, ℕ, zero, suc, ◌+◌, ◌<◌, true, List, [], ◌∷◌, length, get_or, take, add-one, subst, arith}
use Rattle.mm_types.specs.declared.end.End.{End}
use Rattle.links.specs.declared.plan.Edit.{Edit}
use Rattle.links.specs.declared.plan.Edit.TheVariants as edit
use Rattle.node_slots.specs.Cells.{Room}
use Rattle.node_slots.specs.Growth.{Takes, TakesAll}

still_takes : (r s : Room) → ((e : End) → r.mixed e ≡ true → s.mixed e ≡ true) → (x : Edit) → Takes r x → Takes s x
still_takes r s keeps (edit.Cut e v) h = tt
still_takes r s keeps (edit.Put l) h = tt
still_takes r s keeps (edit.Shift e to from) h = tt
still_takes r s keeps (edit.PutProxy e i t) h = keeps e h

-- one more edit of a plan
pub takes_more : (r s : Room) (xs : List Edit) (i : ℕ) (x : Edit) → ((e : End) → r.mixed e ≡ true → s.mixed e ≡ true) → i < length xs → x ≡ get_or xs i x → TakesAll r (take i xs) → Takes s x → TakesAll s (take (i + 1) xs)
takes_more r s xs i x keeps lt is before now = rw add-one (by xs i lt is before)
  where
    by : (ys : List Edit) (k : ℕ) → k < length ys → x ≡ get_or ys k x → TakesAll r (take k ys) → TakesAll s (take (suc k) ys)
    by [] k lt is h = absurd (omega (arith, lt))
    by (y ∷ ys) zero lt is h = (subst (Takes s) is now, tt)
    by (y ∷ ys) (suc k) lt is h = (still_takes r s keeps y h.0, by ys k (omega (arith, lt)) is h.1)
