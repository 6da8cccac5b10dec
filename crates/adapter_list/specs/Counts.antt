-- How many copies (`Rounds`) each adapter gets, whether the adapter is ready for its copies, and which adapter is the first that is too
-- full for its copies.
use Rattle.std.specs.Prelude.{◌≡◌, ◌&&◌, ℕ, Bool, true, nat_eq, nat_lt, [], ◌∷◌, ◌+◌, ◌^◌, ◌<◌, ◌≤◌, List, length, map, slice_index, Option, Some, None}
use Rattle.std.specs.List.{list_any}
use Rattle.notice_chain.specs.Listed.{Listed}
use Rattle.notice_chain.specs.declared.notice.Notice.{Notice}
use Rattle.adapter_list.specs.Rounds.{copies_for}
use Rattle.adapter_list.specs.Targets.{targets_at}

-- how many of the copies cs are for the adapter at index k
abbrev pub copies_len : List (ℕ × Notice) → ℕ → ℕ
copies_len cs k = length (copies_for k cs)

-- a count of copies, and the number of the copies that are not counted yet, add up to the number of all copies; the count is None if no
-- copy is counted yet, and above 0 otherwise
abbrev pub IsCounted : Option ℕ → ℕ → ℕ → Type 0
IsCounted None rest all = rest ≡ all
IsCounted (Some n) rest all = (0 < n) × (n + rest ≡ all)

-- how many notifications the adapter at index k got; 0 if no adapter is at k
abbrev pub told_at_ordinal : List Listed → ℕ → ℕ
told_at_ordinal rs k = slice_index (map (λ r. r.view.told) rs) k

-- from `old` to `new` the adapters stay the same, with their targets and views, and no adapter loses capacity
pub record HasGrown (old new : List Listed × List ℕ) : Type 0 where
  pub kept : new.0 ≡ old.0
  pub as_many : length new.1 ≡ length old.1
  pub no_fewer : (k : ℕ) → slice_index old.1 k ≤ slice_index new.1 k

-- the adapter at index k has capacity for n notifications and for a last notification from each of its targets; if n is above 0, the
-- adapter can also count all these notifications
pub record IsReadyFor (rs : List Listed) (ps : List ℕ) (k n : ℕ) : Type 0 where
  pub places : k < length ps → n + targets_at rs k ≤ slice_index ps k
  pub countable : 0 < n → told_at_ordinal rs k + (n + targets_at rs k) < 2 ^ 64

-- some of the copies cs are for the adapter at index k, and the adapter can't count its copies together with a last notification from each
-- of its targets
pub record IsFullFor (rs : List Listed) (cs : List (ℕ × Notice)) (k : ℕ) : Type 0 where
  pub within : k < length rs
  pub some : 0 < copies_len cs k
  pub full : 2 ^ 64 ≤ told_at_ordinal rs k + (copies_len cs k + targets_at rs k)

-- the adapter at index k is the first in attach order that is too full for its copies (`IsFullFor`): each adapter before it is ready for
-- its own copies (`IsReadyFor`)
pub record IsFirstFull (rs : List Listed) (ps : List ℕ) (cs : List (ℕ × Notice)) (k : ℕ) : Type 0 where
  pub full : IsFullFor rs cs k
  pub earlier : (j : ℕ) → j < k → IsReadyFor rs ps j (copies_len cs j)

-- for each copy, in order, the index of its adapter
abbrev pub ordinals : List (ℕ × Notice) → List ℕ
ordinals cs = map (λ c. c.0) cs

-- whether k is greater than j, the index that comes before k in a list of indexes; true if no index comes before k
abbrev pub is_after : Option ℕ → ℕ → Bool
is_after None k = true
is_after (Some j) k = nat_lt j k

-- whether each index of a list is greater than the index that comes before it; `before` is the index that comes before the first of the
-- list; None if there is no such index
abbrev pub ascends : Option ℕ → List ℕ → Bool
ascends before [] = true
ascends before (k ∷ ks) = is_after before k && ascends (Some k) ks

-- whether some copy is for the adapter at index k
abbrev pub is_ordinal_of : List (ℕ × Notice) → ℕ → Bool
is_ordinal_of cs k = list_any (λ c. nat_eq c.0 k) cs
