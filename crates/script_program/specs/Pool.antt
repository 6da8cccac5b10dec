-- The adapters that a script can attach, by their views.
use Rattle.std.specs.Prelude.{ℕ, ◌-◌, nat_eq, List, slice_get, slice_set, Option, Some, None, option_and_then, Result, Ok, Err, if◌then◌else◌}
use Rattle.std.specs.Option.{option_map_or}
use Rattle.mm_types.specs.declared.numbers.AdapterNo.{AdapterNo}
use Rattle.mm_types.specs.declared.refused.Refused.{Refused}
use Rattle.mm_types.specs.declared.refused.Refused.TheVariants.{NoAdapter, AdapterTaken}
use Rattle.notice_chain.specs.View.{View}

-- the adapters in order: the n-th adapter, counted from 1, has the name An; the entry of an adapter that is attached is `None`
abbrev pub Pool : Type 0
Pool = List (Option View)

-- the index of the adapter with a given number; A0 has no index
abbrev pub index : AdapterNo → Option ℕ
index number = if nat_eq number.0 0 then None else Some (number.0 - 1)

-- the adapter in an entry of the pool, or why it can't be attached: if there is no entry, no adapter has the number (NoAdapter); if the
-- entry is empty, the adapter is attached already (AdapterTaken)
abbrev pub box_in : Option (Option View) → Result View Refused
box_in None = Err NoAdapter
box_in (Some None) = Err AdapterTaken
box_in (Some (Some v)) = Ok v

abbrev pub box_of : Pool → AdapterNo → Result View Refused
box_of pool number = box_in (option_and_then (slice_get pool) (index number))

-- the pool with an adapter, or `None`, as the entry under a number; the pool as it is if it has no entry under this number
abbrev pub with_entry : Option View → Pool → AdapterNo → Pool
with_entry o pool number = option_map_or (λ i. slice_set pool i o) (index number) pool

-- the pool without the adapter with a given number; and `with_box`, the pool with an adapter back in it, under the adapter's number
abbrev pub pool_without : Pool → AdapterNo → Pool
pool_without pool number = with_entry None pool number

abbrev pub with_box : Pool → AdapterNo × View → Pool
with_box pool b = with_entry (Some b.1) pool b.0
