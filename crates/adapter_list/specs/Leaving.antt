-- Targets at objects that a change destroys. These targets are taken away after the chain of notifications is delivered. The capacity for
-- the last notifications from these targets is reserved before anything changes.
use Rattle.std.specs.Prelude.{◌≡◌, Box, ℕ, ◌+◌, ◌≤◌, List, [], length, Option, vec_capacity, vec_len}
use Rattle.std.specs.Option.{option_map_or}
use Rattle.notice_chain.specs.Listed.{Listed}
use Rattle.notice_chain.specs.Released.{Released, Spot, released_adapters}
use Rattle.notice_chain.specs.declared.notice.Notice.{Notice}
use Rattle.adapter_list.specs.Rounds.{adapters_after_copies}
use Rattle.adapter_list.specs.declared.leaving.Leaving.{Leaving}

-- the targets of a `Leaving`; no targets if there is no `Leaving`
abbrev pub spots_in : {A B : Type 0} → Option (Box (Leaving A) B) → List Spot
spots_in q = option_map_or (λ x. x.value.release) q []

-- the result (`Released`) of taking the targets ss away from the adapters rs, after the copies `copies` of a round were delivered to these
-- adapters
abbrev pub leavers : List Spot → List (ℕ × Notice) → List Listed → Released
leavers ss copies rs = released_adapters ss (adapters_after_copies copies rs)

-- the list `told` of x is empty, and has capacity for `chain_told` copies of notifications and for the last notification from each target
-- that is taken away
pub record HasRoom {A : Type 0} (chain_told : ℕ) (x : Leaving A) : Type 0 where
  pub nothing_told : vec_len x.told ≡ 0
  pub told : chain_told + length x.release ≤ vec_capacity x.told
