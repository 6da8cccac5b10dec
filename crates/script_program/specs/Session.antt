-- A session: a repository, and the pool of adapters that its script can attach.
use Rattle.std.specs.Prelude.{◌≡◌, List, slice_get, Option, Ok, Err, option_map, fold, map, Some}
use Rattle.std.specs.Option.{option_map_or, option_zip}
use Rattle.std.specs.List.{All}
use Rattle.mm_types.specs.Resolved.{Metamodel}
use Rattle.mm_types.specs.declared.numbers.AdapterNo.{AdapterNo}
use Rattle.notice_chain.specs.View.{View}
use Rattle.repository.specs.State.{State, empty_state}
use Rattle.repository.specs.Step.{attached_adapters}
use Rattle.repository.specs.Views.{Outcome}
use Rattle.repository.specs.declared.command.Command.{Command}
use Rattle.script_program.specs.Pool.{Pool, box_of, pool_without, with_box}

pub record Session : Type 0 where
  pub state : State
  pub pool : Pool

abbrev pub session : State → Pool → Session
session s pool = record { state = s; pool = pool }

-- a repository, and all adapters in the pool
abbrev pub session_with : {A : Type 0} → (A → View) → State → List A → Session
session_with heard s boxes = session s (map (λ a. Some (heard a)) boxes)

-- an empty repository, and all adapters in the pool
abbrev pub first_session : {A : Type 0} → (A → View) → Metamodel → List A → Session
first_session heard m boxes = session_with heard (empty_state m) boxes

-- if a command attaches an adapter, the pool has this adapter under its number
abbrev pub IsBrought : Pool → Command View → Type 0
IsBrought pool c = All (λ a. box_of pool a.no ≡ Ok a.view) (attached_adapters c)

-- the pool without the adapter that a command attaches; the pool as it is if the command attaches no adapter
abbrev pub pool_after_take : Pool → Command View → Pool
pool_after_take pool c = fold pool_without pool (map (λ a. a.no) (attached_adapters c))

-- the pool after a command: without the adapter that was attached, and with the adapters that were released; a refused command leaves the
-- pool as it was
abbrev pub pool_after : Pool → Command View → Outcome → Pool
pool_after pool c (Ok r) = fold with_box (pool_after_take pool c) r.released
pool_after pool c (Err f) = pool

-- the number of the adapter that a command attaches; none if the command attaches no adapter
abbrev pub brought_no : Command View → Option AdapterNo
brought_no c = option_map (λ a. a.no) (slice_get (attached_adapters c) 0)

-- the pool after the adapters of an outcome are put back: after a success the released adapters; after a failure the adapter that the
-- command was to attach, if any, under `number`
abbrev pub pool_after_return : Pool → Option AdapterNo → Outcome → Pool
pool_after_return pool number (Ok r) = fold with_box pool r.released
pool_after_return pool number (Err f) = option_map_or (with_box pool) (option_zip number f.given_back) pool
