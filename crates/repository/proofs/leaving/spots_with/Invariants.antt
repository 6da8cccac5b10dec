use Rattle.std.proofs.Common.{◌≡◌, ◌++◌, ℕ, List, [], drop, slice_get}
use Rattle.std.specs.List.{flat_map}
use Rattle.std.specs.Option.{option_map_or}
use Rattle.notice_chain.specs.Released.{Spot, is_gone_at, spots_of}
use Rattle.removal.specs.Ranks.{is_in}
use Rattle.repository.proofs.leaving.spots_with.Given as goal

abbrev pub invariant-loop-ordinal : goal.invariant-loop-ordinal
invariant-loop-ordinal g l =
    let at : ℕ → List Spot = λ k. option_map_or (spots_of (is_gone_at (is_in l.removal.numbers))) (slice_get l.adapters.0 k) [] in
    l.spots.items ++ flat_map at (drop l.ordinal-index l.ordinal-items) ≡ flat_map at l.ordinal-items
