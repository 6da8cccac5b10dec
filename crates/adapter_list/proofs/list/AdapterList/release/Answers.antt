use Rattle.std.proofs.Common.{List, ap, arith, length}
use Rattle.notice_chain.specs.Released.{Spot}
use Rattle.adapter_list.proofs.list.AdapterList.release.Goals as goal

pub release-requires-clause-told_room : goal.release-requires-clause-told_room
release-requires-clause-told_room g c =
    let many = ap (λ (ss : List Spot). length ss) c.deref.ensures.value in
    let spots = ap (λ (ss : List Spot). length ss) c.into_parts-spots.ensures.spots in
    omega (arith, c.into_parts-spots.ensures.told.0, c.into_parts-spots.ensures.told.1, many, spots)

pub release-requires-clause-released_room : goal.release-requires-clause-released_room
release-requires-clause-released_room g c =
    let many = ap (λ (ss : List Spot). length ss) c.deref.ensures.value in
    let spots = ap (λ (ss : List Spot). length ss) c.into_parts-spots.ensures.spots in
    omega (arith, c.into_parts-spots.ensures.released.0, c.into_parts-spots.ensures.released.1, many, spots)
