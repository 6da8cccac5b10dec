-- Two features of one name, by the names gathered from the classes that a class conforms to.
use Rattle.std.proofs.Common.{◌≡◌, ◌∙◌, ◌<◌, ◌⊎◌, ◌↔◌, Bool, true, List, [], ℕ, ⊎_elim, arith, sym}
use Rattle.std.specs.Prelude.{IsTrue}
use Rattle.std.proofs.lemmas.Bool.{cases_order}
use Rattle.mm_types.specs.Clashes.{Clash}
use Rattle.mm_types.specs.Graph.{Conforms}
use Rattle.mm_types.specs.Names.{repeats}
use Rattle.mm_graph.specs.Gathered.{gathered_names}
use Rattle.mm_graph.specs.Sets.{IsSetOf}
use Rattle.mm_graph.proofs.Places.{declared_place, has_place, place_of, same_place}
use Rattle.mm_graph.proofs.Twice.{IsTwice, repeats_twice, twice_repeated}

clash_from_twice : (g : List (List ℕ)) (names : List (List (List ℕ))) (c : ℕ) (s : List Bool) → IsSetOf (Conforms g c) s
    → IsTwice (gathered_names s names) → Clash g names c
clash_from_twice g names c s is t =
    let one = has_place s names t.first t.name t.here in
    let other = has_place s names t.second t.name t.there in
    record {
      one = one.class;
      index = one.index;
      other = other.class;
      other_index = other.index;
      name = t.name;
      one_reached = (is one.class).0 one.kept;
      other_reached = (is other.class).0 other.kept;
      here = one.at;
      there = other.at;
      apart = λ same.
          (let places : place_of s names one.class one.index ≡ place_of s names other.class other.index = cc (same.0, same.1) in
          let firsts = one.place in
          let seconds = other.place in
          let below = t.below in
          omega arith);
    }

twice_from_clash : (g : List (List ℕ)) (names : List (List (List ℕ))) (c : ℕ) (s : List Bool) → IsSetOf (Conforms g c) s
    → Clash g names c → IsTwice (gathered_names s names)
twice_from_clash g names c s is k =
    let one_kept = (is k.one).1 k.one_reached in
    let other_kept = (is k.other).1 k.other_reached in
    let p = place_of s names k.one k.index in
    let q = place_of s names k.other k.other_index in
    let at_p = declared_place s names k.one k.index k.name one_kept k.here in
    let at_q = declared_place s names k.other k.other_index k.name other_kept k.there in
    ⊎_elim
    (λ (e : p ≡ q). absurd (k.apart (same_place s names k.one k.index k.other k.other_index k.name one_kept k.here other_kept k.there e)))
    (λ (n : (p < q) ⊎ (q < p)). ⊎_elim
    (λ (l : p < q). record { first = p; second = q; name = k.name; below = l; here = at_p; there = at_q })
    (λ (l : q < p). record { first = q; second = p; name = k.name; below = l; here = at_q; there = at_p })
    n)
    (cases_order p q)

pub clash_is : (g : List (List ℕ)) (names : List (List (List ℕ))) (c : ℕ) (s : List Bool) (b : Bool) → IsSetOf (Conforms g c) s
    → b ≡ repeats [] (gathered_names s names) → IsTrue b ↔ Clash g names c
clash_is g names c s b is answer = (
  (λ (h : b ≡ true). clash_from_twice g names c s is (repeats_twice (gathered_names s names) (sym answer ∙ h))),
  (λ (k : Clash g names c). answer ∙ twice_repeated (gathered_names s names) (twice_from_clash g names c s is k)),
)
