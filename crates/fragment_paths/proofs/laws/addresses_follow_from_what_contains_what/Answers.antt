use Rattle.fragment_paths.proofs.StayLemmas.{above-stays, address-stays, fragment-stays}
use Rattle.fragment_paths.proofs.laws.addresses_follow_from_what_contains_what.Goals as goal

pub returns : goal.returns
returns c = λ m v w a b legal other same. record {
  above = above-stays m v w a b legal other same;
  fragment = fragment-stays m v w a b legal other same;
  address = address-stays m v w a b legal other same;
}
