use Rattle.round_trip.proofs.ReadAsLemmas.{all-read}
use Rattle.round_trip.proofs.laws.each_value_is_read_as_it_was.Goals as goal

pub returns : goal.returns
returns c = all-read
