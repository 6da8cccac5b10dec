use Rattle.round_trip.proofs.BackLemmas.{text-back, value-back}
use Rattle.round_trip.proofs.laws.what_is_saved_is_read_back.Goals as goal

pub returns-clause-value : goal.returns-clause-value
returns-clause-value c = λ s legal steady k uri fine. value-back s legal steady k uri fine

pub returns-clause-text : goal.returns-clause-text
returns-clause-text c = λ s legal steady k uri text fine reads utf8. text-back s legal steady k uri fine text reads utf8
