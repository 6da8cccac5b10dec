use Rattle.round_trip.proofs.LeadsLemmas.{leads-back}
use Rattle.round_trip.proofs.laws.a_reference_leads_to_its_object.Goals as goal

pub returns : goal.returns
returns c = λ s legal steady k uri at. leads-back s legal steady k uri at
