use Rattle.bti_nodes.proofs.RoundTrip.{round_trip}
use Rattle.bti_nodes.proofs.laws.law_round_trip.Goals as goal

pub returns : goal.returns
returns c = round_trip
