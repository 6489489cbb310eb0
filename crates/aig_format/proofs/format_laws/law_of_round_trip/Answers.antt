use Rattle.aig_format.proofs.RoundTrip.{ascii_round_trip, binary_round_trip, text_spells}
use Rattle.aig_format.proofs.format_laws.law_of_round_trip.Goals as goal

pub returns-clause-ascii : goal.returns-clause-ascii
returns-clause-ascii c = ascii_round_trip

pub returns-clause-binary : goal.returns-clause-binary
returns-clause-binary c = binary_round_trip

pub returns-clause-text : goal.returns-clause-text
returns-clause-text c = text_spells
