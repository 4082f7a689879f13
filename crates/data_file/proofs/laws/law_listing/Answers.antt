use Rattle.data_file.proofs.Unique.{listing_unique}
use Rattle.data_file.proofs.laws.law_listing.Goals as goal

pub returns : goal.returns
returns c = listing_unique
