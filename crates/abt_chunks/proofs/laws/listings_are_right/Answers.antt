use Rattle.abt_chunks.proofs.ListingLaws.{listings_right}
use Rattle.abt_chunks.proofs.laws.listings_are_right.Goals as goal

pub returns : goal.returns
returns c = listings_right
