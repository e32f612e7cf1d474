use Rattle.pair_walk.proofs.ListingLemmas.{every_listing}
use Rattle.pair_walk.proofs.every_listing.Goals as goal

pub returns : goal.returns
returns c = every_listing
