-- `separation::pages_apart` meets its contract: two arrays of 4,096 bytes have room for a map each.
-- Assumes nothing.
use Rattle.separation.proofs.pages_apart.Goals as goal

pub returns : goal.returns
returns c = c.maps_apart.ensures
