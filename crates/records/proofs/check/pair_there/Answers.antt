-- `records::check::pair_there` meets its contract.
-- Assumes nothing.
use mathlib.Core.Bool.{◌&&◌}
use Rattle.records.proofs.check.pair_there.Goals as goal

pub returns : goal.returns
returns c = λ i. c.there.ensures i && c.there-2.ensures i
