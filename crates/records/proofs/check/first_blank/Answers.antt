-- `records::check::first_blank` meets its contract.
-- Assumes nothing.
use mathlib.Core.Path.{ap}
use mathlib.Core.Bool.{Bool, ◌&&◌}
use lib.Dec.{eqb}
use lib.ListN.{get_or}
use Rattle.records.proofs.check.first_blank.Goals as goal

pub returns : goal.returns
returns c = ap (λ (t : Bool). eqb (get_or c.args.b.now 128 0) 0 && t) c.obeys.ensures
