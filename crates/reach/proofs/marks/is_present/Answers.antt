-- `reach::marks::is_present` meets its contract.
-- Assumes nothing.
use Rattle.reach.proofs.Marking.{present_byte}
use Rattle.reach.proofs.marks.is_present.Goals as goal

pub returns : goal.returns
returns c = let a = c.args in present_byte a.m.now a.at (c.type_inv.m a.at).fits
