-- `tlb::on_extend` meets its contract, by the entry.
-- Assumes nothing.
use mathlib.Core.Path.{ap}
use mathlib.Core.Bool.{not}
use Rattle.tlb.proofs.Deciding.{both, added, not_added, extend_missing}
use Rattle.tlb.proofs.on_extend.Goals as goal

pub returns-then-is_accessed-wext_faults : goal.returns-then-is_accessed-wext_faults
returns-then-is_accessed-wext_faults c = added _ c.in-Some.is c.wext.ensures (both _ _ c.is_accessed.ensures (ap not c.wext_faults.ensures) c.if-is_accessed-wext_faults.true)

pub returns-else-is_accessed-wext_faults : goal.returns-else-is_accessed-wext_faults
returns-else-is_accessed-wext_faults c = not_added _ c.in-Some.is (both _ _ c.is_accessed.ensures (ap not c.wext_faults.ensures) c.if-is_accessed-wext_faults.false)

pub returns-in-None : goal.returns-in-None
returns-in-None c = extend_missing _ c.in-None.is
