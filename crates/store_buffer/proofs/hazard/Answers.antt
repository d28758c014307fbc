-- `store_buffer::hazard` meets its contract.
-- Assumes nothing.
use mathlib.Core.Path.{sym, ◌∙◌}
use Rattle.store_buffer.proofs.Served.{found_mixed, found_other}
use Rattle.store_buffer.proofs.hazard.Goals as goal

pub returns-in-Mixed : goal.returns-in-Mixed
returns-in-Mixed c = sym (found_mixed _ _ _ (sym c.in-Mixed.is ∙ c.find.ensures))

pub returns-in_default : goal.returns-in_default
returns-in_default c = found_other _ _ _ _ c.find.ensures c.in_default.not-Mixed
