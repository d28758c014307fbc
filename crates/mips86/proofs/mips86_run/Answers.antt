-- `mips86::mips86_run` meets its contract.
-- Assumes nothing.
use mathlib.Core.Path.{◌∙◌}
use Rattle.mips86.proofs.mips86_run.Goals as goal

pub returns : goal.returns
returns c = record { value = c.stop_number.ensures ∙ c.run-r.ensures.same_number; accepted_after = c.run-r.ensures.same_accepted; tables_after = c.run-r.ensures.same_tables; memory_after = c.run-r.ensures.same_memory }
