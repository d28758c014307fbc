-- `mips86::mips86_step` meets its contract.
-- Assumes nothing.
use mathlib.Core.Path.{◌∙◌}
use Rattle.mips86.proofs.Numbers.{answer_fits}
use Rattle.mips86.proofs.mips86_step.Goals as goal

pub answer_number-requires : goal.answer_number-requires
answer_number-requires c = rw c.step.ensures.value (answer_fits c.args.tables.now c.args.memory.now c.args.step.now)

pub returns : goal.returns
returns c = record { value = c.answer_number.ensures ∙ c.step.ensures.result_value; tables_after = c.step.ensures.t_after; memory_after = c.step.ensures.m_after }
