-- `mips86::mips86_make` meets its contract.
-- Assumes nothing.
use mathlib.Core.Path.{ap, ◌∙◌}
use Rattle.numbers.specs.Numbers.{refusal_or0}
use Rattle.mips86.proofs.mips86_make.Goals as goal

pub returns : goal.returns
returns c = record { value = c.made_number.ensures ∙ ap refusal_or0 c.make.ensures.result_value; tables_after = c.make.ensures.tables_after }
