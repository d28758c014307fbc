-- `reach::marks::Marks::map_byte` meets its contract.
-- Assumes nothing.
use mathlib.Core.Path.{◌∙◌}
use Rattle.reach.proofs.Passes.{bit_flag, byte_of_lem}
use Rattle.reach.proofs.marks.Marks.map_byte.Goals as goal

pub returns : goal.returns
returns c = byte_of_lem _ c.args.page _ _ _ _ _ _ c.is_marked.ensures c.is_marked-2.ensures c.is_marked-data.ensures (c.from.ensures ∙ bit_flag _) (c.from-2.ensures ∙ bit_flag _) (c.from-3.ensures ∙ bit_flag _)
