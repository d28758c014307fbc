-- `tables::make::make_core` meets its contract: the block is lent as a part of the tables.
-- Assumes nothing.
use mathlib.Core.Path.{◌∙◌}
use Rattle.layout.proofs.Blocks.{part_put}
use Rattle.tables.proofs.make.make_core.Goals as goal

pub returns : goal.returns
returns c =
    part_put c.args.tables.now c.args.k c.block_at-a.result c.block_at-a.ensures c.make_block.new.b
    ∙ rw c.make_block.ensures
