-- `layout::block` meets its contract: the block is a part of the tables.
-- Assumes nothing.
use mathlib.Core.Path.{◌∙◌, ap}
use lib.ListN.{length}
use Rattle.layout.proofs.Blocks.{part, block_long}
use Rattle.layout.proofs.block.Goals as goal

pub returns : goal.returns
returns c =
    let e = part c.args.t.now c.args.k c.block_at-a.result c.block_at-a.ensures in
    (e, ap length e ∙ block_long c.args.t.now c.args.k c.requires)
