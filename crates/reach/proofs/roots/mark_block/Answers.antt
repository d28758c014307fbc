-- `reach::roots::mark_block` meets its contract.
-- Assumes nothing.
use Rattle.reach.proofs.Chains.{block_names}
use Rattle.reach.proofs.roots.mark_block.Goals as goal

pub returns : goal.returns
returns c = block_names c.args.b.now _ c.origin.ensures c.mark.ensures c.mark_chain.ensures c.mark_chain-2.ensures
