-- `tables::make::make_block` meets its contract: the block is cleared, and then its few words are written.
-- Assumes nothing.
use mathlib.Core.Path.{sym, ap, ◌∙◌}
use native.Mathlib.Omega.{arith}
use lib.ListN.{length-set}
use Rattle.tables.proofs.Fresh.{block_made}
use mathlib.Core.List.{List}
use Prim.Native.Nat.{ℕ}
use lib.ListN.{length}
use Rattle.tables.proofs.Fresh.{block_long}
use Rattle.tables.proofs.make.make_block.Goals as goal

pub bounds-b-72 : goal.bounds-b-72
bounds-b-72 c = simp length-set (omega arith)

pub chain_records-requires : goal.chain_records-requires
chain_records-requires c = simp length-set (omega arith)

pub shape_of-b : goal.shape_of-b
shape_of-b c =
    ap (λ (l : List ℕ). length l) (c.chain_records.ensures ∙ block_made _ _ c.args.k c.requires.0 (c.fill.ensures.after (λ y e. e)))
    ∙ block_long c.args.k ∙ sym c.requires.0

pub returns : goal.returns
returns c = c.chain_records.ensures ∙ block_made _ _ _ c.requires.0 (c.fill.ensures.after (λ y e. e))
