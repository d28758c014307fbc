-- The block of a core as a part of the tables.
-- Assumes nothing.
use Rattle.std.specs.Prelude.{List, ◌++◌, ℕ, take, drop}
use Rattle.layout.specs.Layout.{block_words, block_at}

unfoldable pub block : List ℕ → ℕ → List ℕ
block t k = take block_words (drop (block_at k) t)

-- the tables with another block for core k
unfoldable pub with_block : List ℕ → ℕ → List ℕ → List ℕ
with_block t k b = take (block_at k) t ++ (b ++ drop block_words (drop (block_at k) t))
