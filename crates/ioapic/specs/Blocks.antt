-- A function at the block of one core, and at the block of each.
-- Assumes nothing.
use Rattle.std.specs.Prelude.{List, ℕ, zero, suc}
use Rattle.layout.specs.Blocks.{block, with_block}

-- f at the block of core k
abbrev pub on_block : (List ℕ → List ℕ) → ℕ → List ℕ → List ℕ
on_block f k t = with_block t k (f (block t k))

-- f k at the block of each core k < n
unfoldable pub on_blocks : (ℕ → List ℕ → List ℕ) → ℕ → List ℕ → List ℕ
on_blocks f zero t = t
on_blocks f (suc n) t = on_block (f n) n (on_blocks f n t)
