-- `tables::sound_blocks` meets its contract. The invariant: the blocks of the first k cores decide.
-- Assumes nothing.
use mathlib.Core.Path.{◌≡◌}
use Rattle.tables.specs.Sound.{sound_blocks}
use Rattle.tables.proofs.sound_blocks.Given as goal

abbrev pub invariant-loop-k : goal.invariant-loop-k
invariant-loop-k l = sound_blocks l.k l.bytes l.tables ≡ sound_blocks l.cores l.bytes l.tables
