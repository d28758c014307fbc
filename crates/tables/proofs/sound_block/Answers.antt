-- `tables::sound_block` meets its contract, part by part.
-- Assumes nothing.
use mathlib.Core.Path.{◌∙◌}
use Rattle.tables.proofs.Parts.{block_words_fail, block_records}
use Rattle.tables.proofs.sound_block.Goals as goal

pub returns-then-not-sound_words : goal.returns-then-not-sound_words
returns-then-not-sound_words c = block_words_fail _ _ _ (c.if-not-sound_words.true) c.sound_words.ensures

pub returns : goal.returns
returns c = c.sound_records.ensures ∙ block_records _ _ _ (c.if-not-sound_words.false) c.sound_words.ensures
