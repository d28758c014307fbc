-- `tables::sound` meets its contract, part by part.
-- Assumes nothing.
use mathlib.Core.Path.{sym, ◌∙◌}
use native.Mathlib.Omega.{arith}
use Rattle.tables.proofs.Parts.{Header, header_of, sound_header_fail, sound_by_blocks}
use Rattle.tables.proofs.sound.Goals as goal
use Rattle.tables.proofs.sound.Goals.{Else-not-sound_header}

pub returns-then-not-sound_header : goal.returns-then-not-sound_header
returns-then-not-sound_header c = sound_header_fail _ _ _ (c.if-not-sound_header.true) c.sound_header.ensures

header : (c : Else-not-sound_header) → Header c.args.bytes c.args.tables.now
header c = header_of _ _ (sym c.sound_header.ensures ∙ c.if-not-sound_header.false)

pub bounds-tables-0 : goal.bounds-tables-0
bounds-tables-0 c = omega (arith, header (goal.at.bounds-tables-0 c).Else-not-sound_header)

pub sound_blocks-requires : goal.sound_blocks-requires
sound_blocks-requires c = let H = header (goal.at.sound_blocks-requires c).Else-not-sound_header in (H.few_cores, omega (arith, H.long))

pub returns : goal.returns
returns c = c.sound_blocks.ensures ∙ sound_by_blocks _ _ _ (c.if-not-sound_header.false) c.sound_header.ensures
