-- `records::check::walk_sound` meets its contract: it is the definition.
-- Assumes nothing.
use mathlib.Core.Path.{refl}
use Rattle.records.specs.Contents.{walk_sound}
use Rattle.records.proofs.check.walk_sound.Goals as goal

pub returns : goal.returns
unfolding walk_sound
returns c = refl
