-- `tables::sound_words` meets its contract: it is the definition.
-- Assumes nothing.
use mathlib.Core.Path.{ap}
use mathlib.Core.Bool.{Bool, ◌&&◌}
use lib.ListN.{get_or}
use lib.Dec.{eqb, ltb, leb}
use Rattle.tables.specs.Sound.{sound_words}
use Rattle.tables.proofs.sound_words.Goals as goal

pub returns : goal.returns
unfolding sound_words
returns c =
    let b = c.args.b.now in
    ap
    (λ (r : Bool). eqb (get_or b 0 0) 0 && (eqb (get_or b 71 0) 0 && (r && (leb (get_or b 67 0) 1 && (leb (get_or b 112 0) 1 && (leb (get_or b 114 0) 1 && ltb (get_or b 113 0) 256))))))
    c.zero_from-rest.ensures
