-- `separation::sides::page_apart` meets its contract.
-- Assumes nothing.
use mathlib.Core.Path.{ap₂}
use mathlib.Core.Bool.{Bool, ◌&&◌, ◌||◌, not}
use lib.Dec.{eqb}
use Rattle.word.specs.Word.{is_set}
use Rattle.separation.specs.inner.Sides.{page_apart}
use Rattle.separation.proofs.sides.page_apart.Goals as goal

pub returns : goal.returns
unfolding page_apart
returns c =
    ap₂ (λ (p q : Bool). not p && (not q && not (not (eqb c.args.own 0) && (is_set c.args.other 2 || is_set c.args.other 1))))
    c.both.ensures c.both-2.ensures
