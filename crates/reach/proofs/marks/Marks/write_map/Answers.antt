-- `reach::marks::Marks::write_map` meets its contract.
-- Assumes nothing.
use mathlib.Core.Path.{sym, ◌∙◌}
use Rattle.reach.proofs.Passes.{map_start, map_next, map_end}
use Rattle.reach.proofs.marks.Marks.write_map.Goals as goal

pub loop-page-init : goal.loop-page-init
loop-page-init c = map_start _ _ _ c.requires

pub loop-page-preserved : goal.loop-page-preserved
loop-page-preserved c = map_next _ _ _ c.loop-page.page _ c.loop-page.invariant c.loop-page-test.true c.map_byte.ensures

pub shape_of-map : goal.shape_of-map
shape_of-map c = c.loop-page.invariant.long ∙ sym c.requires

pub returns : goal.returns
returns c = map_end _ _ _ c.loop-page.page c.loop-page.invariant c.loop-page-test.false
