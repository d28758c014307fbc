use native.Mathlib.Omega.{arith}
use mathlib.Core.Path.{refl}
use Rattle.text.proofs.Texts.{grown, as_it_was}
use Rattle.picture.specs.Pages as pages
use Rattle.picture.proofs.Marks.{rows_more}
use Rattle.picture.proofs.pages.put_picture.Goals as goal

pub loop-n-init : goal.loop-n-init
unfolding pages.rows
loop-n-init g c = (as_it_was _ refl, omega arith)

pub loop-n-preserved : goal.loop-n-preserved
loop-n-preserved g c = (grown _ _ _ c.loop-n.invariant.0 c.put_row.ensures.text (rows_more _ _ c.loop-n.n), omega (arith, c.put_row.ensures.bound, c.loop-n.invariant.1))
