use native.Mathlib.Omega.{arith}
use Rattle.text.proofs.Texts.{grown, as_it_was}
use Rattle.picture.proofs.Cores.{listed_none, listed_more}
use Rattle.picture.proofs.lines.put_listed.Goals as goal

pub loop-k-init : goal.loop-k-init
loop-k-init g c = (as_it_was _ (listed_none _), omega arith)

pub loop-k-preserved : goal.loop-k-preserved
loop-k-preserved g c = (grown _ _ _ c.loop-k.invariant.0 c.put_core.ensures.text (listed_more _ c.loop-k.k), omega (arith, c.put_core.ensures.bound, c.loop-k.invariant.1))
