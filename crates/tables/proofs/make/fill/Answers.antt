use mathlib.Core.Path.{sym, ◌∙◌}
use native.Mathlib.Omega.{arith}
use Rattle.tables.proofs.Fresh.{filling_start, filling_next, filling_long, filling_end}
use Rattle.tables.proofs.make.fill.Goals as goal

pub loop-k-init : goal.loop-k-init
loop-k-init c = filling_start _ c.args.tables.now _ _ c.requires.0 (omega arith) c.make_header.ensures

pub make_core-requires : goal.make_core-requires
make_core-requires c = let F = c.loop-k.invariant in (omega (arith, F.few), omega (arith, filling_long F, F.long))

pub loop-k-preserved : goal.loop-k-preserved
loop-k-preserved c = rw c.make_core.ensures (filling_next c.loop-k.invariant c.loop-k-test.true)

pub shape_of-tables : goal.shape_of-tables
shape_of-tables c = let F = c.loop-k.invariant in filling_long F ∙ F.long ∙ sym c.requires.1

pub returns : goal.returns
returns c = filling_end c.loop-k.invariant c.loop-k-test.false
