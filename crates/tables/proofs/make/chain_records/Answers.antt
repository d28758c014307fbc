use native.Mathlib.Omega.{arith}
use Rattle.tables.proofs.Fresh.{chaining_start, chaining_turn}
use Rattle.tables.proofs.make.chain_records.Goals as goal

pub loop-r-init : goal.loop-r-init
loop-r-init c = chaining_start _ c.requires

pub loop-r-preserved : goal.loop-r-preserved
loop-r-preserved c = chaining_turn c.loop-r.invariant c.loop-r.r _ (omega arith) (omega arith) (omega arith)
