-- `reasons::judge::is_fault` meets its contract.
-- Assumes nothing.
use mathlib.Core.Path.{sym, ap}
use Rattle.ways.specs.declared.want.Fault.{Fault}
use Rattle.reasons.specs.inner.Judging.{fault_at}
use Rattle.reasons.proofs.judge.is_fault.Goals as goal

pub returns-in-Table : goal.returns-in-Table
unfolding fault_at
returns-in-Table c = ap (λ (f : Fault). fault_at f c.args.own c.args.other) (sym c.in-Table.is)

pub returns-in-Touch : goal.returns-in-Touch
unfolding fault_at
returns-in-Touch c = ap (λ (f : Fault). fault_at f c.args.own c.args.other) (sym c.in-Touch.is)
