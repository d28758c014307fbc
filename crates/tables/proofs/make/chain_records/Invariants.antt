-- `tables::make::chain_records` meets its contract. The invariant: r - 1 records are chained.
-- Assumes nothing.
use Prim.Native.Nat.{◌-◌}
use Rattle.tables.proofs.Fresh.{Chaining}
use Rattle.tables.proofs.make.chain_records.Given as goal

abbrev pub invariant-loop-r : goal.invariant-loop-r
invariant-loop-r l = Chaining l.initial.b (l.r - 1) l.b
