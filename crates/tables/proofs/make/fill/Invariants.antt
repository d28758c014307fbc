-- `tables::make::fill` meets its contract. The invariant: the blocks of the first k cores are made.
-- Assumes nothing.
use Rattle.tables.proofs.Fresh.{Filling}
use Rattle.tables.proofs.make.fill.Given as goal

abbrev pub invariant-loop-k : goal.invariant-loop-k
invariant-loop-k l = Filling l.initial.tables l.n l.pages l.k l.tables
