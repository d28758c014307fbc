-- `tables::make::make` meets its contract, answer by answer.
-- Assumes nothing.
use mathlib.Core.Path.{ap}
use native.Mathlib.Omega.{arith}
use lib.ListN.{length}
use Rattle.tables.specs.Make.{number_of}
use Rattle.tables.proofs.Answers.{refuse_cores, refuse_memory, refuse_length, accept, few_cores, few_pages}
use Rattle.tables.proofs.make.make.Goals as goal

pub returns-then-n : goal.returns-then-n
returns-then-n c = record { result_value = refuse_cores _ _ _ c.if-n.true; number = ap number_of (refuse_cores _ _ _ c.if-n.true); tables_after = rw (← refuse_cores _ _ _ c.if-n.true) }

pub returns-then-memory-pages : goal.returns-then-memory-pages
returns-then-memory-pages c = record { result_value = refuse_memory _ _ _ c.if-n.false c.if-memory-pages.true; number = ap number_of (refuse_memory _ _ _ c.if-n.false c.if-memory-pages.true); tables_after = rw (← refuse_memory _ _ _ c.if-n.false c.if-memory-pages.true) }

pub returns-then-tables-n : goal.returns-then-tables-n
returns-then-tables-n c = record { result_value = refuse_length _ _ _ c.if-n.false c.if-memory-pages.false c.if-tables-n.true; number = ap number_of (refuse_length _ _ _ c.if-n.false c.if-memory-pages.false c.if-tables-n.true); tables_after = rw (← refuse_length _ _ _ c.if-n.false c.if-memory-pages.false c.if-tables-n.true) }

pub overflow_cast-pages : goal.overflow_cast-pages
overflow_cast-pages c = omega (arith, few_pages c.args.n (length c.args.memory.now) (length c.args.tables.now) c.if-n.false c.if-memory-pages.false)

pub fill-requires : goal.fill-requires
fill-requires c = (few_cores c.args.n (length c.args.memory.now) (length c.args.tables.now) c.if-n.false, c.if-tables-n.false)

pub returns : goal.returns
returns c = record { result_value = accept _ _ _ c.if-n.false c.if-memory-pages.false c.if-tables-n.false; number = ap number_of (accept _ _ _ c.if-n.false c.if-memory-pages.false c.if-tables-n.false); tables_after = rw (← accept _ _ _ c.if-n.false c.if-memory-pages.false c.if-tables-n.false) c.fill.ensures }
