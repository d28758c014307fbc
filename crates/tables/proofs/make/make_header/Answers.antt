-- `tables::make::make_header` meets its contract: 32 words are cleared, and two written.
-- Assumes nothing.
use native.Mathlib.Omega.{arith}
use lib.ListN.{length-set}
use Rattle.tables.proofs.Fresh.{header_made}
use Rattle.tables.proofs.make.make_header.Goals as goal

pub bounds-tables-1 : goal.bounds-tables-1
bounds-tables-1 c = simp length-set (omega arith)

pub returns : goal.returns
returns c = header_made _ c.args.tables.now _ _ c.requires (c.fill.ensures.after (λ y e. e))
