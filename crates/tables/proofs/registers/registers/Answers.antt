-- `tables::registers::registers` meets its contract, field by field.
-- Assumes nothing.
use lib.ListN.{get_or}
use Rattle.tables.specs.Views.{registers_of}
use Rattle.tables.proofs.registers.registers.Goals as goal

pub returns : goal.returns
unfolding registers_of
returns c =
    let b = c.args.b.now in
    λ i. record { gpr = c.words-gpr.ensures i; spr = c.words-spr.ensures i; pc = get_or b 64 0; hi = get_or b 65 0; lo = get_or b 66 0 }
