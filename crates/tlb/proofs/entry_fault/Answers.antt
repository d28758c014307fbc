-- `tlb::entry_fault` meets its contract, in each case.
-- Assumes nothing.
use Rattle.tlb.proofs.Faults.{word_faults, word_passes, missing_undecided}
use Rattle.tlb.proofs.entry_fault.Goals as goal

pub returns-in-Some : goal.returns-in-Some
returns-in-Some c = word_faults _ c.in-Some.is c.wext_faults.ensures c.if-wext_faults.true

pub returns-in-Some-2 : goal.returns-in-Some-2
returns-in-Some-2 c = word_passes _ c.in-Some.is c.wext_faults.ensures c.if-wext_faults.false

pub returns-in-None : goal.returns-in-None
returns-in-None c = missing_undecided _ c.in-None.is
