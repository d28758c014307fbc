-- `tlb::pte` meets its contract, whether the entry is there or not.
-- Assumes nothing.
use Rattle.tlb.proofs.Entries.{read_in, read_out}
use Rattle.tlb.proofs.pte.Goals as goal

pub returns-then-at-m : goal.returns-then-at-m
returns-then-at-m c = read_in _ c.ptea-at.ensures c.read_word.ensures c.if-at-m.true

pub returns-else-at-m : goal.returns-else-at-m
returns-else-at-m c = read_out _ c.ptea-at.ensures c.if-at-m.false
