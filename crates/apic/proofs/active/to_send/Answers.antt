-- `apic::active::to_send` meets its contract.
use borrow.Author.Tests.{eq-eqb, ne_eqb}
use Rattle.apic.specs.Active.{sending}
use Rattle.apic.proofs.active.to_send.Goals.{then-low-eq0-via-then-low-eq0, then-low-eq0-via-else-low-eq0+then-low-eq0-2}
use Rattle.apic.proofs.active.to_send.Goals as goal

pub returns-then-low-eq0 : goal.returns-then-low-eq0
unfolding sending
returns-then-low-eq0 c =
    elim c.then-low-eq0.branch [ then-low-eq0-via-then-low-eq0 w ↦ simp (eq-eqb _ _ w.if-low-eq0.true) | then-low-eq0-via-else-low-eq0+then-low-eq0-2 w ↦ simp (ne_eqb _ _ w.if-low-eq0.false, eq-eqb _ _ w.if-low-eq0-2.true) ]

pub returns : goal.returns
unfolding sending
returns c = simp (ne_eqb _ _ c.if-low-eq0.false, ne_eqb _ _ c.if-low-eq0-2.false, c.by_mode.ensures)
