-- `machine::decide::action` meets its contract.
-- Assumes nothing.
use mathlib.Core.Path.{refl}
use Rattle.machine.specs.Decide.{by_apic}
use Rattle.machine.proofs.decide.action.Goals as goal

pub returns-in-SendIpi : goal.returns-in-SendIpi
unfolding by_apic
returns-in-SendIpi c = rw (c.in-SendIpi.is, c.to_send-in-SendIpi.ensures, c.to_send.ensures, c.block.ensures.0) refl

pub returns-in-SendEoi : goal.returns-in-SendEoi
unfolding by_apic
returns-in-SendEoi c = rw (c.in-SendEoi.is, c.to_end.ensures, c.pending_eoi.ensures, c.block-in-SendEoi.ensures.0) refl

pub returns-in-InitCore : goal.returns-in-InitCore
unfolding by_apic
returns-in-InitCore c = rw (c.in-InitCore.is, c.if_allowed.ensures, c.may_init.ensures, c.block-in-InitCore.ensures.0) refl

pub returns-in-StartCore : goal.returns-in-StartCore
unfolding by_apic
returns-in-StartCore c = rw (c.in-StartCore.is, c.if_allowed-in-StartCore.ensures, c.may_start.ensures, c.block-in-StartCore.ensures.0) refl

pub returns-in-Sample : goal.returns-in-Sample
unfolding by_apic
returns-in-Sample c = rw (c.in-Sample.is, c.if_allowed-in-Sample.ensures, c.may_sample.ensures) refl

pub returns-in-Deliver : goal.returns-in-Deliver
unfolding by_apic
returns-in-Deliver c = rw (c.in-Deliver.is, c.if_allowed-in-Deliver.ensures, c.may_deliver.ensures) refl

pub returns-in-SetLine : goal.returns-in-SetLine
unfolding by_apic
returns-in-SetLine c = rw c.in-SetLine.is refl
