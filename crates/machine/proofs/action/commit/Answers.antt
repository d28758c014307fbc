use mathlib.Core.Path.{◌∙◌, refl}
use native.Mathlib.Omega.{arith}
use borrow.Author.Tests.{ltb-true}
use Rattle.layout.proofs.Blocks.{part_done}
use Rattle.apic.specs.Active.{init_core, start_core}
use Rattle.tables.specs.Views.{cores_of}
use Rattle.machine.proofs.Fitting.{ipi_asks, eoi_asks, init_asks, start_asks, sample_asks, deliver_asks, line_asks}
use Rattle.machine.specs.Actions.{tables_after}
use Rattle.machine.proofs.action.commit.Goals as goal

pub send_ipi-requires : goal.send_ipi-requires
send_ipi-requires c = let f = ipi_asks (cores_of c.args.t.now) c.requires.a_value _ _ c.in-SendIpi.is in (c.requires.t_few, c.requires.t_len, ltb-true _ _ f.0)

pub send_eoi-requires : goal.send_eoi-requires
send_eoi-requires c = let f = eoi_asks (cores_of c.args.t.now) c.requires.a_value _ _ c.in-SendEoi.is in (c.requires.t_few, c.requires.t_len, ltb-true _ _ f.0)

pub slice_bounds-init_core-end : goal.slice_bounds-init_core-end
slice_bounds-init_core-end c =
    let h = ltb-true _ _ (init_asks (cores_of c.args.t.now) c.requires.a_value _ c.in-InitCore.is) in
    omega (arith, h, c.requires.t_len)

pub slice_bounds-start_core-end : goal.slice_bounds-start_core-end
slice_bounds-start_core-end c =
    let h = ltb-true _ _ (start_asks (cores_of c.args.t.now) c.requires.a_value _ c.in-StartCore.is) in
    omega (arith, h, c.requires.t_len)

pub sample-requires : goal.sample-requires
sample-requires c = (omega (arith, c.requires.t_len), sample_asks (cores_of c.args.t.now) c.requires.a_value _ c.in-Sample.is)

pub deliver-requires : goal.deliver-requires
deliver-requires c = (c.requires.t_few, c.requires.t_len, deliver_asks (cores_of c.args.t.now) c.requires.a_value _ c.in-Deliver.is)

pub set_line-requires : goal.set_line-requires
set_line-requires c = let f = line_asks (cores_of c.args.t.now) c.requires.a_value _ _ c.in-SetLine.is in (omega (arith, c.requires.t_len), f.0, f.1)

pub returns-in-SendIpi : goal.returns-in-SendIpi
unfolding tables_after
returns-in-SendIpi c = c.send_ipi.ensures ∙ rw c.in-SendIpi.is refl

pub returns-in-SendEoi : goal.returns-in-SendEoi
unfolding tables_after
returns-in-SendEoi c = c.send_eoi.ensures ∙ rw c.in-SendEoi.is refl

pub returns-in-InitCore : goal.returns-in-InitCore
unfolding tables_after
returns-in-InitCore c =
    let q = c.in-InitCore.is in
    let at = c.block_at-at in
    part_done c.args.t.now _ at.result at.ensures init_core c.init_core.new.b c.init_core.ensures ∙ rw q refl

pub returns-in-StartCore : goal.returns-in-StartCore
unfolding tables_after
returns-in-StartCore c =
    let q = c.in-StartCore.is in
    let at = c.block_at-at-in-StartCore in
    part_done c.args.t.now _ at.result at.ensures start_core c.start_core.new.b c.start_core.ensures ∙ rw q refl

pub returns-in-Sample : goal.returns-in-Sample
unfolding tables_after
returns-in-Sample c = c.sample.ensures ∙ rw c.in-Sample.is refl

pub returns-in-Deliver : goal.returns-in-Deliver
unfolding tables_after
returns-in-Deliver c = c.deliver.ensures ∙ rw c.in-Deliver.is refl

pub returns-in-SetLine : goal.returns-in-SetLine
unfolding tables_after
returns-in-SetLine c = c.set_line.ensures ∙ rw c.in-SetLine.is refl
