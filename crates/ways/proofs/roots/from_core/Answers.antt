-- `ways::roots::from_core` meets its contract.
-- Assumes nothing.
use mathlib.Core.Path.{ap, ◌∙◌}
use native.Mathlib.Omega.{arith}
use Rattle.ways.specs.inner.Search.{looked_for}
use Rattle.records.specs.Records.{linked}
use Rattle.tables.proofs.Lift.{header}
use Rattle.reach.proofs.Low.{core_linked}
use Rattle.ways.proofs.Blocks.{core_in, core_out}
use Rattle.ways.proofs.roots.from_core.Goals as goal

pub shift_right-requires : goal.shift_right-requires
shift_right-requires c = omega (arith, (header _ _ c.args.query.now.machine.is_sound).few_cores, c.requires.k_bound)

pub from_block-requires : goal.from_block-requires
from_block-requires c =
    let r = c.block.ensures.value in
    record { b_len = (r.1, ap linked r.0 ∙ core_linked _ _ c.args.query.now.machine.is_sound c.args.k c.requires.k_bound); known = c.requires.known }

pub returns-then-shift_right-eq1 : goal.returns-then-shift_right-eq1
returns-then-shift_right-eq1 c =
    let a = c.args in
    let Q = a.query.now in
    core_in (looked_for Q) Q.machine.memory.now a.group Q.machine.tables.now _ a.k _ c.shift_right.ensures c.if-shift_right-eq1.true c.block.ensures.value.0 c.from_block.ensures

pub returns : goal.returns
returns c =
    let a = c.args in
    let Q = a.query.now in
    core_out (looked_for Q) Q.machine.memory.now _ _ a.group Q.machine.tables.now a.k _ c.shift_right.ensures c.if-shift_right-eq1.false c.requires.known
