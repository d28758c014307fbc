use native.Mathlib.Omega.{arith}
use Rattle.ways.specs.inner.Search.{looked_for, member_ways}
use Rattle.ways.proofs.Blocks.{cores_start, cores_next, cores_end}
use Rattle.ways.proofs.roots.from_cores.Goals as goal

pub loop-k-init : goal.loop-k-init
loop-k-init c = let Q = c.args.query.now in cores_start (looked_for Q) Q.machine.memory.now _ _ _ c.requires

pub loop-k-preserved : goal.loop-k-preserved
loop-k-preserved c =
    let Q = c.args.query.now in
    let l = c.loop-k in
    cores_next (looked_for Q) Q.machine.memory.now (member_ways c.args.group Q.machine.tables.now Q.machine.memory.now) l.k l.invariant c.from_core-found.ensures

pub returns : goal.returns
returns c =
    let Q = c.args.query.now in
    let l = c.loop-k in
    cores_end (looked_for Q) Q.machine.memory.now _ _ _ c.args.group Q.machine.tables.now l.k _ (omega (arith, c.cores-k-end.ensures)) l.invariant
