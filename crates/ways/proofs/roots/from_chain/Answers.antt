-- `ways::roots::from_chain` meets its contract.
-- Assumes nothing.
use mathlib.Core.Path.{ap, ◌∙◌}
use Rattle.std.proofs.lemmas.Iterator.Consumers.{YieldsList-at, YieldsList-from_first, YieldsList-end}
use Rattle.records.specs.inner.Chains.{records_from}
use Rattle.ways.specs.inner.Search.{looked_for}
use Rattle.ways.specs.declared.Way.{Way}
use Rattle.ways.proofs.Blocks.{chain_start, chain_next, chain_ends, way_root}
use Rattle.ways.proofs.roots.from_chain.Goals as goal

pub loop-record-init : goal.loop-record-init
loop-record-init c = let q = c.args.query.now in chain_start (looked_for q) q.machine.memory.now c.args.k c.args.store _ _ c.requires.known

pub from_root-found-requires : goal.from_root-found-requires
from_root-found-requires c =
    record { entries_value = ap (λ (v : Way). v.entries) c.record_way-way.ensures ∙ way_root c.args.k c.args.store _; known = c.loop-record.invariant.known }

pub loop-record-preserved : goal.loop-record-preserved
loop-record-preserved c =
    let q = c.args.query.now in
    chain_next (looked_for q) q.machine.memory.now c.args.k c.args.store _ _ _ c.loop-record.invariant c.record_way-way.ensures c.from_root-found.ensures

pub returns : goal.returns
returns c =
    let q = c.args.query.now in
    let seen = YieldsList-end
    (YieldsList-at c.into_iter-record-iterator.ensures.into_iter_gives
    (YieldsList-from_first (λ x. x) (λ s. records_from s.block.now s.left s.next) _ c.at-record-items.ensures))
    c.loop-record.yielded c.loop-record.record-iterator c.loop-record.yielded_by c.next.result c.next.new.self c.in-None.is c.next.ensures.steps in
    chain_ends (looked_for q) q.machine.memory.now c.args.k c.args.store _ _ _ _ _ _ _ seen.0 c.loop-record.invariant
