-- `reach::roots::mark_chain` meets its contract.
-- Assumes nothing.
use Rattle.std.proofs.lemmas.Iterator.Consumers.{YieldsList-at, YieldsList-from_first, YieldsList-end}
use Rattle.records.specs.inner.Chains.{records_from}
use Rattle.reach.proofs.Chains.{chain_small, chain_start, chain_next, chain_ends}
use Rattle.reach.proofs.roots.mark_chain.Goals as goal

pub at-record-items-requires-clause-head_value : goal.at-record-items-requires-clause-head_value
at-record-items-requires-clause-head_value c = chain_small c.args.content _ _ c.head.ensures.0 c.requires.0 c.requires.1

pub loop-record-init : goal.loop-record-init
loop-record-init c = chain_start _ _

pub loop-record-preserved : goal.loop-record-preserved
loop-record-preserved c = chain_next _ _ _ c.loop-record.invariant c.mark_record.ensures

pub returns : goal.returns
returns c =
    let seen = YieldsList-end
    (YieldsList-at c.into_iter-record-iterator.ensures.into_iter_gives
    (YieldsList-from_first (λ x. x) (λ s. records_from s.block.now s.left s.next) _ c.at-record-items.ensures))
    c.loop-record.yielded c.loop-record.record-iterator c.loop-record.yielded_by c.next.result c.next.new.self c.in-None.is c.next.ensures.steps in
    chain_ends c.args.content _ _ _ c.head.ensures.0 seen.0 c.loop-record.invariant
