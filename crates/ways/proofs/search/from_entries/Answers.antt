use native.Mathlib.Omega.{arith}
use Rattle.ways.specs.inner.Search.{looked_for}
use Rattle.ways.proofs.Searches.{entries_start, entries_next, entries_end}
use Rattle.ways.proofs.search.from_entries.Goals as goal

pub loop-i-init : goal.loop-i-init
loop-i-init c = entries_start _ _ c.args.query.now.whole c.args.query.now.few (looked_for c.args.query.now) _ _ c.args.way c.requires.page_bound.0 c.requires.known

pub from_entry-found-requires : goal.from_entry-found-requires
from_entry-found-requires c = let l = c.loop-i in record { entries_value = (c.requires.page_bound.1, c.requires.page_bound.2, c.loop-i-test.true); known = l.invariant.known }

pub loop-i-preserved : goal.loop-i-preserved
loop-i-preserved c = let l = c.loop-i in entries_next _ _ c.args.query.now.whole c.args.query.now.few (looked_for c.args.query.now) _ _ c.args.way c.requires.page_bound.0 _ _ _ _ l.i _ c.loop-i-test.true c.read_word-e.ensures l.invariant c.from_entry-found.ensures

pub returns : goal.returns
returns c = let l = c.loop-i in entries_end _ _ c.args.query.now.whole c.args.query.now.few (looked_for c.args.query.now) _ _ c.args.way c.requires.page_bound.0 _ _ l.i (omega arith) l.invariant
