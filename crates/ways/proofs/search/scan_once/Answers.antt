-- `ways::search::scan_once` meets its contract.
-- Assumes nothing.
use mathlib.Core.Path.{sym, subst}
use mathlib.Core.List.{List}
use native.Mathlib.Omega.{arith}
use Rattle.ways.specs.inner.Search.{looked_for, Searched}
use Rattle.ways.proofs.Searches.{wanted_from, searched_none, searched_low, searched_before, searched_now, next_none}
use Rattle.ways.specs.declared.Way.{Way}
use Rattle.ways.proofs.search.scan_once.Goals as goal

pub returns-then-is_lowest : goal.returns-then-is_lowest
returns-then-is_lowest c = searched_low (looked_for c.args.query.now) c.args.query.now.machine.memory.now c.low.result (λ x h. omega (arith, c.low.ensures, wanted_from c.args.query.now.want c.args.query.now.pages c.args.query.now.map.now x h)) _ _ _ _ c.requires.known c.is_lowest.ensures c.if-is_lowest.true

pub returns-then-seen-at-eq1 : goal.returns-then-seen-at-eq1
returns-then-seen-at-eq1 c = searched_before (looked_for c.args.query.now) c.args.query.now.machine.memory.now _ _ c.args.way c.requires.known c.requires.entries_bound.1 c.if-seen-at-eq1.true

pub returns-then-page-query : goal.returns-then-page-query
returns-then-page-query c = searched_now (looked_for c.args.query.now) c.args.query.now.machine.memory.now _ _ _ c.args.way c.requires.known c.requires.entries_bound.1 c.scan.ensures

pub returns : goal.returns
returns c = subst (λ (l : List Way). Searched (looked_for c.args.query.now) c.args.query.now.machine.memory.now c.args.best c.args.seen.now c.args.best c.args.seen.now l) (sym (next_none c.args.query.now.machine.memory.now _ c.args.query.now.whole c.args.query.now.few c.args.way c.if-page-query.false)) (searched_none (looked_for c.args.query.now) c.args.query.now.machine.memory.now _ _ c.requires.known)
