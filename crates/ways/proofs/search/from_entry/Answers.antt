-- `ways::search::from_entry` meets its contract.
-- Assumes nothing.
use mathlib.Core.Path.{subst}
use native.Mathlib.Omega.{arith}
use Rattle.ways.specs.inner.Search.{looked_for, Searched}
use Rattle.ways.proofs.Searches.{searched_none, through_there, through_absent}
use Rattle.ways.proofs.search.from_entry.Goals as goal

pub from_second-requires : goal.from_second-requires
from_second-requires c = record { entries_bound = (rw c.further-on.ensures (omega arith), rw (c.further-on.ensures, c.named-names.ensures) (omega arith)); known = c.requires.known }

pub returns-then-present : goal.returns-then-present
returns-then-present c = subst (Searched (looked_for c.args.query.now) c.args.query.now.machine.memory.now _ _ _ _) (through_there c.args.query.now.machine.memory.now c.args.way _ c.args.i c.args.e _ _ c.present.ensures c.if-present.true c.named-names.ensures c.further-on.ensures) c.from_second.ensures

pub returns : goal.returns
returns c = subst (Searched (looked_for c.args.query.now) c.args.query.now.machine.memory.now _ _ _ _) (through_absent c.args.query.now.machine.memory.now c.args.way c.args.i c.args.e _ c.present.ensures c.if-present.false) (searched_none (looked_for c.args.query.now) c.args.query.now.machine.memory.now _ _ c.requires.known)
