-- `ways::search::from_root` meets its contract.
-- Assumes nothing.
use mathlib.Core.Path.{sym, subst, ◌∙◌}
use mathlib.Core.List.{[], ◌∷◌}
use native.Mathlib.Omega.{arith}
use Rattle.ways.specs.inner.Search.{looked_for, Searched}
use Rattle.ways.proofs.Searches.{searched_by, searched_none, onward_zero, from_level, from_above}
use Rattle.ways.proofs.search.from_root.Goals as goal

pub returns-then-level-eq0 : goal.returns-then-level-eq0
returns-then-level-eq0 c = subst (Searched (looked_for c.args.query.now) c.args.query.now.machine.memory.now _ _ _ _) (sym (onward_zero c.args.query.now.machine.memory.now c.args.way) ∙ from_level c.args.query.now.machine.memory.now c.args.way 0 c.if-level-eq0.true (omega arith)) (searched_by (looked_for c.args.query.now) c.args.query.now.machine.memory.now _ _ _ (c.args.way ∷ []) c.requires.known c.take.ensures)

pub from_second-requires : goal.from_second-requires
from_second-requires c = record { entries_bound = (omega (arith, c.requires.entries_value), c.if-level-eq1.true); known = c.requires.known }

pub returns-then-level-eq1 : goal.returns-then-level-eq1
returns-then-level-eq1 c = subst (Searched (looked_for c.args.query.now) c.args.query.now.machine.memory.now _ _ _ _) (from_level c.args.query.now.machine.memory.now c.args.way 1 c.if-level-eq1.true (omega arith)) c.from_second.ensures

pub from_first-requires : goal.from_first-requires
from_first-requires c = record { entries_value = (c.requires.entries_value, c.if-level-eq2.true); known = c.requires.known }

pub returns-then-level-eq2 : goal.returns-then-level-eq2
returns-then-level-eq2 c = subst (Searched (looked_for c.args.query.now) c.args.query.now.machine.memory.now _ _ _ _) (from_level c.args.query.now.machine.memory.now c.args.way 2 c.if-level-eq2.true (omega arith)) c.from_first.ensures

pub returns : goal.returns
returns c = subst (Searched (looked_for c.args.query.now) c.args.query.now.machine.memory.now _ _ _ _) (from_above c.args.query.now.machine.memory.now c.args.way c.if-level-eq0.false c.if-level-eq1.false c.if-level-eq2.false) (searched_none (looked_for c.args.query.now) c.args.query.now.machine.memory.now _ _ c.requires.known)
