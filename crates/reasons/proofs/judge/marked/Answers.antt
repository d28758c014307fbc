-- `reasons::judge::marked` meets its contract.
-- Assumes nothing.
use mathlib.Core.Path.{sym, ◌∙◌}
use native.Mathlib.Omega.{arith}
use Rattle.tables.specs.Views.{cores_of, pages_of}
use Rattle.tables.proofs.Lift.{header}
use Rattle.reach.specs.Reach.{members}
use Rattle.ways.specs.Ways.{ways}
use Rattle.reasons.proofs.Reasons.{none_faulty, find_faulty}
use Rattle.reasons.proofs.judge.marked.Goals as goal

pub mark_faults-low-requires : goal.mark_faults-low-requires
mark_faults-low-requires c = let h = header _ _ c.args.machine.now.is_sound in (c.requires.0 ∙ sym c.requires.2, c.requires.1 ∙ sym c.requires.2, omega (arith, h.few_pages, c.requires.2))

pub returns-then-pages-low : goal.returns-then-pages-low
returns-then-pages-low c = none_faulty c.args.fault c.args.own.now c.args.other.now _ _ (pages_of c.args.machine.now.tables.now) (c.mark_faults-low.ensures.long ∙ c.requires.2) c.mark_faults-low.ensures.faults (ways (members c.args.group (cores_of c.args.machine.now.tables.now)) c.args.machine.now.tables.now c.args.machine.now.memory.now) (omega (arith, c.pages.ensures.0, c.if-pages-low.true))

pub find-requires : goal.find-requires
find-requires c = c.mark_faults-low.ensures.long ∙ c.requires.2

pub returns : goal.returns
returns c = c.find.ensures ∙ find_faulty c.args.fault c.args.own.now c.args.other.now _ _ (pages_of c.args.machine.now.tables.now) (c.mark_faults-low.ensures.long ∙ c.requires.2) c.mark_faults-low.ensures.faults (ways (members c.args.group (cores_of c.args.machine.now.tables.now)) c.args.machine.now.tables.now c.args.machine.now.memory.now)
