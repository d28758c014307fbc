use Rattle.std.specs.Prelude.{Ok}
use mathlib.Core.Path.{sym, ◌∙◌, ap}
use borrow.Author.Tests.{eq-eqb, ne_eqb}
use Rattle.cores.proofs.Judging.{step_waits, step_misaligned, step_fetch}
use Rattle.cores.proofs.core_step.core_step.Goals as goal

pub returns-then-not-runs : goal.returns-then-not-runs
returns-then-not-runs c = step_waits _ _ _ _ _ (sym c.runs.ensures ∙ c.if-not-runs.true)

pub returns-then-pc-ne0 : goal.returns-then-pc-ne0
returns-then-pc-ne0 c = ap Ok c.stopped.ensures ∙ (rw c.without-ca.ensures (step_misaligned _ _ _ _ _ (sym c.runs.ensures ∙ c.if-not-runs.false) (rw (← c.pc.ensures) (ne_eqb _ _ c.if-pc-ne0.true))))

pub by_walk-requires : goal.by_walk-requires
by_walk-requires c = record { b_value = rw (← c.pc.ensures) c.if-pc-ne0.false }

pub returns : goal.returns
returns c = c.by_walk.ensures ∙ step_fetch _ _ _ _ _ (sym c.runs.ensures ∙ c.if-not-runs.false) (rw (← c.pc.ensures) (eq-eqb _ _ c.if-pc-ne0.false))
