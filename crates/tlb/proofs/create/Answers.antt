-- `tlb::create` meets its contract, by its two guards.
-- Assumes nothing.
use mathlib.Core.Path.{ap, ap₂, ◌∙◌}
use Rattle.std.specs.Prelude.{Ok}
use Rattle.records.specs.declared.Walk.{Walk}
use Rattle.tlb.specs.declared.Change.TheVariants.{Adds}
use Rattle.tlb.specs.Walks.{winit}
use Rattle.tlb.proofs.Deciding.{both, created, not_created}
use Rattle.tlb.proofs.create.Goals as goal

pub returns-then-user-runs : goal.returns-then-user-runs
returns-then-user-runs c = ap (λ (w : Walk). Ok (Adds w)) (c.winit.ensures ∙ ap₂ (winit c.args.va) c.origin.ensures c.asid.ensures.0)
    ∙ created _ _ _ _ _ (both _ _ c.user.ensures c.runs.ensures c.if-user-runs.true)

pub returns : goal.returns
returns c = not_created _ _ _ _ _ (both _ _ c.user.ensures c.runs.ensures c.if-user-runs.false)
