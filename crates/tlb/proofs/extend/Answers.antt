-- `tlb::extend` meets its contract, by its guards and the entry.
-- Assumes nothing.
use mathlib.Core.Path.{ap, ◌∙◌}
use Rattle.records.specs.Records.{walks}
use Rattle.tables.specs.Views.{runs, asid_of}
use Rattle.tlb.specs.Steps.{on_extend}
use Rattle.tlb.proofs.Deciding.{both, extends, not_extends, open_walk}
use Rattle.tlb.proofs.extend.Goals as goal

pub on_extend-requires : goal.on_extend-requires
on_extend-requires c = open_walk (runs c.args.b.now) (asid_of c.args.b.now) (walks c.args.b.now) c.args.w (both _ _ c.runs.ensures c.extendable.ensures c.if-runs-extendable.true)

pub returns-then-runs-extendable : goal.returns-then-runs-extendable
returns-then-runs-extendable c = c.on_extend.ensures ∙ ap (on_extend _) c.pte.ensures ∙ extends _ _ _ _ _ (both _ _ c.runs.ensures c.extendable.ensures c.if-runs-extendable.true)

pub returns : goal.returns
returns c = not_extends _ _ _ _ _ (both _ _ c.runs.ensures c.extendable.ensures c.if-runs-extendable.false)
