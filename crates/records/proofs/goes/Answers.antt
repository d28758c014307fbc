-- `records::goes` meets its contract, variant by variant.
-- Assumes nothing.
use mathlib.Core.Path.{sym, ap}
use Rattle.records.specs.declared.Flush.{Flush}
use Rattle.records.specs.Records.{goes}
use Rattle.records.proofs.goes.Goals as goal

pub returns-in-Page : goal.returns-in-Page
returns-in-Page c = ap (λ (f : Flush). goes f c.args.first) (sym c.in-Page.is)

pub returns-in-Incomplete : goal.returns-in-Incomplete
returns-in-Incomplete c = ap (λ (f : Flush). goes f c.args.first) (sym c.in-Incomplete.is)
