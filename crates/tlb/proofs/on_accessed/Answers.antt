-- `tlb::on_accessed` meets its contract, by the entry.
-- Assumes nothing.
use mathlib.Core.Path.{sym, ◌∙◌}
use Rattle.tlb.proofs.Deciding.{marked, not_marked, accessed_missing}
use Rattle.tlb.proofs.on_accessed.Goals as goal

pub returns-then-present : goal.returns-then-present
returns-then-present c = marked _ c.in-Some.is c.ptea.ensures c.set_accessed.ensures (sym c.present.ensures ∙ c.if-present.true)

pub returns-else-present : goal.returns-else-present
returns-else-present c = not_marked _ c.in-Some.is (sym c.present.ensures ∙ c.if-present.false)

pub returns-in-None : goal.returns-in-None
returns-in-None c = accessed_missing _ c.in-None.is
