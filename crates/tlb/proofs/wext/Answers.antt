-- `tlb::wext` meets its contract, by whether the entry is present.
-- Assumes nothing.
use mathlib.Core.Path.{sym, ◌∙◌}
use Rattle.tlb.proofs.Fields.{wext_parts, wext_absent}
use Rattle.tlb.proofs.wext.Goals as goal

pub returns-then-present : goal.returns-then-present
returns-then-present c = c.walk_of.ensures ∙ wext_parts _ _ (sym c.present.ensures ∙ c.if-present.true) c.va.ensures c.asid.ensures c.level.ensures c.entry_rights.ensures

pub returns-else-present : goal.returns-else-present
returns-else-present c = sym (wext_absent _ _ (sym c.present.ensures ∙ c.if-present.false))
