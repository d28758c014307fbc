-- `tlb::set_accessed` meets its contract, whether the bit is set or not.
-- Assumes nothing.
use mathlib.Core.Path.{sym, ◌∙◌}
use Rattle.tlb.proofs.Entries.{set_d_set, set_d_clear}
use Rattle.tlb.proofs.set_accessed.Goals as goal

pub returns-then-is_accessed : goal.returns-then-is_accessed
returns-then-is_accessed c = sym (set_d_set _ (sym c.is_accessed.ensures ∙ c.if-is_accessed.true))

pub returns-else-is_accessed : goal.returns-else-is_accessed
returns-else-is_accessed c = sym (set_d_clear _ (sym c.is_accessed.ensures ∙ c.if-is_accessed.false))
