-- `tlb::accessed` meets its contract, by its guards and the entry.
-- Assumes nothing.
use mathlib.Core.Path.{ap, ◌∙◌}
use Rattle.tlb.specs.Steps.{on_accessed}
use Rattle.tlb.proofs.Deciding.{both, accesses, not_accesses}
use Rattle.tlb.proofs.accessed.Goals as goal

pub returns-then-user-extendable : goal.returns-then-user-extendable
returns-then-user-extendable c = c.on_accessed.ensures ∙ ap (on_accessed _) c.pte.ensures ∙ accesses _ _ _ _ _ (both _ _ c.user.ensures c.extendable.ensures c.if-user-extendable.true)

pub returns : goal.returns
returns c = not_accesses _ _ _ _ _ (both _ _ c.user.ensures c.extendable.ensures c.if-user-extendable.false)
