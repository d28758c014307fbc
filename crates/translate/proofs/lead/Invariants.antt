-- `translate::lead` meets its contract. The invariant: what is left of the walk gives the whole (Leading).
-- Assumes nothing.
use mathlib.Core.Path.{◌≡◌}
use Rattle.translate.proofs.Leading.{Leading}
use Rattle.translate.proofs.lead.Given as goal

abbrev pub invariant-loop-level : goal.invariant-loop-level
invariant-loop-level l =
    Leading l.initial.cache.memory.now l.initial.w l.initial.cache.kept l.initial.cache.keys l.w l.level l.cache.kept l.cache.keys l.cache.words l.cache.slots
    × (l.cache.memory.now ≡ l.initial.cache.memory.now)
