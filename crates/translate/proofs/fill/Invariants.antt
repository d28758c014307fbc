-- `translate::fill` meets its contract. The invariant: the answers are written, and the entries asked for, up to
-- address i (Filling).
-- Assumes nothing.
use mathlib.Core.Path.{◌≡◌}
use Rattle.translate.proofs.Filling.{Filling}
use Rattle.translate.proofs.fill.Given as goal

abbrev pub invariant-loop-i : goal.invariant-loop-i
invariant-loop-i l =
    Filling l.b l.m l.addresses l.initial.cache.keys l.i l.cache.kept l.answers l.cache.keys l.cache.words l.cache.slots × (l.cache.memory.now ≡ l.m)
