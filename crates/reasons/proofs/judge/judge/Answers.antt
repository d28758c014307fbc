-- `reasons::judge::judge` meets its contract. Two arrays of 4,096 bytes have room for a map each.
-- Assumes nothing.
use mathlib.Core.Path.{ap, ◌∙◌}
use mathlib.Core.List.{List}
use Prim.Native.Nat.{ℕ, ◌-◌}
use Rattle.reasons.specs.Why.{first_after}
use Rattle.reasons.proofs.judge.judge.Goals as goal

pub returns : goal.returns
returns c =
    let a = c.args in
    let S = c.new-sides.result in
    let e = c.new-sides.ensures in
    c.first_after.ensures
    ∙ ap (λ (g : ℕ). first_after g S.machine.tables.now S.machine.memory.now (6 - a.after) a.after) e.2
    ∙ ap (λ (t : List ℕ). first_after a.group t S.machine.memory.now (6 - a.after) a.after) e.0
    ∙ ap (λ (m : List ℕ). first_after a.group a.machine.now.tables.now m (6 - a.after) a.after) e.1
