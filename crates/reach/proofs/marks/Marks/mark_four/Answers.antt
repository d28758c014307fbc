-- `reach::marks::Marks::mark_four` meets its contract.
-- Assumes nothing.
use mathlib.Core.Path.{◌∙◌}
use mathlib.Core.List.{List}
use Prim.Native.Nat.{ℕ, ◌+◌}
use Rattle.reach.specs.inner.Marks.{number_of, name_from}
use Rattle.reach.proofs.Marking.{named_in, four_there, four_absent}
use Rattle.reach.proofs.marks.Marks.mark_four.Goals as goal

pub returns-then-is_present : goal.returns-then-is_present
returns-then-is_present c =
    let k = number_of c.args.set in
    let m = c.args.self.now.memory.now in
    let at = c.args.at in
    let e₁ = c.mark_at.ensures in
    let e₂ = c.mark_at-then-is_present.ensures in
    let e₃ = c.mark_at-then-is_present-2.ensures in
    four_there k m at e₁
    (named_in (λ (l : List ℕ). name_from k l (at + 4)) e₁.memory e₂)
    (named_in (λ (l : List ℕ). name_from k l (at + 8)) (e₂.memory ∙ e₁.memory) e₃)
    (named_in (λ (l : List ℕ). name_from k l (at + 12)) (e₃.memory ∙ e₂.memory ∙ e₁.memory) c.mark_at-then-is_present-3.ensures)

pub returns-else-is_present : goal.returns-else-is_present
returns-else-is_present c = four_absent (number_of c.args.set) c.args.self.now.memory.now c.args.at _ _ _ _ _ c.is_present.ensures c.is_present-2.ensures c.is_present-3.ensures c.is_present-4.ensures c.if-is_present.false
