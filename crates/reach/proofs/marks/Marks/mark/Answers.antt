-- `reach::marks::Marks::mark` meets its contract.
-- Assumes nothing.
use mathlib.Core.Path.{refl}
use native.Mathlib.Omega.{arith}
use Rattle.std.specs.Prelude.{ℕ, set}
use mathlib.Core.Path.{ap}
use Rattle.word.specs.Word.{flag}
use Rattle.reach.specs.inner.Marks.{number_of}
use Rattle.reach.proofs.Marking.{mark_in, mark_out}
use Rattle.reach.proofs.marks.Marks.mark.Goals as goal

pub returns-then-page-self : goal.returns-then-page-self
returns-then-page-self c = mark_in _ _ _ _ _ c.if-page-self.true refl refl (ap (λ (i : ℕ). set c.args.self.now.bytes i 1) (omega (arith, c.number.ensures.0, c.flag.ensures.0))) refl

pub returns-else-page-self : goal.returns-else-page-self
returns-else-page-self c = mark_out _ _ _ _ _ c.if-page-self.false refl refl refl refl
