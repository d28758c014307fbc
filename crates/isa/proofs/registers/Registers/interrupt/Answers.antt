use mathlib.Core.Path.{◌∙◌, refl}
use borrow.Author.Tests.{eq-eqb, ne_eqb}
use Rattle.isa.specs.Interrupts.{delta_jisr}
use Rattle.isa.proofs.Effects.{completed, register_small}
use Rattle.isa.proofs.registers.Registers.interrupt.Goals as goal
use Rattle.isa.proofs.registers.Registers.interrupt.Goals.{then-n-ne0, else-n-ne0}

pub bounds-self-n : goal.bounds-self-n
bounds-self-n c = rw c.outcome-next.ensures (register_small _ _ _ _)

pub returns-then-continues : goal.returns-then-continues
returns-then-continues c = rw (c.entered.ensures, c.exception_data-d.ensures, c.level-il.ensures) (completed c.args.self c.args.w c.args.read c.args.causes c.args.vector c.if-n-ne0.self c.outcome-next.result (rw (← c.level-il.ensures, ← c.continues.ensures) c.if-continues.true) (c.outcome-next.ensures ∙ rw (c.operands-o.ensures, c.decode.ensures) refl) (elim c.if-n-ne0.branch [ then-n-ne0 w ↦ w.self-is ∙ rw (ne_eqb _ _ w.if-n-ne0.true) refl | else-n-ne0 w ↦ w.self-is ∙ rw (eq-eqb _ _ w.if-n-ne0.false) refl ]))

pub returns : goal.returns
unfolding delta_jisr
returns c = rw (c.entered-2.ensures, c.exception_data-d.ensures, ← c.level-il.ensures, ← c.continues.ensures, c.if-continues.false)
