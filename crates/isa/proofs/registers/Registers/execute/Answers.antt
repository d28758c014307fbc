use mathlib.Core.Path.{◌∙◌, refl}
use borrow.Author.Tests.{eq-eqb, ne_eqb}
use Rattle.isa.proofs.Effects.{written_parts, register_small}
use Rattle.isa.proofs.registers.Registers.execute.Goals as goal
use Rattle.isa.proofs.registers.Registers.execute.Goals.{then-n-ne0, else-n-ne0}

pub bounds-gpr-n : goal.bounds-gpr-n
bounds-gpr-n c = rw c.outcome-o.ensures (register_small _ _ _ _)

pub returns-then-o : goal.returns-then-o
returns-then-o c = written_parts c.args.i c.args.self c.args.w c.args.read c.outcome-o.result _ _ (rw (c.outcome-o.ensures, c.rd-d.ensures, c.rt-b.ensures, c.rs-a.ensures) refl) (elim c.if-n-ne0.branch [ then-n-ne0 w ↦ w.gpr-is ∙ rw (ne_eqb _ _ w.if-n-ne0.true) refl | else-n-ne0 w ↦ w.gpr-is ∙ rw (eq-eqb _ _ w.if-n-ne0.false) refl ]) (rw (c.if-o.true, c.rd-d.ensures, c.rt-b.ensures) refl)

pub returns-else-o : goal.returns-else-o
returns-else-o c = written_parts c.args.i c.args.self c.args.w c.args.read c.outcome-o.result _ _ (rw (c.outcome-o.ensures, c.rd-d.ensures, c.rt-b.ensures, c.rs-a.ensures) refl) (elim c.if-n-ne0.branch [ then-n-ne0 w ↦ w.gpr-is ∙ rw (ne_eqb _ _ w.if-n-ne0.true) refl | else-n-ne0 w ↦ w.gpr-is ∙ rw (eq-eqb _ _ w.if-n-ne0.false) refl ]) (rw c.if-o.false refl)
