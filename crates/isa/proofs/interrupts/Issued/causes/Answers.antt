use mathlib.Core.Path.{sym, ap, ◌∙◌, refl}
use mathlib.Core.Bool.{◌&&◌, and-true}
use borrow.Author.Tests.{eq-eqb, ne_eqb}
use Rattle.word.specs.Word.{flag}
use Rattle.word.proofs.Tests.{and_false}
use Rattle.isa.specs.inner.Outcomes.{ovf_by}
use native.Mathlib.Nat.{add-zero}
use native.Mathlib.Omega.{arith}
use Rattle.isa.proofs.Ranges.{access_causes, other_causes}
use Rattle.isa.proofs.interrupts.Issued.causes.Goals as goal

pub returns-then-n-gt-JALR : goal.returns-then-n-gt-JALR
returns-then-n-gt-JALR c = rw (c.masked.ensures, c.events-e.ensures) refl

pub returns-then-n-lt-ADDI : goal.returns-then-n-lt-ADDI
returns-then-n-lt-ADDI c = access_causes c.args.self.instruction c.args.self.word c.args.self.rs c.args.self.rt c.args.user c.args.io c.args.pfls c.args.status _ _ _ (rw (← c.number-n.ensures) c.if-n-lt-ADDI.true) c.flag.ensures.0 c.flag-2.ensures.0 (c.flag-then-n-lt-ADDI.ensures.0 ∙ ap flag c.is_misaligned.ensures)

pub returns-then-status-eq1 : goal.returns-then-status-eq1
returns-then-status-eq1 c = other_causes c.args.self.instruction c.args.self.word c.args.self.rs c.args.self.rt c.args.user c.args.io c.args.pfls c.args.status _ _ _ (rw (← c.number-n.ensures) c.if-n-lt-ADDI.false) (rw (← c.number-n.ensures) (omega (arith, c.if-n-gt-JALR.false))) c.flag.ensures.0 c.flag-2.ensures.0 (c.flag-then-status-eq1.ensures.0 ∙ ap flag (c.overflows.ensures ∙ (sym (and-true _) ∙ ap (λ x. ovf_by c.args.self.instruction c.args.self.word c.args.self.rs c.args.self.rt && x) (sym (eq-eqb _ _ c.if-status-eq1.true)))))

pub returns : goal.returns
returns c = sym (add-zero _) ∙ other_causes c.args.self.instruction c.args.self.word c.args.self.rs c.args.self.rt c.args.user c.args.io c.args.pfls c.args.status _ _ 0 (rw (← c.number-n.ensures) c.if-n-lt-ADDI.false) (rw (← c.number-n.ensures) (omega (arith, c.if-n-gt-JALR.false))) c.flag.ensures.0 c.flag-2.ensures.0 (rw (ne_eqb _ _ c.if-status-eq1.false, and_false (ovf_by _ _ _ _)) refl)
