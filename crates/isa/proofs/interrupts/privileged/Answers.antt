use Rattle.std.proofs.Common.{sym, ap, ◌∙◌}
use Rattle.isa.proofs.Ranges.{privileged_shape, privileged_same, not_privileged}
use Rattle.isa.proofs.interrupts.privileged.Goals as goal

pub returns-in-System : goal.returns-in-System
returns-in-System c = rw (c.eq.ensures, c.eq-in-System.ensures, c.eq-in-System-2.ensures) (ap privileged_shape (sym c.in-System.is) ∙ privileged_same c.args.i)

pub returns-in-Move : goal.returns-in-Move
returns-in-Move c = rw (c.eq-in-Move.ensures, c.eq-in-Move-2.ensures) (ap privileged_shape (sym c.in-Move.is) ∙ privileged_same c.args.i)

pub returns-in_default : goal.returns-in_default
returns-in_default c = not_privileged c.args.i c.in_default.not-System c.in_default.not-Move
