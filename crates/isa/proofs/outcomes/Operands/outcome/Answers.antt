use Rattle.isa.specs.inner.Outcomes.{outcome_by}
use Rattle.isa.proofs.outcomes.Operands.outcome.Goals as goal

pub returns-in-Load : goal.returns-in-Load
unfolding outcome_by
returns-in-Load c = rw (c.write.ensures, c.loaded.ensures, c.rt.ensures, c.in-Load.is)

pub returns-in-Store : goal.returns-in-Store
unfolding outcome_by
returns-in-Store c = rw (c.pass.ensures, c.in-Store.is)

pub returns-in-Immediate : goal.returns-in-Immediate
unfolding outcome_by
returns-in-Immediate c = rw (c.write-in-Immediate.ensures, c.computed.ensures, c.rt-in-Immediate.ensures, c.in-Immediate.is)

pub returns-in-Branch : goal.returns-in-Branch
unfolding outcome_by
returns-in-Branch c = rw (c.go.ensures, c.branch-self.ensures, c.in-Branch.is)

pub returns-in-Jump : goal.returns-in-Jump
unfolding outcome_by
returns-in-Jump c = rw (c.jump.ensures, c.in-Jump.is)

pub returns-in-Shift : goal.returns-in-Shift
unfolding outcome_by
returns-in-Shift c = rw (c.write-in-Shift.ensures, c.shifted.ensures, c.rd.ensures, c.in-Shift.is)

pub returns-in-Multiply : goal.returns-in-Multiply
unfolding outcome_by
returns-in-Multiply c = rw (c.multiply.ensures, c.in-Multiply.is)

pub returns-in-Move : goal.returns-in-Move
unfolding outcome_by
returns-in-Move c = rw (c.transfer.ensures, c.in-Move.is)

pub returns-in-Alu : goal.returns-in-Alu
unfolding outcome_by
returns-in-Alu c = rw (c.write-in-Alu.ensures, c.computed-in-Alu.ensures, c.rd-in-Alu.ensures, c.in-Alu.is)

pub returns-in-System : goal.returns-in-System
unfolding outcome_by
returns-in-System c = rw (c.system.ensures, c.in-System.is)

pub returns-in-Illegal : goal.returns-in-Illegal
unfolding outcome_by
returns-in-Illegal c = rw (c.pass-in-Illegal.ensures, c.in-Illegal.is)
