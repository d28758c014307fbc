use borrow.Author.Rules.{rules}
use Rattle.isa.specs.inner.Outcomes.{system_by}
use Rattle.isa.proofs.Ranges.{cas_value}
use Rattle.word.proofs.Laws.{sxt_whole}
use Rattle.isa.proofs.outcomes.Operands.system.Goals as goal

pub returns-then-is_cas : goal.returns-then-is_cas
unfolding system_by
returns-then-is_cas c = rw (c.write.ensures, c.rd.ensures, ← c.is_cas.ensures, c.if-is_cas.true, cas_value, sxt_whole c.args.read (search rules))

pub returns : goal.returns
unfolding system_by
returns c = rw (c.pass.ensures, ← c.is_cas.ensures, c.if-is_cas.false)
