use native.Mathlib.Omega.{arith}
use Rattle.records.proofs.Iterate.{records_end, records_go, records_fewer, member_low, rest_low}
use Rattle.records.proofs.chain.ChainIterator.next.Goals as goal

pub returns-then-self-number-clause-steps : goal.returns-then-self-number-clause-steps
returns-then-self-number-clause-steps c = let s = c.args.self.now in let e = records_end s.left s.block.now s.next c.if-self-number.true in (e, e)

pub bounds-self-place : goal.bounds-self-place
bounds-self-place c = let s = c.args.self.now in omega (arith, s.long, member_low s.left s.block.now s.next c.if-self-number.false s.small)

pub bounds-self-place-2 : goal.bounds-self-place-2
bounds-self-place-2 c = let s = c.args.self.now in omega (arith, s.long, member_low s.left s.block.now s.next c.if-self-number.false s.small)

pub bounds-self-place-3 : goal.bounds-self-place-3
bounds-self-place-3 c = let s = c.args.self.now in omega (arith, s.long, member_low s.left s.block.now s.next c.if-self-number.false s.small)

pub bounds-self-place-4 : goal.bounds-self-place-4
bounds-self-place-4 c = let s = c.args.self.now in omega (arith, s.long, member_low s.left s.block.now s.next c.if-self-number.false s.small)

pub invariant_of-self : goal.invariant_of-self
invariant_of-self c =
    let s = c.args.self.now in
    record { long = s.long; small = rest_low s.left s.block.now s.next c.if-self-number.false s.small; few = omega (arith, s.few) }

pub returns-clause-steps : goal.returns-clause-steps
returns-clause-steps c = let s = c.args.self.now in records_go s.left s.block.now s.next c.if-self-number.false

pub returns-clause-goes : goal.returns-clause-goes
returns-clause-goes c = let s = c.args.self.now in record { on = λ f. (tt, tt, records_fewer s.left s.block.now s.next c.if-self-number.false); keeps = tt; rests = λ f. tt }
