use borrow.Author.Rules.{rules}
use mathlib.Core.Path.{◌≡◌, ap, ◌∙◌, subst}
use native.Mathlib.Omega.{arith}
use Rattle.tables.specs.Views.{cores_of, runs}
use Rattle.separation.proofs.Members.{Bits, bits_none, byte_small}
use Rattle.judgement.specs.Report.{is_stopped}
use Rattle.judgement.proofs.NotJudged.{stopped_put, stopped_members}
use Rattle.judgement.proofs.stopped.Goals as goal

pub loop-k-init : goal.loop-k-init
loop-k-init c = bits_none _ _

pub put_bit-r-requires : goal.put_bit-r-requires
put_bit-r-requires c = (omega (arith, c.cores-k-end.ensures), search (rules, byte_small))

pub loop-k-preserved : goal.loop-k-preserved
loop-k-preserved c =
    stopped_put c.args.group c.args.machine.now.tables.now _ _ c.loop-k.k _ _ c.is_member.ensures (c.runs.ensures ∙ ap runs c.block.ensures.value.0) c.put_bit-r.ensures
    c.loop-k.invariant

pub returns : goal.returns
returns c =
    let a = c.args in
    let t = a.machine.now.tables.now in
    let e : c.loop-k.k ≡ cores_of t = omega (arith, c.cores-k-end.ensures) in
    stopped_members a.group t _ (subst (Bits (is_stopped a.group t) _) e c.loop-k.invariant)
