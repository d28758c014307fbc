use borrow.Author.Rules.{rules}
use mathlib.Core.Path.{◌≡◌, refl, ap, ◌∙◌}
use Prim.Native.Nat.{ℕ}
use native.Mathlib.Omega.{arith}
use Rattle.tables.specs.Views.{cores_of, runs}
use Rattle.reach.specs.Reach.{members}
use Rattle.separation.specs.Apart.{rest_below}
use Rattle.separation.proofs.Members.{byte_small}
use Rattle.separation.proofs.Deciding.{rest_put, rest_members}
use Rattle.separation.proofs.sides.rest.Goals as goal

pub loop-k-init : goal.loop-k-init
unfolding rest_below
loop-k-init c = refl

pub put_bit-r-requires : goal.put_bit-r-requires
put_bit-r-requires c = (omega (arith, c.cores-k-end.ensures), search (rules, byte_small))

pub loop-k-preserved : goal.loop-k-preserved
loop-k-preserved c =
    rest_put c.args.group c.args.machine.now.tables.now c.loop-k.k c.is_member.ensures (c.runs.ensures ∙ ap runs c.block.ensures.value.0) c.put_bit-r.ensures
    c.loop-k.invariant

pub returns : goal.returns
returns c =
    let a = c.args in
    let t = a.machine.now.tables.now in
    let e : c.loop-k.k ≡ cores_of t = omega (arith, c.cores-k-end.ensures) in
    let r = c.loop-k.invariant ∙ ap (rest_below a.group t) e in
    record { value = r; members = ap (λ (n : ℕ). members n (cores_of t)) r ∙ rest_members a.group t }
