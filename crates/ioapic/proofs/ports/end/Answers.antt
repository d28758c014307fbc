use mathlib.Core.Path.{◌≡◌, refl, sym, ap, ap₂, ◌∙◌}
use mathlib.Core.List.{List}
use Prim.Native.Nat.{ℕ}
use native.Mathlib.Omega.{arith}
use Rattle.ioapic.specs.IoApic.{entry, with_entry, on_entries, acknowledged, eoi_received}
use Rattle.ioapic.proofs.Loops.{one_more_entry}
use Rattle.ioapic.proofs.ports.end.Goals as goal

pub loop-i-init : goal.loop-i-init
unfolding on_entries
loop-i-init c = refl

pub loop-i-preserved : goal.loop-i-preserved
loop-i-preserved c =
    let l = c.loop-i in
    let a = c.args in
    ap₂ (λ (x : List ℕ) (e : ℕ). with_entry x l.i e) l.invariant (c.acknowledged.ensures ∙ ap (λ (x : List ℕ). acknowledged a.v (entry x l.i)) l.invariant)
    ∙ sym (one_more_entry (acknowledged a.v) l.i a.t.now)

pub returns : goal.returns
unfolding eoi_received
returns c =
    let l = c.loop-i in
    let n : l.i ≡ 24 = omega arith in
    l.invariant ∙ ap (λ (k : ℕ). on_entries (acknowledged c.args.v) k c.args.t.now) n
