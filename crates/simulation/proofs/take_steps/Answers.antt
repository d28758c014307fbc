use native.Mathlib.Omega.{arith}
use mathlib.Core.Path.{refl, ap}
use Prim.Native.Nat.{ℕ, ◌+◌}
use borrow.Author.Rules.{rules}
use lib.ListN.{length}
use Rattle.text.proofs.Texts.{written}
use Rattle.simulation.proofs.Taking.{no_lines, none_after, lines_next, after_next, flag_few}
use Rattle.simulation.proofs.take_steps.Goals as goal

pub loop-i-init : goal.loop-i-init
loop-i-init c = (refl, refl, omega arith, omega arith, omega (arith, c.requires.3), no_lines _ _ _ _, none_after _ _)

pub loop-i-preserved : goal.loop-i-preserved
loop-i-preserved c = (
  search rules,
  search rules,
  omega arith,
  omega (arith, c.put-written.ensures.place, ap length c.as_bytes.ensures, c.put_line.ensures.bound, ap length c.new-line.ensures, c.loop-i.invariant.3),
  omega (arith, flag_few _ c.take-a.result c.accepted-taken.ensures, c.loop-i.invariant.4),
  lines_next _ _ _ _ _ _ c.loop-i.invariant.6 _ c.take-a.ensures.value _ c.loop-i.invariant.5 (written c.new-line.ensures c.put_line.ensures.text c.as_bytes.ensures c.put-written.ensures),
  after_next _ _ _ _ _ _ c.loop-i.invariant.6 _ c.take-a.ensures.value _ _ _ c.take-a.ensures.t_after c.take-a.ensures.m_after (ap (λ (n : ℕ). c.loop-i.taken + n) c.accepted-taken.ensures),
)
