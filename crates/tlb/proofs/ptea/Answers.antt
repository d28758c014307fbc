-- `tlb::ptea` meets its contract: the base page shifted, and the sum.
-- Assumes nothing.
use mathlib.Core.Path.{ap₂, ◌∙◌}
use Prim.Native.Nat.{ℕ}
use native.Mathlib.Omega.{arith}
use Prim.Native.Nat.{◌+◌, ◌*◌, ◌%◌, ◌^◌}
use Rattle.tlb.proofs.Fields.{index_lt, ptea_sum}
use Rattle.tlb.proofs.ptea.Goals as goal

pub overflow_mul-i : goal.overflow_mul-i
overflow_mul-i c = omega (arith, c.index-i.ensures, index_lt c.args.w (omega arith))

pub returns : goal.returns
returns c = c.add.ensures ∙ ap₂ (λ (x i : ℕ). (x + 4 * i) % 2 ^ 32) c.shift_left.ensures c.index-i.ensures ∙ ptea_sum _
