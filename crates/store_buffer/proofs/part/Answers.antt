-- `store_buffer::part` meets its contract.
-- Assumes nothing.
use mathlib.Core.Path.{sym, ap, ◌∙◌}
use Prim.Native.Nat.{ℕ, ◌/◌, ◌%◌, ◌^◌}
use native.Mathlib.Omega.{arith}
use Rattle.store_buffer.proofs.Access.{shifted, part_all}
use Rattle.store_buffer.proofs.part.Goals as goal

pub returns-in-1 : goal.returns-in-1
returns-in-1 c = ap (λ (u : ℕ). u % 256) (c.shift_right-u.ensures ∙ shifted _ _ c.requires.k_bound) ∙ ap (λ (n : ℕ). c.args.v / 256 ^ c.args.k % 256 ^ n) (sym c.in-1.is)

pub returns-in-2 : goal.returns-in-2
returns-in-2 c = ap (λ (u : ℕ). u % 65536) (c.shift_right-u.ensures ∙ shifted _ _ c.requires.k_bound) ∙ ap (λ (n : ℕ). c.args.v / 256 ^ c.args.k % 256 ^ n) (sym c.in-2.is)

pub returns-in_default : goal.returns-in_default
returns-in_default c =
    c.shift_right-u.ensures ∙ shifted _ _ c.requires.k_bound ∙ sym (part_all c.args.v c.args.k c.args.d (omega arith) c.requires.d_value (λ e. omega arith) (λ e. omega arith))
