-- `word::put_bit` meets its contract: nothing is shifted out of the word.
use Rattle.std.proofs.Common.{ℕ, ◌^◌, ◌<◌, sym, subst, arith, pow_pos}
use lib.Pow.{shr_le}
use Rattle.word.proofs.Bits.{one_exact, put_exact, put_below}
use Rattle.word.proofs.put_bit.Goals as goal

pub overflow_mul-high : goal.overflow_mul-high
overflow_mul-high c = omega (arith, shr_le c.args.w c.args.i)

pub overflow_add-high : goal.overflow_add-high
overflow_add-high c = omega (arith, shr_le c.args.w c.args.i)

pub nonzero_rem-low : goal.nonzero_rem-low
nonzero_rem-low c =
    subst (λ (n : ℕ). 0 < n)
    (sym (one_exact c.args.w c.args.i c.args.x c.ranges.w.fits c.requires.0 c.requires.1))
    (pow_pos c.args.i)

pub overflow_add-result : goal.overflow_add-result
overflow_add-result c =
    record { fits = subst (λ (n : ℕ). n < 2 ^ 32) (sym (put_exact c.args.w c.args.i c.args.x c.ranges.w.fits c.requires.0 c.requires.1)) (put_below 32 c.args.w c.args.i c.args.x c.ranges.w.fits c.requires.0 c.requires.1) }

pub returns : goal.returns
returns c = put_exact c.args.w c.args.i c.args.x c.ranges.w.fits c.requires.0 c.requires.1
