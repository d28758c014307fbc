use mathlib.Core.Path.{refl}
use borrow.Author.Tests.{lt-ltb, le-ltb}
use Rattle.machine.specs.Step.{one_more, counted}
use Rattle.machine.proofs.count.Goals as goal

pub bounds-t-at : goal.bounds-t-at
bounds-t-at c = rw c.count_at-at.ensures c.requires.s_in_bounds

pub bounds-t-at-then-n-lt4294967295 : goal.bounds-t-at-then-n-lt4294967295
bounds-t-at-then-n-lt4294967295 c = rw c.count_at-at.ensures c.requires.s_in_bounds

pub returns-then-n-lt4294967295 : goal.returns-then-n-lt4294967295
unfolding counted one_more
returns-then-n-lt4294967295 c = rw (← c.count_at-at.ensures, lt-ltb _ _ c.if-n-lt4294967295.true) refl

pub returns-else-n-lt4294967295 : goal.returns-else-n-lt4294967295
unfolding counted one_more
returns-else-n-lt4294967295 c = rw (← c.count_at-at.ensures, le-ltb _ _ c.if-n-lt4294967295.false) refl
