-- `records::check::records_once` meets its contract: three tallies by the rules of the chains, and each counted once.
use mathlib.Core.Path.{refl, ◌∙◌}
use native.Mathlib.Omega.{arith}
use Rattle.records.proofs.Whole.{none_seen, tallied_bound, tallied_once, once_fails_stores, once_fails_walks, once_fails_free}
use Rattle.records.proofs.check.records_once.Goals as goal

pub tally-requires : goal.tally-requires
tally-requires c = record { b_len = c.requires; head_bound = omega arith; most_bound = omega arith; seen_len = refl; by_index = λ m. omega (arith, none_seen m) }

pub returns-then-not-tally : goal.returns-then-not-tally
returns-then-not-tally c = once_fails_stores c.args.bytes _ _ (c.if-not-tally.true) c.tally.ensures.result

pub tally-requires-2 : goal.tally-requires-2
tally-requires-2 c = record { b_len = c.requires; head_bound = omega arith; most_bound = omega arith; seen_len = c.tally.ensures.long; by_index = λ m. omega (arith, tallied_bound _ _ _ _ _ _ _ 0 c.tally.ensures (c.if-not-tally.false) (λ k. omega (arith, none_seen k)) m) }

pub returns-then-not-tally-2 : goal.returns-then-not-tally-2
returns-then-not-tally-2 c = once_fails_walks _ _ _ (c.if-not-tally-2.true) c.tally-2.ensures.result

pub tally-requires-3 : goal.tally-requires-3
tally-requires-3 c = record { b_len = c.requires; head_bound = omega arith; most_bound = omega arith; seen_len = c.tally-2.ensures.long; by_index = λ m. omega (arith, tallied_bound _ _ _ _ _ _ _ 32 c.tally-2.ensures (c.if-not-tally-2.false) (tallied_bound _ _ _ _ _ _ _ 0 c.tally.ensures (c.if-not-tally.false) (λ k. omega (arith, none_seen k))) m) }

pub returns-then-not-tally-3 : goal.returns-then-not-tally-3
returns-then-not-tally-3 c = once_fails_free _ _ _ (c.if-not-tally-3.true) c.tally-3.ensures.result

pub returns : goal.returns
returns c = c.each_once.ensures ∙ tallied_once _ _ _ _ _ _ _ _ _ none_seen c.tally.ensures c.tally-2.ensures c.tally-3.ensures (c.if-not-tally.false) (c.if-not-tally-2.false) (c.if-not-tally-3.false)
