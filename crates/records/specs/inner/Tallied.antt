-- What the count of a chain's records gives: whether they are few and all fit, and then how often each is there. It
-- serves contracts inside alone: `tallied_once` of proofs/Whole ties the three counts to `ruled` and `once_each`.
-- Assumes nothing.
use Rattle.std.specs.Prelude.{◌≡◌, ℕ, ◌+◌, ◌<◌, Bool, true, List, length, get_or}
use Rattle.records.specs.declared.check.Rule.{Rule}
use Rattle.records.specs.Records.{chain_at, count}
use Rattle.records.specs.inner.Rules.{chain_fits}

-- s counts before the chain with head h, t after it
pub record Tallied (b : List ℕ) (h : ℕ) (rule : Rule) (most : ℕ) (s t : List ℕ) (r : Bool) : Type 0 where
  pub long : length t ≡ 32
  pub result : r ≡ chain_fits rule most b h
  pub counts : r ≡ true → (m : ℕ) → m < 32 → get_or t m 0 ≡ get_or s m 0 + count m (chain_at b h)
