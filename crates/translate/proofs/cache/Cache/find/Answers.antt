-- `translate::cache::Cache::find` meets its contract: by a free slot, by the place that the slot names, or by the
-- search.
-- Assumes nothing.
use mathlib.Core.Path.{sym, ap, ◌∙◌}
use Prim.Native.Nat.{ℕ}
use native.Mathlib.Omega.{arith}
use lib.ListN.{get_or}
use Rattle.translate.proofs.Caching.{free_slot, found_at}
use Rattle.translate.proofs.cache.Cache.find.Goals as goal

pub returns-then-next-eq0 : goal.returns-then-next-eq0
returns-then-next-eq0 c = free_slot c.args.at _ c.args.self.now.kept c.args.self.now.slots (omega (arith, c.args.self.now.cached.few, c.args.self.now.cached.keys_long)) c.args.self.now.cached.slotted (ap (λ (s : ℕ). get_or c.args.self.now.slots s 0) (sym c.slot.ensures) ∙ c.if-next-eq0.true)

pub returns : goal.returns
returns c = found_at c.args.at c.args.self.now.kept c.args.self.now.keys (omega (arith, c.args.self.now.cached.few, c.args.self.now.cached.keys_long)) _ c.search.ensures
