use Rattle.std.proofs.Common.{sym, ap, ◌∙◌}
use Rattle.decode.proofs.Ranges.{store_shape, store_same, not_store}
use Rattle.decode.proofs.classes.is_store.Goals as goal

pub returns-in-Store : goal.returns-in-Store
returns-in-Store c = ap store_shape (sym c.in-Store.is) ∙ store_same c.args.i

pub returns-in_default : goal.returns-in_default
returns-in_default c = not_store c.args.i c.in_default.not-Store
