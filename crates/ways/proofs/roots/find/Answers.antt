-- `ways::roots::find` meets its contract.
-- Assumes nothing.
use mathlib.Core.Path.{ap, ◌∙◌}
use Prim.Native.Nat.{ℕ}
use Rattle.std.specs.Prelude.{None}
use Rattle.tables.specs.Views.{cores_of}
use Rattle.reach.specs.Reach.{members}
use Rattle.ways.specs.Ways.{ways}
use Rattle.ways.specs.inner.Search.{wanted, sought}
use Rattle.ways.proofs.Blocks.{blank}
use Rattle.ways.proofs.roots.find.Goals as goal

pub from_cores-requires : goal.from_cores-requires
from_cores-requires c = blank (wanted c.args.want c.pages.result c.args.map.now) c.args.machine.now.memory.now None 4096

pub returns : goal.returns
returns c =
    let M = c.args.machine.now in
    c.from_cores.ensures ∙ ap (λ (n : ℕ). sought (wanted c.args.want n c.args.map.now) (ways (members c.args.group (cores_of M.tables.now)) M.tables.now M.memory.now)) c.pages.ensures.0
