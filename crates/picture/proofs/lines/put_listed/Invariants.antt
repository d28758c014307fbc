use mathlib.Core.Path.{◌≡◌}
use mathlib.Core.List.{◌++◌}
use Prim.Native.Nat.{◌+◌, ◌*◌, ◌≤◌}
use lib.ListN.{length}
use Rattle.reach.specs.Reach.{members}
use Rattle.picture.specs.Lines.{listed}
use Rattle.picture.proofs.lines.put_listed.Given as goal

abbrev pub invariant-loop-k : goal.invariant-loop-k
invariant-loop-k g l = (l.text ≡ l.initial.text ++ listed (members l.group l.k)) × (length l.text ≤ length l.initial.text + 2 * l.k)
