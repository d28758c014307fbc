use mathlib.Core.Path.{◌≡◌}
use mathlib.Core.List.{◌++◌}
use Prim.Native.Nat.{◌+◌, ◌*◌, ◌≤◌}
use lib.ListN.{length}
use Rattle.picture.specs.Pages.{rows}
use Rattle.picture.proofs.pages.put_picture.Given as goal

abbrev pub invariant-loop-n : goal.invariant-loop-n
invariant-loop-n g l = (l.text ≡ l.initial.text ++ rows l.own l.other l.n) × (length l.text ≤ length l.initial.text + 86 * l.n)
