use mathlib.Core.Path.{◌≡◌}
use mathlib.Core.List.{◌++◌}
use Prim.Native.Nat.{◌+◌}
use lib.ListN.{length}
use Rattle.picture.specs.Pages.{mark_row}
use Rattle.picture.proofs.pages.put_marks.Given as goal

abbrev pub invariant-loop-i : goal.invariant-loop-i
invariant-loop-i g l = (l.text ≡ l.initial.text ++ mark_row l.own l.other l.a l.i) × (length l.text ≡ length l.initial.text + l.i)
