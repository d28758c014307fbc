use mathlib.Core.Path.{◌≡◌}
use mathlib.Core.List.{◌++◌, map}
use Prim.Native.Nat.{◌+◌}
use lib.ListN.{length, take}
use Rattle.verdict_text.specs.Wrong.{shown}
use Rattle.verdict_text.proofs.wrong.put_shown.Given as goal

abbrev pub invariant-loop-byte : goal.invariant-loop-byte
invariant-loop-byte g l = (l.text ≡ l.initial.text ++ map shown (take l.byte-index l.argument)) × (length l.text ≡ length l.initial.text + l.byte-index)
