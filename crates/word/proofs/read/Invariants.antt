use Rattle.word.specs.Bytes.{bytes_at}
use Rattle.std.proofs.Common.{◌≡◌, ◌+◌, ◌-◌}
use Rattle.word.proofs.read.Given as goal

abbrev pub invariant-loop-i : goal.invariant-loop-i
invariant-loop-i l = l.v ≡ bytes_at (l.d - l.i) l.m (l.at + l.i)
