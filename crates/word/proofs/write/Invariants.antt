use Rattle.std.proofs.Common.{◌≡◌, ◌-◌, ◌++◌, take}
use Rattle.word.proofs.Bytes.{low_bytes}
use Rattle.word.proofs.write.Given as goal

abbrev pub invariant-loop-byte : goal.invariant-loop-byte
invariant-loop-byte l = take l.byte-index l.byte-items ++ low_bytes (l.d - l.byte-index) l.rest ≡ low_bytes l.d l.v
