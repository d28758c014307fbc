use Rattle.std.proofs.Common.{◌≡◌, take}
use Rattle.word.specs.Bytes.{words_in}
use Rattle.word.proofs.read_words.Given as goal

abbrev pub invariant-loop-i : goal.invariant-loop-i
invariant-loop-i l = take l.i l.words ≡ words_in l.i l.b
