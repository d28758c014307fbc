use Rattle.std.proofs.Common.{arith}
use Rattle.word.proofs.Bytes.{words_start, words_more}
use Rattle.word.proofs.read_words.Goals as goal

pub loop-i-init : goal.loop-i-init
loop-i-init c = words_start _

pub loop-i-preserved : goal.loop-i-preserved
loop-i-preserved c = words_more c.loop-i.words c.args.b.now c.loop-i.i _ (omega arith) c.loop-i.invariant c.read_word.ensures
