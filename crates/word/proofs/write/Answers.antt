use Rattle.std.proofs.Common.{sym, ◌∙◌, arith}
use Rattle.std.proofs.lemmas.Slice.{put_mid-paste}
use Rattle.word.proofs.Bytes.{low_more, low_all, length_low, put_paste}
use Rattle.word.proofs.write.Goals as goal

pub loop-byte-preserved : goal.loop-byte-preserved
loop-byte-preserved c = low_more c.args.d c.loop-byte.byte-index c.loop-byte.byte-items c.loop-byte.rest (omega arith) (omega arith) ∙ c.loop-byte.invariant

pub returns : goal.returns
returns c =
    put_mid-paste c.args.at _ c.args.m.now _ _ c.args.d
    (low_all c.args.d c.loop-byte.byte-index c.loop-byte.byte-items c.loop-byte.rest (omega arith) (omega arith) ∙ c.loop-byte.invariant)
    (omega arith) (sym (length_low c.args.d c.args.v))
    ∙ sym (put_paste c.args.d c.args.m.now c.args.at c.args.v c.requires)
