use Rattle.std.proofs.Common.{refl, sym, ◌∙◌, arith}
use Rattle.std.proofs.lemmas.Slice.{put_mid-paste}
use Rattle.word.proofs.Bytes.{word_low, put_paste}
use Rattle.word.proofs.write_word.Goals as goal

pub returns : goal.returns
returns c =
    put_mid-paste c.args.at _ c.args.m.now _ _ 4
    (c.copy_from_slice.ensures.after ∙ c.to_le_bytes.ensures ∙ word_low c.args.v)
    (omega arith) refl
    ∙ sym (put_paste 4 c.args.m.now c.args.at c.args.v c.requires)
