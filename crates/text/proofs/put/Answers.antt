use Rattle.text.proofs.Texts.{put_there}
use Rattle.text.proofs.put.Goals as goal

pub returns : goal.returns
returns c = put_there c.args.out.now c.args.at c.args.text.now c.requires c.copy_from_slice.ensures.after
