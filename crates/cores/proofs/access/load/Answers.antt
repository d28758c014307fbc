use Rattle.cores.proofs.access.load.Goals as goal

pub load-l-requires : goal.load-l-requires
load-l-requires c = record { b_len = c.args.core.now.sound.long; b_value = c.args.core.now.sound.records; d_value = rw c.width.ensures c.requires.instruction_value }
