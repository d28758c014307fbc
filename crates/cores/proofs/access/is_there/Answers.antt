use Rattle.cores.proofs.Adding.{all_there_lem}
use Rattle.cores.proofs.access.is_there.Goals as goal

pub returns : goal.returns
returns c = rw c.is_port.ensures (all_there_lem _ _ _ c.requires.width_value c.requires.bytes_value)
