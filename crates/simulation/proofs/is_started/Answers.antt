use Rattle.simulation.proofs.Fronts.{started_by}
use Rattle.simulation.proofs.is_started.Goals as goal

pub returns : goal.returns
returns c = started_by _ _ c.memory_bytes-n.ensures.0
