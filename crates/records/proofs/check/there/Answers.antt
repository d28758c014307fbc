-- `records::check::there` meets its contract.
-- Assumes nothing.
use Rattle.records.proofs.check.there.Goals as goal

pub returns : goal.returns
returns c = rw (c.is_local_port.ensures, c.is_io_port.ensures)
