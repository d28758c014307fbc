-- `ways::search::further` meets its contract.
-- Assumes nothing.
use Rattle.ways.proofs.Searches.{further_first, further_second}
use Rattle.ways.proofs.search.further.Goals as goal

pub returns-then-way-eq0 : goal.returns-then-way-eq0
returns-then-way-eq0 c = further_first c.args.way c.args.i c.args.names c.requires.1 c.if-way-eq0.true

pub returns : goal.returns
returns c = further_second c.args.way c.args.i c.args.names c.requires.1 c.if-way-eq0.false
