use native.Mathlib.Omega.{arith}
use Rattle.simulation.proofs.Fronts.{none_cores, none_pages, all_pages, at_most}
use Rattle.simulation.proofs.memory_bytes.Goals as goal

pub returns-then-cores : goal.returns-then-cores
returns-then-cores c = (none_cores _ c.if-input-lt2.false _ c.wide-cores.ensures.0 c.if-cores.true, omega arith)

pub returns-then-pages : goal.returns-then-pages
returns-then-pages c = (none_pages _ c.if-input-lt2.false _ c.wide-cores.ensures.0 c.if-cores.false _ c.wide-pages.ensures.0 c.if-pages.true, omega arith)

pub returns : goal.returns
returns c = (all_pages _ c.if-input-lt2.false _ c.wide-cores.ensures.0 c.if-cores.false _ c.wide-pages.ensures.0 c.if-pages.false, at_most _ c.if-pages.false)
