-- `reach::fill` meets its contract: proofs/Closing.antt ties the marks to what is reached.
-- Assumes nothing.
use Rattle.reach.proofs.Closing.{filled_beyond, filled_map}
use Rattle.reach.proofs.fill.Goals as goal

pub returns : goal.returns
returns c =
    let M = c.args.machine.now in
    record {
      value = filled_beyond M.tables.now M.memory.now c.args.group M.is_sound M.words M.bytes _ _ _ _ c.new-marks.ensures c.mark_cores.ensures c.pass.ensures c.pass-2.ensures;
      map_after = filled_map M.tables.now M.memory.now c.args.group M.is_sound M.words M.bytes _ _ _ _ c.new-marks.ensures c.mark_cores.ensures c.pass.ensures c.pass-2.ensures _ c.write_map.ensures;
    }
