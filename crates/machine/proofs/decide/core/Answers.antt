-- `machine::decide::core` meets its contract.
-- Assumes nothing.
use mathlib.Core.Path.{◌∙◌, ap, refl}
use lib.ListN.{length}
use Rattle.records.specs.Contents.{sound_records}
use Rattle.machine.proofs.decide.core.Goals as goal

pub invariant_of-core : goal.invariant_of-core
invariant_of-core c =
    record { sound = record { long = c.block.ensures.1; records = ap (sound_records (length c.args.m.now)) c.block.ensures.0 ∙ c.requires.k_value; whole = c.requires.m_len } }

pub returns : goal.returns
returns c = rw (c.core_step.ensures, c.block.ensures.0) refl
