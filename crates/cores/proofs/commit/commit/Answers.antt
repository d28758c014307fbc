use mathlib.Core.Path.{◌∙◌, ap}
use lib.ListN.{length}
use Rattle.layout.proofs.Blocks.{part, part_done, block_long}
use Rattle.records.specs.Records.{linked}
use Rattle.cores.specs.Commit.{block_after, header_after, tables_by_plan}
use Rattle.cores.specs.inner.Ready.{ready}
use Rattle.cores.proofs.commit.commit.Goals as goal

pub on_block-requires : goal.on_block-requires
on_block-requires c =
    let a = c.args in
    let p = c.requires in
    let q = part a.t.now a.k c.block_at-a.result c.block_at-a.ensures in
    record { b_len = ap length q ∙ block_long a.t.now a.k p.k_in_bounds; b_value = ap linked q ∙ p.k_value; b_value_2 = ap (ready a.p) q ∙ p.k_value_2 }

pub returns : goal.returns
unfolding tables_by_plan
returns c =
    let a = c.args in
    let d = c.beyond_block.ensures in
    let q = part_done a.t.now a.k c.block_at-a.result c.block_at-a.ensures (block_after a.p) c.on_block.new.b in
    record { t_after = d.t_after ∙ ap (header_after a.p.write) (q c.on_block.ensures); m_after = d.m_after }
