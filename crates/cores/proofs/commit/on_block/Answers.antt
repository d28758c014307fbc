use mathlib.Core.Path.{◌∙◌, refl}
use Rattle.cores.specs.Commit.{block_after}
use Rattle.cores.proofs.Doing.{core_done, buffer_done, walks_done, port_ready_lem}
use Rattle.cores.proofs.commit.on_block.Goals as goal

pub buffer-requires : goal.buffer-requires
buffer-requires c =
    let d = core_done c.args.p c.args.b.now c.requires.b_value_2 c.requires.b_len c.requires.b_value in
    rw c.core.ensures (record { b_len = d.0; b_value = d.1 })

pub walks-requires : goal.walks-requires
walks-requires c =
    let d = buffer_done c.args.p c.args.b.now c.requires.b_value_2 c.requires.b_len c.requires.b_value in
    rw (c.buffer.ensures, c.core.ensures) (record { b_len = d.0; b_value = d.1 })

pub local_port-requires : goal.local_port-requires
local_port-requires c = record { b_len = rw (c.walks.ensures, c.buffer.ensures, c.core.ensures) (walks_done c.args.p c.args.b.now c.requires.b_value_2 c.requires.b_len c.requires.b_value); write_value = port_ready_lem c.args.p c.args.b.now c.requires.b_value_2 }

pub returns : goal.returns
unfolding block_after
returns c = c.local_port.ensures ∙ rw (c.walks.ensures, c.buffer.ensures, c.core.ensures) refl
