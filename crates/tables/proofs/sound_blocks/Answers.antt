use mathlib.Core.Path.{refl, sym, ap, ◌∙◌}
use Prim.Native.Nat.{◌-◌}
use native.Mathlib.Omega.{arith}
use mathlib.Core.Bool.{Bool, ◌&&◌}
use Rattle.tables.specs.Sound.{sound_blocks}
use Rattle.tables.proofs.Parts.{blocks_step, blocks_none}
use Rattle.tables.proofs.sound_blocks.Goals as goal

pub loop-k-init : goal.loop-k-init
loop-k-init c = refl

pub returns-then-not-sound_block : goal.returns-then-not-sound_block
returns-then-not-sound_block c =
    ap (λ (r : Bool). r && sound_blocks (c.loop-k.k - 1) c.args.bytes c.args.tables.now) (sym c.if-not-sound_block.true)
    ∙ blocks_step c.loop-k.k _ _ _ _ c.loop-k-test.true c.block.ensures.0 c.sound_block.ensures
    ∙ c.loop-k.invariant

pub loop-k-preserved : goal.loop-k-preserved
loop-k-preserved c =
    ap (λ (r : Bool). r && sound_blocks (c.loop-k.k - 1) c.args.bytes c.args.tables.now) (sym c.if-not-sound_block.false)
    ∙ blocks_step c.loop-k.k _ _ _ _ c.loop-k-test.true c.block.ensures.0 c.sound_block.ensures
    ∙ c.loop-k.invariant

pub returns : goal.returns
returns c = sym (blocks_none _ _ _ (omega (arith, c.loop-k-test.false))) ∙ c.loop-k.invariant
