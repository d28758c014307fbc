-- The parts of the header and of a block follow one another: none overlaps the next, and the fixed zeros are what is
-- left.
-- Assumes nothing.
use mathlib.Core.Path.{◌≡◌, refl}
use Prim.Native.Nat.{ℕ, ◌+◌, ◌*◌}
use Rattle.layout.specs.Layout as at

-- b is n words after a
abbrev After : ℕ → ℕ → ℕ → Type 0
After a n b = a + n ≡ b

pub header_places :
    After at.cores 1 at.pages × After at.pages 1 at.refusals × After at.refusals 1 at.lines × After at.lines 1 at.ioregsel × After at.ioregsel 1 at.iowin
    × After at.iowin 1 at.redirect × After at.redirect 24 at.header_rest × After at.header_rest at.header_rest_words at.header_words
header_places = (refl, refl, refl, refl, refl, refl, refl, refl)

pub register_places :
    After at.gpr 32 at.spr × After at.spr 32 at.pc × After at.pc 1 at.hi × After at.hi 1 at.lo × After at.lo 1 at.running
    × After at.running 1 at.store_head × After at.store_head 1 at.walk_head × After at.walk_head 1 at.free_head × After at.free_head 1 at.block_gap
register_places = (refl, refl, refl, refl, refl, refl, refl, refl, refl)

pub apic_places :
    After at.block_gap 1 at.ports × After at.ports 32 at.eoipending × After at.eoipending 8 at.sipirr × After at.sipirr 1 at.sipivect
    × After at.sipivect 1 at.initrr × After at.initrr 1 at.core_refusals × After at.core_refusals 1 at.block_rest
    × After at.block_rest at.block_rest_words at.records × After at.records (32 * at.record_words) at.block_words
apic_places = (refl, refl, refl, refl, refl, refl, refl, refl, refl)
