-- An interrupt that is to be sent has a vector of eight bits.
-- Assumes nothing.
use Rattle.std.specs.Prelude.{if◌then◌else◌, Option, Some, None}
use mathlib.Core.Path.{◌≡◌, subst}
use mathlib.Core.Bool.{Bool, true, false}
use mathlib.Core.List.{List}
use Prim.Native.Nat.{ℕ, ◌+◌, ◌/◌, ◌%◌, ◌^◌, ◌<◌}
use native.Mathlib.Omega.{arith}
use lib.ListN.{get_or}
use lib.Dec.{eqb}
use Rattle.word.specs.Word.{bit}
use Rattle.apic.specs.declared.local.Kind.{Kind}
use Rattle.apic.specs.declared.local.Kind.TheVariants.{Fixed, Init, Startup}
use Rattle.apic.specs.declared.active.Ipi.{Ipi}
use Rattle.apic.specs.LocalApic.{icr}
use Rattle.apic.specs.Active.{ipi_of, sending_of, sending}

abbrev Small : Option Ipi → Type 0
Small (Some m) = m.vect < 256
Small None = Unit {0}

either : (t : Bool) (x y : Option Ipi) → Small x → Small y → Small (if t then x else y)
either true x y p q = p
either false x y p q = q

sent : (k : Kind) (low high : ℕ) → Small (Some (ipi_of k low high))
sent k low high = omega arith

pub sending_vect : (b : List ℕ) (m : Ipi) → sending b ≡ Some m → m.vect < 256
unfolding sending
sending_vect b m e = subst Small e (all (get_or b icr 0) (get_or b (icr + 1) 0))
  where
    all : (low high : ℕ) → Small (sending_of low high)
    all low high =
        either (eqb (bit low 12) 0) _ _ tt
        (either (eqb (bit low 11) 0) _ _ tt
        (either (eqb (low / 2 ^ 8 % 8) 0b000) _ _ (sent Fixed low high)
        (either (eqb (low / 2 ^ 8 % 8) 0b101) _ _ (sent Init low high)
        (either (eqb (low / 2 ^ 8 % 8) 0b110) _ _ (sent Startup low high) tt))))
