-- The bytes of an access beneath the store buffer: all of one port word, or all of memory.
-- Assumes nothing.
use Rattle.std.specs.Prelude.{if◌then◌else◌, Option, Some}
use mathlib.Core.Path.{◌≡◌, refl, ap, ◌∙◌}
use Prim.Native.Nat.{ℕ, ◌+◌, ◌-◌, ◌*◌, ◌/◌, ◌%◌, ◌^◌, ◌<◌, ◌≤◌}
use mathlib.Core.Bool.{Bool, true, false, ◌&&◌}
use mathlib.Core.List.{List, []}
use native.Mathlib.Omega.{arith}
use native.Mathlib.Nat.{mod-eq_of_lt}
use lib.ListN.{get_or, drop}
use lib.Seq.{get_or-take, get_or-drop}
use lib.Dec.{ltb, leb}
use borrow.Author.Tests.{ltb-true, leb-true}
use Rattle.word.specs.Word.{minus}
use Rattle.word.specs.Bytes.{byte}
use Rattle.word.proofs.Laws.{ltb_same, leb_same}
use Rattle.word.proofs.Truth.{and_left, and_right}
use Rattle.layout.specs.Layout.{ports, local_ports, io_ports}
use Rattle.records.specs.Contents.{local_port, io_port}
use Rattle.store_buffer.specs.Buffer.{sbhit}
use Rattle.store_buffer.specs.System.{Ports, ports_of, apicadr, ioapicadr, apic_byte, ioapic_byte, memory_byte, beneath, ms_of, ms, reads}
use Rattle.store_buffer.proofs.Access.{InWord, reads_same, reads_part}

-- with an empty buffer the core sees what is beneath
pub ms_empty : (p : Ports) (m : List ℕ) (x : ℕ) → ms [] p m x ≡ beneath p x (memory_byte m x)
unfolding ms_of sbhit
ms_empty p m x = refl

module _ (p : Ports) (x : ℕ) (r : Option ℕ) where
  outside : local_port x ≡ false → io_port x ≡ false → beneath p x r ≡ r
  unfolding beneath
  outside e f = rw (e, f)

  in_local : local_port x ≡ true → beneath p x r ≡ Some (apic_byte p (apicadr x))
  unfolding beneath
  in_local e = rw e

  in_io : local_port x ≡ false → io_port x ≡ true → beneath p x r ≡ Some (ioapic_byte p (ioapicadr x))
  unfolding beneath
  in_io f e = rw (f, e)

-- port addresses
pub local_range : (x : ℕ) → local_port x ≡ true → (local_ports ≤ x) × (x < local_ports + 128)
local_range x e = (leb-true local_ports x (and_left _ _ e), ltb-true x (local_ports + 128) (and_right (leb local_ports x) _ e))

pub io_range : (x : ℕ) → io_port x ≡ true → (io_ports ≤ x) × (x < io_ports + 8)
io_range x e = (leb-true io_ports x (and_left _ _ e), ltb-true x (io_ports + 8) (and_right (leb io_ports x) _ e))

pub local_adr : (x : ℕ) → local_ports ≤ x → x < local_ports + 128 → apicadr x ≡ x - local_ports
local_adr x p q =
    let e : minus 32 x local_ports ≡ x - local_ports = omega arith in
    ap (λ (k : ℕ). k % 128) e ∙ mod-eq_of_lt (omega arith)

pub io_adr : (x : ℕ) → io_ports ≤ x → x < io_ports + 8 → ioapicadr x ≡ x - io_ports
io_adr x p q =
    let e : minus 32 x io_ports ≡ x - io_ports = omega arith in
    ap (λ (k : ℕ). k % 8) e ∙ mod-eq_of_lt (omega arith)

-- the byte in its word, and the word, from a multiple of four on
module _ (l a j : ℕ) (p : 4 * l ≤ a) (q : a % 4 + j < 4) where
  byte_of_lem : (a + j - 4 * l) % 4 ≡ a % 4 + j
  byte_of_lem = omega arith

  word_of : (a + j - 4 * l) / 4 ≡ (a - 4 * l) / 4
  word_of = omega arith

below_four : (x y : ℕ) → x / 4 ≡ y / 4 → ltb x 4 ≡ ltb y 4
below_four x y e = ltb_same x 4 y 4 (λ h. omega arith) (λ h. omega arith)

module _ (a d : ℕ) (low : a < 2 ^ 32) (w : InWord a d) where
  -- whole words lie in a range, or outside it
  range_same : (from to j : ℕ) → from % 4 ≡ 0 → to % 4 ≡ 0 → j < d → leb from (a + j) && ltb (a + j) to ≡ leb from a && ltb a to
  range_same from to j p q h =
      ap (λ (t : Bool). t && ltb (a + j) to) (leb_same from (a + j) from a (λ k. omega (arith, w.within)) (λ k. omega arith))
      ∙ ap (λ (t : Bool). leb from a && t) (ltb_same (a + j) to a to (λ k. omega arith) (λ k. omega (arith, w.within)))

  pub local_same : (j : ℕ) → j < d → local_port (a + j) ≡ local_port a
  local_same j h = range_same local_ports (local_ports + 128) j refl refl h

  pub io_same : (j : ℕ) → j < d → io_port (a + j) ≡ io_port a
  io_same j h = range_same io_ports (io_ports + 8) j refl refl h

  module _ (b m : List ℕ) (select window : ℕ) where
    abbrev p : Ports
    p = ports_of b select window

    room : a + d ≤ 2 ^ 32
    room = omega (arith, w.within, w.some)

    pub reads_memory : local_port a ≡ false → io_port a ≡ false → reads d (ms [] p m) a ≡ reads d (memory_byte m) a
    reads_memory e f =
        reads_same d (ms [] p m) (memory_byte m) a room
        (λ j h. ms_empty p m (a + j) ∙ outside p (a + j) (memory_byte m (a + j)) (local_same j h ∙ e) (io_same j h ∙ f))

    pub reads_local : local_port a ≡ true → reads d (ms [] p m) a ≡ Some (get_or b (ports + (a - local_ports) / 4) 0 / 256 ^ (a % 4) % 256 ^ d)
    reads_local e =
        reads_part d (ms [] p m) (get_or b (ports + (a - local_ports) / 4) 0) a (a % 4) room
        (λ j h. ms_empty p m (a + j) ∙ in_local p (a + j) (memory_byte m (a + j)) (local_same j h ∙ e) ∙ ap Some (bytes j h))
      where
        from : local_ports ≤ a
        from = (local_range a e).0

        to : a < local_ports + 128
        to = (local_range a e).1

        reach : (j : ℕ) → j < d → a + j < local_ports + 128
        reach j h = (local_range (a + j) (local_same j h ∙ e)).1

        bytes : (j : ℕ) → j < d → apic_byte p (apicadr (a + j)) ≡ byte (a % 4 + j) (get_or b (ports + (a - local_ports) / 4) 0)
        bytes j h =
            let adr : apicadr (a + j) ≡ a + j - local_ports = local_adr (a + j) (omega (arith, from)) (reach j h) in
            let k : apicadr (a + j) % 4 ≡ a % 4 + j = ap (λ (n : ℕ). n % 4) adr ∙ byte_of_lem (local_ports / 4) a j from (omega (arith, w.within)) in
            let i : apicadr (a + j) / 4 ≡ (a - local_ports) / 4 = ap (λ (n : ℕ). n / 4) adr ∙ word_of (local_ports / 4) a j from (omega (arith, w.within)) in
            let l : (a - local_ports) / 4 < 32 = omega (arith, from, to) in
            ap (λ (n : ℕ). byte n (get_or p.apic (apicadr (a + j) / 4) 0)) k
            ∙ ap (λ (n : ℕ). byte (a % 4 + j) (get_or p.apic n 0)) i
            ∙ ap (byte (a % 4 + j)) (get_or-take 32 (drop ports b) ((a - local_ports) / 4) 0 l ∙ get_or-drop ports b ((a - local_ports) / 4) 0)

    -- the word that the I/O APIC's port at a belongs to
    abbrev io_word : ℕ
    io_word = if ltb (a - io_ports) 4 then select else window

    pub reads_io : local_port a ≡ false → io_port a ≡ true → reads d (ms [] p m) a ≡ Some (io_word / 256 ^ (a % 4) % 256 ^ d)
    reads_io f e =
        reads_part d (ms [] p m) io_word a (a % 4) room
        (λ j h. ms_empty p m (a + j) ∙ in_io p (a + j) (memory_byte m (a + j)) (local_same j h ∙ f) (io_same j h ∙ e) ∙ ap Some (bytes j h))
      where
        from : io_ports ≤ a
        from = (io_range a e).0

        reach : (j : ℕ) → j < d → a + j < io_ports + 8
        reach j h = (io_range (a + j) (io_same j h ∙ e)).1

        bytes : (j : ℕ) → j < d → ioapic_byte p (ioapicadr (a + j)) ≡ byte (a % 4 + j) io_word
        bytes j h =
            let adr : ioapicadr (a + j) ≡ a + j - io_ports = io_adr (a + j) (omega (arith, from)) (reach j h) in
            let k : ioapicadr (a + j) % 4 ≡ a % 4 + j = ap (λ (n : ℕ). n % 4) adr ∙ byte_of_lem (io_ports / 4) a j from (omega (arith, w.within)) in
            let q : (a + j - io_ports) / 4 ≡ (a - io_ports) / 4 = word_of (io_ports / 4) a j from (omega (arith, w.within)) in
            let i : ltb (ioapicadr (a + j)) 4 ≡ ltb (a - io_ports) 4 = ap (λ (n : ℕ). ltb n 4) adr ∙ below_four (a + j - io_ports) (a - io_ports) q in
            ap (λ (n : ℕ). byte n (if ltb (ioapicadr (a + j)) 4 then select else window)) k
            ∙ ap (λ (t : Bool). byte (a % 4 + j) (if t then select else window)) i
