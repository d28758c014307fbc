-- The memory that a core sees (the report, definitions 4 and 70 to 77), and what a load gives.
-- Assumes nothing.
use Rattle.std.specs.Prelude.{if◌then◌else◌, ℕ, zero, suc, ◌+◌, ◌*◌, ◌/◌, ◌%◌, Bool, ◌&&◌, ◌||◌, List, length, get_or, take, drop, eqb, ltb, Option, Some, None, Result, Ok, Err}
use Rattle.word.specs.Word.{plus, minus}
use Rattle.word.specs.Bytes.{byte}
use Rattle.layout.specs.Layout.{local_ports, io_ports, ports}
use Rattle.records.specs.declared.Store.{Store}
use Rattle.records.specs.Contents.{local_port, io_port}
use Rattle.store_buffer.specs.declared.Loaded.{Loaded}
use Rattle.store_buffer.specs.declared.LoadError.{LoadError}
use Rattle.store_buffer.specs.Buffer.{sbhit, sbv, maxsbhit, sbhazard}

-- definitions 70 to 73 are local_ports, local_port, io_ports and io_port

-- the port words that a core sees: the 32 of its local APIC, and the I/O APIC's IOREGSEL and IOWIN
pub record Ports : Type 0 where
  pub apic : List ℕ
  pub select : ℕ
  pub window : ℕ

abbrev pub ports_of : List ℕ → ℕ → ℕ → Ports
ports_of b select window = record { apic = take 32 (drop ports b); select = select; window = window }

-- definition 75: the bytes of ports
abbrev pub is_port : ℕ → Bool
is_port x = local_port x || io_port x

-- definition 76: the port address of a byte at x
abbrev pub apicadr : ℕ → ℕ
apicadr x = minus 32 x local_ports % 128

abbrev pub ioapicadr : ℕ → ℕ
ioapicadr x = minus 32 x io_ports % 8

-- the byte at a port address; the low byte of a word comes first
abbrev pub apic_byte : Ports → ℕ → ℕ
apic_byte p k = byte (k % 4) (get_or p.apic (k / 4) 0)

abbrev pub ioapic_byte : Ports → ℕ → ℕ
ioapic_byte p k = byte (k % 4) (if ltb k 4 then p.select else p.window)

-- a byte of memory, which may end before x
abbrev pub memory_byte : List ℕ → ℕ → Option ℕ
memory_byte m x = if ltb x (length m) then Some (get_or m x 0) else None

-- definition 77: the byte at x as the core sees it, by what memory has there
unfoldable pub beneath : Ports → ℕ → Option ℕ → Option ℕ
beneath p x in_memory =
    if local_port x then Some (apic_byte p (apicadr x)) else
    if io_port x then Some (ioapic_byte p (ioapicadr x)) else
    in_memory

unfoldable pub ms_of : List Store → Ports → ℕ → Option ℕ → Option ℕ
ms_of sb p x in_memory = if sbhit sb x then sbv sb x else beneath p x in_memory

abbrev pub ms : List Store → Ports → List ℕ → ℕ → Option ℕ
ms sb p m x = ms_of sb p x (memory_byte m x)

-- definition 4: d bytes from a on, as a number whose low byte is the first; nowhere if one of them is
abbrev pub join : Option ℕ → Option ℕ → Option ℕ
join (Some v) (Some w) = Some (v + 256 * w)
join (Some v) None = None
join None w = None

unfoldable pub reads : ℕ → (ℕ → Option ℕ) → ℕ → Option ℕ
reads zero f a = Some 0
reads (suc d) f a = join (f a) (reads d f (plus 32 a 1))

-- a load: the value, and the newest pending store that the first byte hits (without a hazard: that all its bytes hit)
abbrev pub on_read : Option ℕ → Option ℕ → Result Loaded LoadError
on_read h (Some v) = Ok (record { value = v; served_by = h })
on_read h None = Err LoadError.Nowhere

unfoldable pub loaded : List Store → Ports → List ℕ → ℕ → ℕ → Result Loaded LoadError
loaded sb p m a d = if sbhazard sb a d then Err LoadError.Hazard else on_read (maxsbhit sb a) (reads d (ms sb p m) a)

-- an access of 1, 2 or 4 bytes, at a multiple of its width
abbrev pub sized : ℕ → Bool
sized d = eqb d 1 || (eqb d 2 || eqb d 4)

unfoldable pub aligned : ℕ → ℕ → Bool
aligned a d = sized d && eqb (a % d) 0
