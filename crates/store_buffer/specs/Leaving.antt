-- The step of the store buffer (the report, section 11.3): the oldest store, and where it goes.
-- Assumes nothing.
use Rattle.std.specs.Prelude.{if◌then◌else◌, ℕ, ◌+◌, List, [], ◌∷◌, eqb, leb, Option, Some, None}
use Rattle.records.specs.declared.Store.{Store}
use Rattle.records.specs.Contents.{local_port, io_port}
use Rattle.store_buffer.specs.declared.Place.{Place}
use Rattle.store_buffer.specs.declared.Place.TheVariants.{LocalPort, IoPort, Narrow, Memory, Beyond}
use Rattle.store_buffer.specs.System.{apicadr, ioapicadr}

-- an empty buffer makes no step
abbrev pub oldest : List Store → Option Store
oldest [] = None
oldest (s ∷ sb) = Some s

-- ports take words only
abbrev pub word_only : Store → Place → Place
word_only s t = if eqb s.width 4 then t else Narrow

-- a port at its port address, or memory of n bytes
unfoldable pub place_of : ℕ → Store → Place
place_of n s =
    if local_port s.address then word_only s (LocalPort (apicadr s.address)) else
    if io_port s.address then word_only s (IoPort (ioapicadr s.address)) else
    if leb (s.address + s.width) n then Memory else
    Beyond
