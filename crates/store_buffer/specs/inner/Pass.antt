-- One pass over the pending stores, for all bytes of an access at once. It serves contracts inside alone: `pass_found`
-- of proofs/Pass ties it to definitions 59 and 61 in Buffer.
-- Assumes nothing.
use Rattle.std.specs.Prelude.{if◌then◌else◌, ℕ, ◌-◌, List, get_or, eqb, ltb, leb, Option, Some, None}
use Rattle.word.specs.Word.{minus}
use Rattle.records.specs.Records.{stores, store_numbers}
use Rattle.store_buffer.specs.declared.Cover.{Cover}
use Rattle.store_buffer.specs.declared.Cover.TheVariants.{Whole, Part, Outside}
use Rattle.store_buffer.specs.declared.Source.{Source}
use Rattle.store_buffer.specs.declared.Source.TheVariants.{Nothing, One, Mixed}
use Rattle.store_buffer.specs.Buffer.{maxsbhit, sbhazard}

-- the newest pending store of all d bytes at a: its place and its record's number; none; or a hazard
abbrev pub source_by : List ℕ → Option ℕ → Source
source_by b (Some i) = One i (get_or (store_numbers b) i 0)
source_by b None = Nothing

unfoldable pub source_of : List ℕ → ℕ → ℕ → Source
source_of b a d = if sbhazard (stores b) a d then Mixed else source_by b (maxsbhit (stores b) a)

-- how many of the d bytes at a a store writes: all, some, none
unfoldable pub cover : ℕ → ℕ → ℕ → ℕ → Cover
cover address width a d =
    if ltb (minus 32 a address) width then
    (if leb d (width - minus 32 a address) then Whole else Part)
    else
    if ltb (minus 32 address a) d then (if eqb width 0 then Outside else Part) else
    Outside

-- what is found after a store at place i, in record n
abbrev pub on_cover : Cover → ℕ → ℕ → Source → Source
on_cover Whole i n f = One i n
on_cover Part i n f = Mixed
on_cover Outside i n f = f
