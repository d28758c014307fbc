-- Sound tables, clause by clause (01, 'Sound tables').
-- Assumes nothing.
use Rattle.std.specs.Prelude.{ℕ, zero, suc, ◌+◌, ◌*◌, ◌^◌, Bool, true, ◌&&◌, List, length, get_or, eqb, ltb, leb}
use Rattle.layout.specs.Layout as at
use Rattle.records.specs.Contents.{sound_records}
use Rattle.layout.specs.Blocks.{block}
use Rattle.tables.specs.Views.{cores_of, pages_of, lines_of, running_of, sipirr_of, sipivect_of, initrr_of}

-- the d words from i are zero
abbrev pub zero_from : ℕ → ℕ → List ℕ → Bool
zero_from zero i l = true
zero_from (suc d) i l = eqb (get_or l i 0) 0 && zero_from d (i + 1) l

-- 1 to m
abbrev pub up_to : ℕ → ℕ → Bool
up_to m x = leb 1 x && leb x m

-- 0 or 1
abbrev pub is_flag : ℕ → Bool
is_flag x = leb x 1

-- general register 0 and the fixed zeros of a block are zero, its flags are 0 or 1, and sipivect is below 256
unfoldable pub sound_words : List ℕ → Bool
sound_words b =
    eqb (get_or b at.gpr 0) 0
    && (eqb (get_or b at.block_gap 0) 0
    && (zero_from at.block_rest_words at.block_rest b
    && (is_flag (running_of b) && (is_flag (sipirr_of b) && (is_flag (initrr_of b) && ltb (sipivect_of b) 256)))))

-- a block is sound, where memory has n bytes
unfoldable pub sound_block : ℕ → List ℕ → Bool
sound_block n b = sound_words b && sound_records n b

-- the blocks of the first k cores
unfoldable pub sound_blocks : ℕ → ℕ → List ℕ → Bool
sound_blocks zero n t = true
sound_blocks (suc k) n t = sound_block n (block t k) && sound_blocks k n t

-- words 0 and 1 are 1 to 4 and 1 to 4,096, the lengths agree with them, the fixed zeros are zero, and lines use bits 0
-- to 23
unfoldable pub sound_header : ℕ → List ℕ → Bool
sound_header n t =
    up_to at.most_cores (cores_of t)
    && (up_to at.most_pages (pages_of t)
    && (eqb (length t) (at.table_words (cores_of t))
    && (eqb n (at.page_bytes * pages_of t) && (zero_from at.header_rest_words at.header_rest t && ltb (lines_of t) (2 ^ 24)))))

-- tables of the words t are sound beside a memory of n bytes
unfoldable pub sound : List ℕ → ℕ → Bool
sound t n = sound_header n t && sound_blocks (cores_of t) n t
