-- What the check asks of each chain and of each record on it: rules of Records and Contents. It serves contracts inside
-- alone: `fails_once` and `tested_all` of proofs/Contents tie `ruled` to `sound_records`.
-- Assumes nothing.
use Rattle.std.specs.Prelude.{ℕ, Bool, ◌&&◌, List, length, leb}
use Rattle.layout.specs.Layout.{store_head, walk_head, free_head}
use Rattle.records.specs.declared.check.Rule.{Rule}
use Rattle.records.specs.declared.check.Rule.TheVariants.{Blank, Store, Walk}
use Rattle.records.specs.Records.{chain_at, all, small, blank, last_blank, store_in, walk_in}
use Rattle.records.specs.Contents.{store_sound, walk_sound}

abbrev pub obeys : Rule → List ℕ → ℕ → Bool
obeys Blank b n = blank b n
obeys (Store bytes) b n = store_sound bytes (store_in b n)
obeys Walk b n = walk_sound (walk_in b n) && last_blank b n

-- a number of a chain is below 32, and its record obeys the rule
abbrev pub fits_rule : Rule → List ℕ → ℕ → Bool
fits_rule rule b n = small n && obeys rule b n

-- a chain has at most `most` records, and each fits
abbrev pub chain_fits : Rule → ℕ → List ℕ → ℕ → Bool
chain_fits rule most b h = leb (length (chain_at b h)) most && all (fits_rule rule b) (chain_at b h)

-- the three chains: at most 8 stores, 23 walks, and all of the 31 records free
unfoldable pub ruled : ℕ → List ℕ → Bool
ruled bytes b = chain_fits (Store bytes) 8 b store_head && (chain_fits Walk 23 b walk_head && chain_fits Blank 31 b free_head)
