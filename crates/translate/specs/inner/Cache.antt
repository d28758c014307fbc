-- How the code keeps the entries that it has read: their addresses in the order in which they were first asked for,
-- each entry beside its address, and a slot for each address. It serves the contracts inside this crate alone:
-- `asked_reads` of proofs/Different ties the addresses kept to specs/Translate.antt, and the contract of translate
-- speaks of that file only.
-- Assumes nothing.
use Rattle.std.specs.Prelude.{if◌then◌else◌, ◌≡◌, false, ◌&&◌, not, List, [], ◌∷◌, ◌++◌, ℕ, ◌+◌, ◌*◌, ◌/◌, ◌%◌, ◌≤◌, ◌<◌, length, get_or, take, Option, None, Some}
use Rattle.word.specs.Bytes.{bytes_at}
use Rattle.reach.specs.Lists.{has}
use Rattle.translate.specs.Translate.{is_there}

-- the addresses kept after the entry at a was asked for; after all of a list were
unfoldable pub cache : List ℕ → List ℕ → ℕ → List ℕ
cache m k a = if is_there m a && not (has a k) then k ++ (a ∷ []) else k

unfoldable pub cache_all : List ℕ → List ℕ → List ℕ → List ℕ
cache_all m k [] = k
cache_all m k (a ∷ l) = cache_all m (cache m k a) l

-- the slot of an address: its place in the table, moved by the page, so that the entries of neighbouring tables have
-- slots far apart
abbrev pub slot_of : ℕ → ℕ
slot_of a = (a / 4 + 633 * (a / 4096)) % 1024

-- each of the first n addresses has a slot that is in use
abbrev pub Slotted : ℕ → List ℕ → List ℕ → Type 0
Slotted n keys slots = (i : ℕ) → i < n → 0 < get_or slots (slot_of (get_or keys i 0)) 0

-- n entries of the memory m are kept
pub record Cached (m : List ℕ) (n : ℕ) (keys words slots : List ℕ) : Type 0 where
  pub few : n ≤ 128
  pub keys_long : length keys ≡ 128
  pub words_long : length words ≡ 128
  pub slots_long : length slots ≡ 1024
  pub read : (i : ℕ) → i < n → get_or words i 0 ≡ bytes_at 4 m (get_or keys i 0)
  pub slotted : Slotted n keys slots

-- where the address a stands among the first n of some
abbrev pub Finds : ℕ → ℕ → List ℕ → Option ℕ → Type 0
Finds a n keys (Some i) = (i < n) × (get_or keys i 0 ≡ a)
Finds a n keys None = has a (take n keys) ≡ false

-- what was kept after the entries at the addresses l were asked for: c entries, each once
pub record Asked (m l : List ℕ) (n : ℕ) (keys : List ℕ) (c : ℕ) (keys' words' slots' : List ℕ) : Type 0 where
  pub kept : Cached m c keys' words' slots'
  pub addresses : take c keys' ≡ cache_all m (take n keys) l
