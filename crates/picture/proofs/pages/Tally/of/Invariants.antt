use mathlib.Core.Path.{◌≡◌}
use Prim.Native.Nat.{◌+◌, ◌≤◌}
use lib.ListN.{drop}
use Rattle.picture.specs.Pages as pages
use Rattle.picture.specs.Pages.{count_of}
use Rattle.picture.proofs.pages.Tally.of.Given as goal

abbrev pub invariant-loop-byte : goal.invariant-loop-byte
invariant-loop-byte l = (l.tally.reached ≤ l.byte-index) × (l.tally.written ≤ l.byte-index) × (l.tally.tables ≤ l.byte-index) × (l.tally.reached + count_of pages.is_reached (drop l.byte-index l.map) ≡ count_of pages.is_reached l.map) × (l.tally.written + count_of pages.can_write (drop l.byte-index l.map) ≡ count_of pages.can_write l.map) × (l.tally.tables + count_of pages.is_table (drop l.byte-index l.map) ≡ count_of pages.is_table l.map)
