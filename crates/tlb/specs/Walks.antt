-- Walks, page table entries and translation requests (the report, section 5). A walk is its two words, an entry its
-- word.
-- Assumes nothing.
use Rattle.std.specs.Prelude.{if◌then◌else◌, Bool, ◌&&◌, ◌||◌, not, List, ℕ, ◌+◌, ◌-◌, ◌*◌, ◌/◌, ◌%◌, ◌^◌, length, eqb, leb, Option, Some, None}
use Rattle.word.specs.Word.{is_set, plus}
use Rattle.word.specs.Bytes.{bytes_at}
use Rattle.records.specs.declared.Walk.{Walk}
use Rattle.records.specs.Records.{level_of}
use Rattle.tlb.specs.declared.Request.{Request}
use Rattle.tlb.specs.declared.Faulting.{Faulting}
use Rattle.tlb.specs.declared.Faulting.TheVariants.{Faults, Passes, Undecided}

-- ---- definition 6: w.va, w.asid, w.level, w.r and w.ba

-- the first word is va * 4096 + asid * 64 + level * 8 + rights
abbrev pub walk_va : Walk → ℕ
walk_va w = w.first / 2 ^ 12

abbrev pub walk_asid : Walk → ℕ
walk_asid w = w.first / 2 ^ 6 % 2 ^ 6

abbrev pub walk_level : Walk → ℕ
walk_level w = level_of w.first

abbrev pub walk_r : Walk → ℕ
walk_r w = w.first % 2 ^ 3

-- the second word is the base page
abbrev pub walk_ba : Walk → ℕ
walk_ba w = w.second

-- the walk (va, asid, level, r, ba)
unfoldable pub walk_of : ℕ → ℕ → ℕ → ℕ → ℕ → Walk
walk_of va asid level r ba = record { first = va * 4096 + asid * 64 + level * 8 + r; second = ba }

-- ---- addresses and entries

-- definition 7: a[31 : 22], a[21 : 12], a[11 : 0]
abbrev pub px2 : ℕ → ℕ
px2 a = a / 2 ^ 22

abbrev pub px1 : ℕ → ℕ
px1 a = a / 2 ^ 12 % 2 ^ 10

abbrev pub px0 : ℕ → ℕ
px0 a = a % 2 ^ 12

-- definition 8: a.ba = a.px2 ∘ a.px1
abbrev pub base_address : ℕ → ℕ
base_address a = px2 a * 2 ^ 10 + px1 a

-- definition 9: pte.ba, pte.p, pte.r, pte.a
abbrev pub pte_ba : ℕ → ℕ
pte_ba e = e / 2 ^ 12

abbrev pub pte_p : ℕ → Bool
pte_p e = is_set e 11

abbrev pub pte_r : ℕ → ℕ
pte_r e = e / 2 ^ 8 % 2 ^ 3

abbrev pub pte_a : ℕ → Bool
pte_a e = is_set e 7

-- definition 10: ptea(ba, i), and ptea(w) with the index px2 at level 2 and px1 at level 1
abbrev pub ptea_at : ℕ → ℕ → ℕ
ptea_at ba i = plus 32 (ba * 2 ^ 12) (4 * i)

unfoldable pub index : Walk → ℕ
index w = if eqb (walk_level w) 2 then px2 (walk_va w * 2 ^ 12) else px1 (walk_va w * 2 ^ 12)

unfoldable pub ptea : Walk → ℕ
ptea w = ptea_at (walk_ba w) (index w)

-- definition 11: the entry at an address, if its four bytes are in memory; pte(m, w)
unfoldable pub entry_at : List ℕ → ℕ → Option ℕ
entry_at m a = if leb (a + 4) (length m) then Some (bytes_at 4 m a) else None

abbrev pub pte : List ℕ → Walk → Option ℕ
pte m w = entry_at m (ptea w)

-- ---- walks

-- definition 12: winit(va, pto, asid)
unfoldable pub winit : ℕ → ℕ → ℕ → Walk
winit va pto asid = walk_of va asid 2 0b111 pto

-- definition 13: r ≤ r', bit by bit
unfoldable pub suffices : ℕ → ℕ → Bool
suffices r s = leb (r % 2) (s % 2) && (leb (r / 2 % 2) (s / 2 % 2) && leb (r / 4 % 2) (s / 4 % 2))

-- definition 14: wext(w, pte, r) and its fault; the rights asked for matter to the fault alone
unfoldable pub wext : Walk → ℕ → Walk
wext w e = if pte_p e then walk_of (walk_va w) (walk_asid w) (walk_level w - 1) (pte_r e) (pte_ba e) else w

unfoldable pub wext_fault : ℕ → ℕ → Bool
wext_fault e r = not (pte_p e) || not (suffices r (pte_r e))

-- definition 15
abbrev pub complete : Walk → Bool
complete w = eqb (walk_level w) 0

-- definition 16: pte[a := 1]
unfoldable pub set_d : ℕ → ℕ
set_d e = if pte_a e then e else e + 2 ^ 7

-- ---- definition 17: translation requests (asid, va, r), with the rights of a fetch, of a load, and of a store or cas:
-- bit 0 is write, bit 1 user, bit 2 execute

abbrev pub fetch_r : ℕ
fetch_r = 0b110

abbrev pub load_r : ℕ
load_r = 0b010

abbrev pub store_r : ℕ
store_r = 0b011

-- definition 18
unfoldable pub hit : Request → Walk → Bool
hit t w = eqb (walk_va w) (t.va / 2 ^ 12) && (eqb (walk_asid w) t.asid && suffices t.r (walk_r w))

-- definition 19: fault(m, trq, w); only where an incomplete walk is a hit does its entry matter, and then it may not be
-- there
unfoldable pub entry_fault : ℕ → Option ℕ → Faulting
entry_fault r (Some e) = if wext_fault e r then Faults else Passes
entry_fault r None = Undecided

unfoldable pub fault_by : Request → Walk → Option ℕ → Faulting
fault_by t w e = if not (complete w) && hit t w then entry_fault t.r e else Passes

abbrev pub fault : List ℕ → Request → Walk → Faulting
fault m t w = fault_by t w (pte m w)

-- a page of an address space as one number, as a walk's first word has it above its low six bits
abbrev pub page_key : ℕ → ℕ → ℕ
page_key va asid = va * 64 + asid
