-- The operation Translate (02, the first request): where up to 64 virtual addresses of a core lead, each by a walk of
-- its own through the page tables in memory, and how many different table entries that takes.
-- Assumes nothing.
use Rattle.std.specs.Prelude.{if◌then◌else◌, Bool, not, ℕ, zero, suc, ◌+◌, ◌*◌, eqb, ltb, leb, length, Option, Some, None, Result, Ok, Err}
use mathlib.Core.List.{List, [], ◌∷◌, flat_map}
use Rattle.layout.specs.Blocks.{block}
use Rattle.records.specs.declared.Walk.{Walk}
use Rattle.tables.specs.Views.{cores_of, asid_of}
use Rattle.tables.specs.Sound.{sound}
use Rattle.tlb.specs.Walks.{walk_level, walk_r, walk_ba, base_address, ptea, pte, pte_p, winit, wext}
use Rattle.tlb.specs.Steps.{origin_of}
use Rattle.reach.specs.Lists.{has, select}
use Rattle.translate.specs.declared.Translation.{Translation}
use Rattle.translate.specs.declared.Translation.TheVariants.{Mapped, Absent, Beyond}
use Rattle.refusals.specs.declared.Refusal.{Refusal}
use Rattle.refusals.specs.declared.Refusal.TheVariants.{Unsound, Core, Addresses, AnswersLength}
use Rattle.refusals.specs.Numbers.{number}

-- ---- one address

-- the walk that its translation begins with: at the page in pto of the core with block b, for the page of the address
-- (definitions 8 and 12)
unfoldable pub walk_for : List ℕ → ℕ → Walk
walk_for b a = winit (base_address a) (origin_of b) (asid_of b)

-- an entry in memory that is present extends a walk (definitions 11 and 14), and f says of that walk where it leads
unfoldable pub leads_by : (Walk → Translation) → Walk → Option ℕ → Translation
leads_by f w (Some e) = if pte_p e then f (wext w e) else Absent (walk_level w)
leads_by f w None = Beyond

-- where a walk leads that has n levels to go: to a page, with the rights of the last entry, where it is complete
-- (definition 15), or to an entry that is absent or beyond memory
unfoldable pub leads : ℕ → List ℕ → Walk → Translation
leads zero m w = Mapped (walk_ba w) (walk_r w)
leads (suc n) m w = leads_by (leads n m) w (pte m w)

-- the addresses of the entries that it needs (definition 10), one beyond memory too
unfoldable pub needs_by : (Walk → List ℕ) → Walk → Option ℕ → List ℕ
needs_by f w (Some e) = if pte_p e then f (wext w e) else []
needs_by f w None = []

unfoldable pub needs : ℕ → List ℕ → Walk → List ℕ
needs zero m w = []
needs (suc n) m w = ptea w ∷ needs_by (needs n m) w (pte m w)

-- ---- several addresses

-- the three words for each answer
abbrev pub translation_words : Translation → List ℕ
translation_words (Mapped page rights) = 0 ∷ page ∷ rights ∷ []
translation_words (Absent level) = 1 ∷ level ∷ 0 ∷ []
translation_words Beyond = 2 ∷ 0 ∷ 0 ∷ []

-- the words for the addresses l of the core with block b
unfoldable pub answers_for : List ℕ → List ℕ → List ℕ → List ℕ
answers_for b m l = flat_map (λ (a : ℕ). translation_words (leads 2 m (walk_for b a))) l

-- how many different numbers a list has
unfoldable pub different : List ℕ → ℕ
different [] = 0
different (x ∷ l) = if has x l then different l else suc (different l)

-- the entry at an address is in memory, as for entry_at
abbrev pub is_there : List ℕ → ℕ → Bool
is_there m a = leb (a + 4) (length m)

-- the entries that all the walks need; how many different ones of them are in memory
unfoldable pub needs_for : List ℕ → List ℕ → List ℕ → List ℕ
needs_for b m l = flat_map (λ (a : ℕ). needs 2 m (walk_for b a)) l

unfoldable pub reads_for : List ℕ → List ℕ → List ℕ → ℕ
reads_for b m l = different (select (is_there m) (needs_for b m l))

-- ---- the operation for core k and the addresses l: it fills the lent words r, and answers the number of entries read;
-- a refusal writes nothing

pub record Answers : Type 0 where
  pub answer : Result ℕ Refusal
  pub words : List ℕ

unfoldable pub translate_on : ℕ → List ℕ → List ℕ → List ℕ → List ℕ → Answers
translate_on k l t m r =
    if not (sound t (length m)) then record { answer = Err Unsound; words = r }
    else if not (ltb k (cores_of t)) then record { answer = Err Core; words = r }
    else if not (leb (length l) 64) then record { answer = Err Addresses; words = r }
    else if not (eqb (length r) (3 * length l)) then record { answer = Err AnswersLength; words = r }
    else record { answer = Ok (reads_for (block t k) m l); words = answers_for (block t k) m l }

-- the number for each answer: 0, or 100 and the number of a refusal; and the number of entries read, 0 for a refusal
abbrev pub translated_number : Result ℕ Refusal → ℕ
translated_number (Ok n) = 0
translated_number (Err r) = 100 + number r

abbrev pub reads_of : Result ℕ Refusal → ℕ
reads_of (Ok n) = n
reads_of (Err r) = 0
