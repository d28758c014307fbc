-- What a step is (01, 'A step is six words'): kind, core or line, and four more. Words that a kind does not name are
-- zero; a walk's words are not judged.
-- Assumes nothing.
use Rattle.std.specs.Prelude.{if◌then◌else◌, Bool, ◌&&◌, List, ℕ, ◌+◌, ◌^◌, eqb, ltb, length, get_or, drop, Option, Some, None}
use Rattle.std.specs.Bool.{then_some}
use Rattle.std.specs.List.{list_all}
use Rattle.layout.specs.Layout.{block_at, refusals, core_refusals}
use Rattle.records.specs.declared.Walk.{Walk}
use Rattle.steps.specs.declared.Step.{Step}
use Rattle.steps.specs.declared.Step.TheVariants.{ByProcessor, ByApic}
use Rattle.steps.specs.declared.ProcessorStep.TheVariants.{Core, TlbCreate, TlbExtend, TlbAccessed, StoreBuffer}
use Rattle.steps.specs.declared.ApicStep.TheVariants.{SendIpi, SendEoi, InitCore, StartCore, Sample, Deliver, SetLine}

-- the line numbers are 0 to 23
abbrev pub line_count : ℕ
line_count = 24

abbrev pub word : List ℕ → ℕ → ℕ
word s i = get_or s i 0

-- the walk in words i and i + 1
abbrev pub walk_at : List ℕ → ℕ → Walk
walk_at s i = record { first = word s i; second = word s (i + 1) }

-- word i and those after it, which a kind does not name, are zero
unfoldable pub zero_from : ℕ → List ℕ → Bool
zero_from i s = list_all (λ w. eqb w 0) (drop i s)

-- a step of a core: kinds 0 to 8
abbrev pub step_of_core : ℕ → ℕ → List ℕ → Option Step
step_of_core kind k s =
    if eqb kind 0 then Some (ByProcessor k (Core (walk_at s 2) (walk_at s 4)))
    else if eqb kind 1 then then_some (ltb (word s 2) (2 ^ 20) && zero_from 3 s) (ByProcessor k (TlbCreate (word s 2)))
    else if eqb kind 2 then then_some (ltb (word s 4) (2 ^ 3) && zero_from 5 s) (ByProcessor k (TlbExtend (walk_at s 2)))
    else if eqb kind 3 then then_some (zero_from 4 s) (ByProcessor k (TlbAccessed (walk_at s 2)))
    else if eqb kind 4 then then_some (zero_from 2 s) (ByProcessor k StoreBuffer)
    else if eqb kind 5 then then_some (zero_from 2 s) (ByApic (SendIpi k))
    else if eqb kind 6 then then_some (zero_from 2 s) (ByApic (SendEoi k))
    else if eqb kind 7 then then_some (zero_from 2 s) (ByApic (InitCore k))
    else then_some (zero_from 2 s) (ByApic (StartCore k))

-- a step on a line: kinds 9 to 11
abbrev pub step_of_line : ℕ → ℕ → List ℕ → Option Step
step_of_line kind n s =
    if eqb kind 9 then then_some (zero_from 2 s) (ByApic (Sample n))
    else if eqb kind 10 then then_some (zero_from 2 s) (ByApic (Deliver n))
    else then_some (ltb (word s 2) 2 && zero_from 3 s) (ByApic (SetLine n (word s 2)))

-- the step that the words say, for a machine of n cores; none where they are not a step
unfoldable pub step_of : ℕ → List ℕ → Option Step
step_of n s =
    if eqb (length s) 6 then
    (if ltb (word s 0) 9 then (if ltb (word s 1) n then step_of_core (word s 0) (word s 1) s else None)
    else if ltb (word s 0) 12 then (if ltb (word s 1) line_count then step_of_line (word s 0) (word s 1) s else None)
    else None)
    else None

-- ---- whose refusals (02, 'Whose refusals?')

-- six words of kind 0 to 8 that name one of n cores, whatever their other words are
abbrev pub names_core : ℕ → List ℕ → Bool
names_core n s = eqb (length s) 6 && (ltb (word s 0) 9 && ltb (word s 1) n)

-- the word of the tables of n cores that counts a refusal of the words s: that core's, and the header's for the rest
unfoldable pub count_at : ℕ → List ℕ → ℕ
count_at n s = if names_core n s then block_at (word s 1) + core_refusals else refusals
