-- Laws of the arguments: the first of them in the bytes, and the core that it names.
-- Assumes nothing.
use Rattle.std.specs.Prelude.{if◌then◌else◌}
use mathlib.Core.Path.{◌≡◌, refl, sym, ap, ◌∙◌}
use mathlib.Core.Bool.{Bool, true, false, ◌&&◌}
use mathlib.Core.List.{List, [], ◌∷◌, ◌++◌, append-nil}
use mathlib.Core.Logic.{◌≢◌, ⊎_elim}
use Prim.Native.Nat.{ℕ, suc, ◌+◌, ◌-◌, ◌≤◌, ◌<◌}
use native.Mathlib.Decide.{ℕ_discrete}
use native.Mathlib.Numerals.{add-one}
use native.Mathlib.Omega.{arith}
use lib.Dec.{eqb, leb}
use lib.ListN.{length, get_or, take, drop, length-drop, drop_of_length-le}
use lib.Seq.{drop-cons, drop-drop, take-suc, get_or-drop, append_snoc}
use borrow.Author.Tests.{eq-eqb, ne_eqb, le-leb, lt-leb}
use Rattle.word.specs.Word.{with_bit}
use Rattle.word.proofs.Laws.{side}
use Rattle.records.proofs.Counts.{either}
use Rattle.verdict_text.specs.Arguments.{before, arguments_in, named_core, Cores, NoCore, asked_from}
use Rattle.verdict_text.specs.inner.First.{first, after_first, core_of}
use Rattle.std.specs.Prelude.{Option, Some, None}

-- ---- the first argument and the others

pub first_argument : (x : ℕ) (b : List ℕ) → arguments_in (x ∷ b) ≡ first (x ∷ b) ∷ arguments_in (after_first (x ∷ b))
unfolding arguments_in first after_first
first_argument x [] = either (ℕ_discrete x 0) (λ e. rw (eq-eqb x 0 e) refl) (λ e. rw (ne_eqb x 0 e) refl)
first_argument x (y ∷ b) = either (ℕ_discrete x 0) (λ e. rw (eq-eqb x 0 e) refl) (λ e. rw (ne_eqb x 0 e) (ap (before x) (first_argument y b)))

first_zero : (x : ℕ) (b : List ℕ) → x ≡ 0 → first (x ∷ b) ≡ []
unfolding first
first_zero x b e = rw (eq-eqb x 0 e) refl

first_more : (x : ℕ) (b : List ℕ) → x ≢ 0 → first (x ∷ b) ≡ x ∷ first b
unfolding first
first_more x b e = rw (ne_eqb x 0 e) refl

-- ---- the core that it names

none_of : (p : Bool) {q : Bool} (v : ℕ) → q ≡ false → (if p && q then v else 4) ≡ 4
none_of true v e = rw e refl
none_of false v e = refl

no_digit : (s : List ℕ) → (leb 48 (get_or s 0 0) && leb (get_or s 0 0) 51) ≡ false → named_core s ≡ 4
unfolding named_core
no_digit s e = none_of (eqb (length s) 1) _ e

no_length : (s : List ℕ) → length s ≢ 1 → named_core s ≡ 4
unfolding named_core
no_length s e = rw (ne_eqb (length s) 1 e) refl

pub digit : (x : ℕ) → 48 ≤ x → x ≤ 51 → named_core (x ∷ []) ≡ x - 48
unfolding named_core
digit x h k = rw (le-leb 48 x h, le-leb x 51 k) refl

pub one_byte : (s : List ℕ) → named_core s < 4 → length s ≡ 1
one_byte s h = either (ℕ_discrete (length s) 1) (λ e. e) (λ e. absurd (omega (arith, no_length s e)))

-- no other byte does
pub digit_only : (x : ℕ) → named_core (x ∷ []) < 4 → (48 ≤ x) × (x ≤ 51)
digit_only x h =
    ⊎_elim (λ (l : x < 48). absurd (omega (arith, no_digit (x ∷ []) (rw (lt-leb 48 x l) refl))))
    (λ (l : 48 ≤ x). ⊎_elim (λ (m : 51 < x). absurd (omega (arith, no_digit (x ∷ []) (rw (le-leb 48 x l, lt-leb x 51 m) refl)))) (λ (m : x ≤ 51). (l, m)) (side 51 x))
    (side x 48)

low : (x : ℕ) (b : List ℕ) → x < 48 → named_core (first (x ∷ b)) ≡ 4
low x b h = either (ℕ_discrete x 0) (λ e. rw (first_zero x b e) (no_length [] (λ u. absurd (omega arith)))) (λ e. rw (first_more x b e) (no_digit (x ∷ first b) (rw (lt-leb 48 x h) refl)))

high : (x : ℕ) (b : List ℕ) → 51 < x → named_core (first (x ∷ b)) ≡ 4
high x b h = rw (first_more x b (λ e. absurd (omega arith))) (no_digit (x ∷ first b) (rw (le-leb 48 x (omega arith), lt-leb x 51 h) refl))

long : (x y : ℕ) (b : List ℕ) → x ≢ 0 → y ≢ 0 → named_core (first (x ∷ y ∷ b)) ≡ 4
long x y b h k = rw (first_more x (y ∷ b) h, first_more y b k) (no_length (x ∷ y ∷ first b) (λ e. absurd (omega arith)))

alone : (x : ℕ) (b : List ℕ) → 48 ≤ x → x ≤ 51 → first b ≡ [] → named_core (first (x ∷ b)) ≡ x - 48
alone x b h k e = rw (first_more x b (λ u. absurd (omega arith)), e) (digit x h k)

after_one : (s : List ℕ) → length (first s) ≡ 1 → after_first s ≡ drop 2 s
unfolding first after_first
after_one [] e = absurd (omega arith)
after_one (x ∷ []) e = either (ℕ_discrete x 0) (λ u. rw (eq-eqb x 0 u) refl) (λ u. rw (ne_eqb x 0 u) refl)
after_one (x ∷ y ∷ b) e =
    either (ℕ_discrete x 0) (λ u. absurd (omega (arith, sym e ∙ ap length (first_zero x (y ∷ b) u))))
    (λ u. either (ℕ_discrete y 0) (λ v. rw (ne_eqb x 0 u, eq-eqb y 0 v) refl)
    (λ v. absurd (omega (arith, sym e ∙ ap length (first_more x (y ∷ b) u ∙ ap (λ (l : List ℕ). x ∷ l) (first_more y b v))))))

-- ---- the argument at a place of the bytes

module _ (a : List ℕ) (at : ℕ) (h : at < length a) where
  abbrev byte : ℕ
  byte = get_or a at 0

  here : drop at a ≡ byte ∷ drop (suc at) a
  here = drop-cons a at 0 h

  pub core_low : byte < 48 → named_core (first (drop at a)) ≡ 4
  core_low k = rw here (low byte (drop (suc at) a) k)

  pub core_high : 51 < byte → named_core (first (drop at a)) ≡ 4
  core_high k = rw here (high byte (drop (suc at) a) k)

  module _ (l : at + 1 < length a) where
    then_here : drop (suc at) a ≡ get_or a (at + 1) 0 ∷ drop (suc (at + 1)) a
    then_here = ap (λ (n : ℕ). drop n a) (sym (add-one at)) ∙ drop-cons a (at + 1) 0 l

    pub core_long : 48 ≤ byte → get_or a (at + 1) 0 ≢ 0 → named_core (first (drop at a)) ≡ 4
    core_long k e = rw (here, then_here) (long byte (get_or a (at + 1) 0) (drop (suc (at + 1)) a) (λ u. absurd (omega arith)) e)

    pub core_ended : 48 ≤ byte → byte ≤ 51 → get_or a (at + 1) 0 ≡ 0 → named_core (first (drop at a)) ≡ byte - 48
    core_ended k m e = rw here (alone byte (drop (suc at) a) k m (ap first then_here ∙ first_zero (get_or a (at + 1) 0) (drop (suc (at + 1)) a) e))

  first_nil : first [] ≡ []
  unfolding first
  first_nil = refl

  pub core_last : 48 ≤ byte → byte ≤ 51 → length a ≤ at + 1 → named_core (first (drop at a)) ≡ byte - 48
  core_last k m l = rw here (alone byte (drop (suc at) a) k m (ap first (drop_of_length-le a {i = suc at} (omega arith)) ∙ first_nil))

  -- what is said from this argument on
  from_here : arguments_in (drop at a) ≡ first (drop at a) ∷ arguments_in (after_first (drop at a))
  from_here = rw here (first_argument byte (drop (suc at) a))

  module _ (g : ℕ) where
    pub wrong_argument : named_core (first (drop at a)) ≡ 4 → asked_from g (arguments_in (drop at a)) ≡ NoCore (first (drop at a))
    unfolding asked_from
    wrong_argument e = ap (asked_from g) from_here ∙ rw (eq-eqb (named_core (first (drop at a))) 4 e) refl

    pub next_argument :
        (k : ℕ) → k ≡ named_core (first (drop at a)) → k < 4 → asked_from g (arguments_in (drop at a)) ≡ asked_from (with_bit g k 1) (arguments_in (drop (at + 2) a))
    unfolding asked_from
    next_argument k e l =
        let o : after_first (drop at a) ≡ drop (at + 2) a = after_one (drop at a) (one_byte (first (drop at a)) (omega arith)) ∙ drop-drop 2 at a in
        ap (asked_from g) from_here
        ∙ rw (ne_eqb (named_core (first (drop at a))) 4 (λ u. absurd (omega arith)))
        (ap (λ (n : ℕ). asked_from (with_bit g n 1) (arguments_in (after_first (drop at a)))) (sym e) ∙ ap (λ (x : List ℕ). asked_from (with_bit g k 1) (arguments_in x)) o)

-- past the last argument no other is asked
pub all_there : (a : List ℕ) (g at : ℕ) → length a ≤ at → asked_from g (arguments_in (drop at a)) ≡ Cores g
unfolding asked_from arguments_in
all_there a g at h = ap (λ (x : List ℕ). asked_from g (arguments_in x)) (drop_of_length-le a h)

-- a core as an option
pub core_is : {k n : ℕ} → k ≡ n → k < 4 → Some k ≡ core_of n
core_is {k} {n} e h = ap Some e ∙ sym (rw (ne_eqb n 4 (λ u. absurd (omega (arith, e)))) refl)

abbrev number_of : Option ℕ → ℕ
number_of None = 4
number_of (Some k) = k

number_is : (n : ℕ) → number_of (core_of n) ≡ n
number_is n = either (ℕ_discrete n 4) (λ e. rw (eq-eqb n 4 e) (sym e)) (λ e. rw (ne_eqb n 4 e) refl)

pub is_core : (k n : ℕ) → Some k ≡ core_of n → k ≡ n
is_core k n e = ap number_of e ∙ number_is n

pub is_none : (n : ℕ) → None ≡ core_of n → n ≡ 4
is_none n e = sym (ap number_of e ∙ number_is n)

-- ---- how long it is

-- its bytes before a place are not zero
abbrev pub LongTo : List ℕ → ℕ → ℕ → Type 0
LongTo a at end = first (drop at a) ≡ take (end - at) (drop at a) ++ first (drop end a)

pub long_start : (a : List ℕ) (at : ℕ) → LongTo a at at
long_start a at = let e : at - at ≡ 0 = omega arith in rw e refl

module _ (a : List ℕ) (at end : ℕ) (p : LongTo a at end) where
  long_at : first (drop end a) ≡ [] → take (end - at) (drop at a) ≡ first (drop at a)
  long_at e = sym (append-nil (take (end - at) (drop at a))) ∙ ap (λ (l : List ℕ). take (end - at) (drop at a) ++ l) (sym e) ∙ sym p

  pub long_last : length a ≤ end → take (end - at) (drop at a) ≡ first (drop at a)
  unfolding first
  long_last k = long_at (ap first (drop_of_length-le a {i = end} k))

  module _ (h : end < length a) where
    pub long_zero : get_or a end 0 ≡ 0 → take (end - at) (drop at a) ≡ first (drop at a)
    long_zero e = long_at (ap first (drop-cons a end 0 h) ∙ first_zero (get_or a end 0) (drop (suc end) a) e)

    pub long_more : at ≤ end → get_or a end 0 ≢ 0 → LongTo a at (end + 1)
    long_more k e =
        let n : end + 1 - at ≡ suc (end - at) = omega arith in
        let o : at + (end - at) ≡ end = omega arith in
        let x : get_or (drop at a) (end - at) 0 ≡ get_or a end 0 = get_or-drop at a (end - at) 0 ∙ ap (λ (j : ℕ). get_or a j 0) o in
        let q : take (end - at) (drop at a) ++ first (drop end a) ≡ take (end - at) (drop at a) ++ (get_or a end 0 ∷ first (drop (suc end) a))
        = ap (λ (l : List ℕ). take (end - at) (drop at a) ++ l) (ap first (drop-cons a end 0 h) ∙ first_more (get_or a end 0) (drop (suc end) a) e) in
        p ∙ q ∙ rw (n, take-suc (drop at a) (end - at) 0 (omega (arith, length-drop at a)), x, add-one end) (sym (append_snoc (take (end - at) (drop at a)) (get_or a end 0) (first (drop (suc end) a))))
