-- Laws of the bytes at a place of a list, for every number of them.
-- Assumes nothing.
use Rattle.std.proofs.Common.{◌≡◌, ℕ, zero, suc, ◌+◌, ◌-◌, ◌*◌, ◌/◌, ◌%◌, ◌^◌, ◌<◌, ◌≤◌, List, [], ◌∷◌, ◌++◌, length, get_or, take, drop, set, sym, refl, ap, ◌∙◌, add-one, arith, append_assoc, append-nil, length-append, length-set, get_or-drop, take_all, get_or-take, take-suc-set}
use Rattle.std.proofs.Math.Seq.{paste, paste-zero, paste-suc}
use Rattle.std.proofs.lemmas.List.Edits.{paste-paste}
use native.Mathlib.Nat.{pow-succ', pow-le-pow_right}
use Rattle.std.specs.Int.{w32, to_le_bytes}
use Rattle.word.specs.Bytes.{bytes_at, put, words_in}
use Rattle.word.proofs.Words.{Below, set_below}

-- every element is a byte
abbrev pub Bytes : List ℕ → Type 0
Bytes m = Below (2 ^ 8) m

pub bytes_lt : (d : ℕ) (m : List ℕ) (a : ℕ) → Bytes m → bytes_at d m a < 256 ^ d
bytes_lt zero m a h = omega arith
bytes_lt (suc d) m a h =
    let p : 256 ^ suc d ≡ 256 * 256 ^ d = pow-succ' 256 d in
    omega (arith, h a, bytes_lt d m (a + 1) h)

-- k bytes of at most n
pub bytes_fit : (n k : ℕ) (m : List ℕ) (a : ℕ) → Bytes m → k ≤ n → bytes_at k m a < 256 ^ n
bytes_fit n k m a h p =
    let q : 256 ^ k ≤ 256 ^ n = pow-le-pow_right (omega arith) p in
    omega (arith, bytes_lt k m a h)

-- one byte more in front
pub bytes_more : (m : List ℕ) (d at left : ℕ) → 0 < left → left ≤ d →
    get_or m (at + (left - 1)) 0 + 256 * bytes_at (d - left) m (at + left) ≡ bytes_at (d - (left - 1)) m (at + (left - 1))
bytes_more m d at left p q =
    let e : d - (left - 1) ≡ suc (d - left) = omega arith in
    let f : at + left ≡ at + (left - 1) + 1 = omega arith in
    rw (e, f)

pub put_length : (d : ℕ) (m : List ℕ) (a v : ℕ) → length (put d m a v) ≡ length m
put_length zero m a v = refl
put_length (suc d) m a v = put_length d (set m a (v % 256)) (a + 1) (v / 256) ∙ length-set m a (v % 256)

-- bytes are put among bytes
pub put_bytes : (d : ℕ) (m : List ℕ) (a v : ℕ) → Bytes m → Bytes (put d m a v)
put_bytes zero m a v b = b
put_bytes (suc d) m a v b = put_bytes d (set m a (v % 256)) (a + 1) (v / 256) (set_below m a (v % 256) b (omega arith))

-- one byte is put, the others are left to put
pub put_more : (m : List ℕ) (d at i v : ℕ) → i < d →
    put (d - (i + 1)) (set m (at + i) (v % 256)) (at + (i + 1)) (v / 256) ≡ put (d - i) m (at + i) v
put_more m d at i v h =
    let e : d - i ≡ suc (d - (i + 1)) = omega arith in
    let f : at + (i + 1) ≡ at + i + 1 = omega arith in
    rw (e, f)

-- ---- the ends of a loop over the bytes

pub read_start : (m : List ℕ) (d at : ℕ) → 0 ≡ bytes_at (d - d) m (at + d)
read_start m d at =
    let e : d - d ≡ 0 = omega arith in
    rw e

pub read_done : (m : List ℕ) (d at left : ℕ) → left ≤ 0 → bytes_at (d - left) m (at + left) ≡ bytes_at d m at
read_done m d at left h =
    let e : d - left ≡ d = omega arith in
    let f : at + left ≡ at = omega arith in
    rw (e, f)

pub write_start : (m : List ℕ) (d at v : ℕ) → put (d - 0) m (at + 0) v ≡ put d m at v
write_start m d at v =
    let e : d - 0 ≡ d = omega arith in
    let f : at + 0 ≡ at = omega arith in
    rw (e, f)

pub write_done : (m : List ℕ) (d at i v : ℕ) → d ≤ i → m ≡ put (d - i) m (at + i) v
write_done m d at i v h =
    let e : d - i ≡ 0 = omega arith in
    rw e

-- ---- the low bytes of a number

-- the d low bytes of a number, the lowest first
abbrev pub low_bytes : ℕ → ℕ → List ℕ
low_bytes zero v = []
low_bytes (suc d) v = v % 256 ∷ low_bytes d (v / 256)

pub length_low : (d v : ℕ) → length (low_bytes d v) ≡ d
length_low zero v = refl
length_low (suc d) v = ap suc (length_low d (v / 256))

-- to put bytes is to paste them
pub put_paste : (d : ℕ) (m : List ℕ) (a v : ℕ) → a + d ≤ length m → put d m a v ≡ paste m a (low_bytes d v) d
put_paste zero m a v h = paste-zero m a []
put_paste (suc d) m a v h =
    let one : set m a (v % 256) ≡ paste m a (v % 256 ∷ []) 1 =
    ap (λ (n : List ℕ). set n a (v % 256)) (paste-zero m a (v % 256 ∷ []))
    ∙ ap (λ (k : ℕ). set (paste m a (v % 256 ∷ []) 0) k (v % 256)) {x = a} {y = a + 0} (omega arith)
    ∙ paste-suc m a (v % 256 ∷ []) 0 0 (omega arith) (omega arith) in
    let rest : put d (set m a (v % 256)) (a + 1) (v / 256) ≡ paste (set m a (v % 256)) (a + 1) (low_bytes d (v / 256)) d =
    put_paste d (set m a (v % 256)) (a + 1) (v / 256) (rw (length-set m a (v % 256)) (omega arith)) in
    rest
    ∙ ap (λ (n : List ℕ). paste n (a + 1) (low_bytes d (v / 256)) d) one
    ∙ paste-paste m a (v % 256 ∷ []) (low_bytes d (v / 256)) 1 d refl (sym (length_low d (v / 256))) (omega arith)
    ∙ ap (λ (n : ℕ). paste m a (v % 256 ∷ low_bytes d (v / 256)) n) {x = 1 + d} {y = suc d} (omega arith)

-- to_le_bytes gives a word's four low bytes
pub word_low : (v : ℕ) → to_le_bytes w32 v ≡ low_bytes 4 v
word_low v =
    let e : v / 65536 ≡ v / 256 / 256 = omega arith in
    let f : v / 16777216 ≡ v / 256 / 256 / 256 = omega arith in
    rw (e, f) refl

-- one byte more of a loop that writes them
pub low_more : (d i : ℕ) (items : List ℕ) (rest : ℕ) → i < d → length items ≡ d →
    take (i + 1) (set items i (rest % 256)) ++ low_bytes (d - (i + 1)) (rest / 256) ≡ take i items ++ low_bytes (d - i) rest
low_more d i items rest h e =
    let p : d - i ≡ suc (d - (i + 1)) = omega arith in
    let q : take (i + 1) (set items i (rest % 256)) ≡ take i items ++ (rest % 256 ∷ []) =
    rw (add-one i, take-suc-set items i (rest % 256) (omega arith)) refl in
    rw (q, p) (append_assoc (take i items) (rest % 256 ∷ []) (low_bytes (d - (i + 1)) (rest / 256)))

-- all bytes are written
pub low_all : (d i : ℕ) (items : List ℕ) (rest : ℕ) → d ≤ i → length items ≡ d →
    items ≡ take i items ++ low_bytes (d - i) rest
low_all d i items rest h e =
    let p : d - i ≡ 0 = omega arith in
    rw (p, take_all i items (omega arith)) (sym (append-nil items))

-- ---- words in a list of bytes

pub length_words : (n : ℕ) (b : List ℕ) → length (words_in n b) ≡ n
unfolding words_in
length_words zero b = refl
length_words (suc n) b = length-append (words_in n b) (bytes_at 4 b (4 * n) ∷ []) ∙ omega (arith, length_words n b)

pub words_start : (b : List ℕ) → [] ≡ words_in 0 b
unfolding words_in
words_start b = refl

-- all words
pub words_end : (t b : List ℕ) (i n : ℕ) → length t ≡ n → i ≤ n → n ≤ i → take i t ≡ words_in i b → t ≡ words_in n b
words_end t b i n e h k f =
    let p : i ≡ n = omega arith in
    sym (take_all i t (omega arith)) ∙ f ∙ ap (λ (j : ℕ). words_in j b) p

-- one word more
pub words_more :
    (t b : List ℕ) (i v : ℕ) → i < length t → take i t ≡ words_in i b → v ≡ bytes_at 4 b (4 * i) → take (i + 1) (set t i v) ≡ words_in (i + 1) b
unfolding words_in
words_more t b i v h f e = rw (add-one i, take-suc-set t i v h, f, e) refl

-- the bytes at a place in what stands from another place on
pub bytes_drop : (d n : ℕ) (m : List ℕ) (a : ℕ) → bytes_at d (drop n m) a ≡ bytes_at d m (n + a)
bytes_drop zero n m a = refl
bytes_drop (suc d) n m a =
    let e : n + (a + 1) ≡ n + a + 1 = omega arith in
    rw (get_or-drop n m a 0, bytes_drop d n m (a + 1), e) refl

-- the bytes at a place in what stands before another place
pub bytes_take : (d n : ℕ) (m : List ℕ) (a : ℕ) → a + d ≤ n → bytes_at d (take n m) a ≡ bytes_at d m a
bytes_take zero n m a h = refl
bytes_take (suc d) n m a h = rw (get_or-take n m a 0 (omega arith), bytes_take d n m (a + 1) (omega arith)) refl

pub words_take : (n k : ℕ) (b : List ℕ) → 4 * n ≤ k → words_in n (take k b) ≡ words_in n b
unfolding words_in
words_take zero k b h = refl
words_take (suc n) k b h = rw (words_take n k b (omega arith), bytes_take 4 k b (4 * n) (omega arith)) refl
