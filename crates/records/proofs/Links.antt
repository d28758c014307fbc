-- Chains as lists of links: what the laws and the proofs speak of.
use mathlib.Core.Path.{◌≡◌, refl, sym, ap, ◌∙◌}
use Prim.Native.Nat.{ℕ, zero, suc, ◌<◌, ◌≤◌}
use mathlib.Core.List.{List, [], ◌∷◌, ◌++◌}
use native.Mathlib.Omega.{arith}
use lib.ListN.{length, get_or}
use Rattle.layout.specs.Layout.{record_at}
use Rattle.records.specs.Records.{chain, count, end_of}
use Rattle.records.proofs.Counts.{count_head, count_more, count_here, count_tail}

-- from the word h the links spell the list l, and then comes zero
abbrev pub Links : List ℕ → ℕ → List ℕ → Type 0
Links b h [] = get_or b h 0 ≡ 0
Links b h (x ∷ l) = (get_or b h 0 ≡ x) × (0 < x) × Links b (record_at x) l

-- the list is the chain
pub links_chain : (k : ℕ) (b : List ℕ) (h : ℕ) (l : List ℕ) → Links b h l → length l < k → chain k b (get_or b h 0) ≡ l
unfolding chain
links_chain zero b h l s p = absurd (omega arith)
links_chain (suc k) b h [] s p = rw s refl
links_chain (suc k) b h (zero ∷ l) s p = absurd (omega (arith, s.1))
links_chain (suc k) b h (suc m ∷ l) s p = rw s.0 (ap (λ (t : List ℕ). suc m ∷ t) (links_chain k b (record_at (suc m)) l s.2 (omega arith)))

-- and a chain that its fuel did not cut is such a list
pub chain_links : (k : ℕ) (b : List ℕ) (h n : ℕ) → get_or b h 0 ≡ n → length (chain k b n) < k → Links b h (chain k b n)
unfolding chain
chain_links zero b h n e p = absurd (omega arith)
chain_links (suc k) b h zero e p = e
chain_links (suc k) b h (suc m) e p = (e, omega arith, chain_links k b (record_at (suc m)) (get_or b (record_at (suc m)) 0) refl (omega arith))

-- a chain from another word of another block, where the word says the same and the links of the members are the same
pub links_frame : (b c : List ℕ) (h g : ℕ) (l : List ℕ) → get_or c g 0 ≡ get_or b h 0
    → ((y : ℕ) → 0 < count y l → get_or c (record_at y) 0 ≡ get_or b (record_at y) 0) → Links b h l → Links c g l
links_frame b c h g [] e f s = e ∙ s
links_frame b c h g (x ∷ l) e f s =
    (e ∙ s.0, s.1, links_frame b c (record_at x) (record_at x) l (f x (count_head x l)) (λ y p. f y (count_more y x l p)) s.2)

-- the rest of a chain
pub links_drop : (b : List ℕ) (h : ℕ) (s t : List ℕ) → Links b h (s ++ t) → Links b (end_of h s) t
unfolding end_of
links_drop b h [] t k = k
links_drop b h (x ∷ s) t k = links_drop b (record_at x) s t k.2

-- the word at the end of a chain with members is a member's
pub end_member : (x : ℕ) (l : List ℕ) → (y : ℕ) × (end_of (record_at x) l ≡ record_at y) × (0 < count y (x ∷ l))
unfolding end_of
end_member x [] = (x, refl, count_head x [])
end_member x (z ∷ l) = let w = end_member z l in (w.0, w.1, count_more w.0 x (z ∷ l) w.2)

-- another end behind the same front: only the word at the seam may change
pub links_splice : (b c : List ℕ) (h at : ℕ) (s t u : List ℕ) → end_of h s ≡ at
    → ((h ≡ at → ⊥) → get_or c h 0 ≡ get_or b h 0)
    → ((y : ℕ) → 0 < count y s → (record_at y ≡ at → ⊥) → get_or c (record_at y) 0 ≡ get_or b (record_at y) 0)
    → ((y : ℕ) → 0 < count y s → h ≡ record_at y → ⊥)
    → ((y : ℕ) → count y s ≤ 1)
    → Links b h (s ++ t) → Links c at u → Links c h (s ++ u)
unfolding end_of
links_splice b c h at [] t u e f k d o s l = rw e l
links_splice b c h at (x ∷ v) t u e f k d o s l = (
  f (λ q. d w.0 w.2 (q ∙ (sym e ∙ w.1))) ∙ s.0,
  s.1,
  links_splice b c (record_at x) at v t u e (k x (count_head x v)) (λ y p. k y (count_more y x v p))
      (λ y p q. absurd (omega (arith, o x, count_here x v, p, ap (λ (z : ℕ). count z v) (same x y q))))
      (λ y. less y) s.2 l,
)
  where
    w : (y : ℕ) × (end_of (record_at x) v ≡ record_at y) × (0 < count y (x ∷ v))
    w = end_member x v

    same : (x y : ℕ) → record_at x ≡ record_at y → x ≡ y
    same x y q = omega arith

    less : (y : ℕ) → count y v ≤ 1
    less y = omega (arith, o y, count_tail y x v)
