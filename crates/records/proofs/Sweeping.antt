-- The invariant of drop_walks: what is to come is swept from here.
-- Assumes nothing.
use mathlib.Core.Path.{◌≡◌, refl, sym, ap, subst, ◌∙◌}
use mathlib.Core.Logic.{⊎_elim, ◌≢◌}
use Prim.Native.Nat.{ℕ, ◌+◌, ◌<◌}
use mathlib.Core.Bool.{true, false}
use mathlib.Core.List.{List, [], ◌∷◌, ◌++◌}
use native.Mathlib.Omega.{arith}
use lib.ListN.{length, get_or}
use Rattle.layout.specs.Layout.{record_at, store_head, walk_head, free_head}
use Rattle.records.specs.declared.Flush.{Flush}
use Rattle.records.specs.Records.{chain, chain_at, count, end_of, linked, goes, sweep, drop_walks, release}
use Rattle.records.proofs.Counts.{count_head, count_append}
use Rattle.records.proofs.Links.{Links, links_drop}
use Rattle.records.proofs.Three.{end_cases}
use Rattle.records.proofs.Good.{Good, linked_good, all_31}
use Rattle.records.proofs.Views.{good_release_walk}
use Rattle.records.proofs.Along.{Along, along_first, along_end, along_chain, Chained, end_snoc, snoc_append}
use Rattle.records.proofs.Sweep.{sweep_hit, sweep_miss}

-- behind the records `front` of the chain of walks, at the word `at`, which names n
pub record Sweeping (b₀ : List ℕ) (f : Flush) (b : List ℕ) (at n : ℕ) : Type 0 where
  pub front : List ℕ
  pub rest : List ℕ
  pub os : List ℕ
  pub fs : List ℕ
  pub good : Good b os (front ++ rest) fs
  pub here : at ≡ end_of walk_head front
  pub now_at : get_or b at 0 ≡ n
  pub below : n < 32
  pub in_block : at < 256
  pub done : sweep (goes f) b at rest ≡ drop_walks f b₀

good_walks : {b ss ws fs : List ℕ} → Good b ss ws fs → Chained b walk_head ws
good_walks {b} {ss} {ws} {fs} G =
    record { long = G.three.long; short = omega (arith, all_31 ss ws fs G.three.once G.three.below); low = λ m p. (G.three.below m (omega arith)).1; links = G.three.two }

sweep_along : {b₀ : List ℕ} {f : Flush} {b : List ℕ} {at n : ℕ} (S : Sweeping b₀ f b at n) → Along b walk_head (S.front ++ S.rest) at n
sweep_along {b₀} {f} {b} {at} {n} S =
    record {
      chained = good_walks S.good;
      front = S.front;
      rest = S.rest;
      whole = refl;
      here = S.here;
      on = rw S.here (links_drop b walk_head S.front S.rest S.good.three.two);
      now_at = S.now_at;
      below = S.below;
    }

end_part : (b front rest os fs : List ℕ) → Good b os (front ++ rest) fs → end_of walk_head front < 256
end_part b front rest os fs G =
    ⊎_elim (λ e. omega arith) (λ w. omega (arith, w.1, G.three.below w.0 (omega (arith, w.2, count_append w.0 front rest)))) (end_cases walk_head front)

-- anywhere in the chain of walks
sweep_make : (b₀ : List ℕ) (f : Flush) (b : List ℕ) (at : ℕ) (front rest os fs : List ℕ) → Good b os (front ++ rest) fs → at ≡ end_of walk_head front
    → sweep (goes f) b at rest ≡ drop_walks f b₀ → Sweeping b₀ f b at (get_or b at 0)
sweep_make b₀ f b at front rest os fs G e d =
    record {
      front = front;
      rest = rest;
      os = os;
      fs = fs;
      good = G;
      here = e;
      now_at = refl;
      below = low rest (rw e (links_drop b walk_head front rest G.three.two)) (λ m p. (G.three.below m (omega (arith, count_append m front rest))).1);
      in_block = omega (arith, e, end_part b front rest os fs G);
      done = d;
    }
  where
    low : (t : List ℕ) → Links b at t → ((m : ℕ) → 0 < count m t → m < 32) → get_or b at 0 < 32
    low [] s g = omega (arith, s)
    low (x ∷ t) s g = omega (arith, s.0, g x (count_head x t))

pub sweep_start : (b : List ℕ) (f : Flush) → length b ≡ 256 → linked b ≡ true → Sweeping b f b walk_head (get_or b walk_head 0)
unfolding end_of drop_walks
sweep_start b f long e = sweep_make b f b walk_head [] (chain_at b walk_head) (chain_at b store_head) (chain_at b free_head) (linked_good b e long) refl refl

module _ {b₀ : List ℕ} {f : Flush} {b : List ℕ} {at n : ℕ} (S : Sweeping b₀ f b at n) (d : n ≢ 0) where
  first : (t : List ℕ) × (S.rest ≡ n ∷ t) × Links b (record_at n) t
  unfolding sweep_along
  first = along_first (sweep_along S) d

  good_n : Good b S.os (S.front ++ (n ∷ first.0)) S.fs
  good_n = rw (← first.1) S.good

  pub sweep_next_hit : goes f (get_or b (record_at n + 1) 0) ≡ true → Sweeping b₀ f (release b at) at (get_or (release b at) at 0)
  sweep_next_hit h =
      sweep_make b₀ f (release b at) at S.front first.0 S.os (n ∷ S.fs)
      (subst (λ (a : ℕ). Good (release b a) S.os (S.front ++ first.0) (n ∷ S.fs)) (sym S.here) (good_release_walk b n S.front first.0 S.os S.fs good_n))
      S.here
      (sym (sweep_hit (goes f) b at n first.0 h) ∙ ap (sweep (goes f) b at) (sym first.1) ∙ S.done)

  pub sweep_next_miss : goes f (get_or b (record_at n + 1) 0) ≡ false → Sweeping b₀ f b (record_at n) (get_or b (record_at n) 0)
  sweep_next_miss h =
      sweep_make b₀ f b (record_at n) (S.front ++ (n ∷ [])) first.0 S.os S.fs
      (rw (← snoc_append S.front n first.0) good_n)
      (sym (end_snoc walk_head S.front n))
      (sym (sweep_miss (goes f) b at n first.0 h) ∙ ap (sweep (goes f) b at) (sym first.1) ∙ S.done)

  sweep_less : {b' : List ℕ} {at' n' : ℕ} (S' : Sweeping b₀ f b' at' n') → S'.rest ≡ first.0 → length (chain 32 b' n') < length (chain 32 b n)
  unfolding sweep_along
  sweep_less S' e =
      omega (
        arith,
        ap (λ (r : List ℕ). length r) (along_chain (sweep_along S)),
        ap (λ (r : List ℕ). length r) (along_chain (sweep_along S')),
        ap (λ (r : List ℕ). length r) first.1,
        ap (λ (r : List ℕ). length r) e,
      )

  pub sweep_less_hit : goes f (get_or b (record_at n + 1) 0) ≡ true → length (chain 32 (release b at) (get_or (release b at) at 0)) < length (chain 32 b n)
  unfolding sweep_next_hit sweep_make
  sweep_less_hit h = sweep_less (sweep_next_hit h) refl

  pub sweep_less_miss : goes f (get_or b (record_at n + 1) 0) ≡ false → length (chain 32 b (get_or b (record_at n) 0)) < length (chain 32 b n)
  unfolding sweep_next_miss sweep_make
  sweep_less_miss h = sweep_less (sweep_next_miss h) refl

pub sweep_end : {b₀ : List ℕ} {f : Flush} {b : List ℕ} {at n : ℕ} → Sweeping b₀ f b at n → n ≡ 0 → b ≡ drop_walks f b₀
unfolding sweep_along sweep
sweep_end {b₀} {f} {b} {at} S e = sym (ap (sweep (goes f) b at) (along_end (sweep_along S) e)) ∙ S.done
