-- What a sweep of the walks leaves: the walks that stay, the stores, and linked records.
-- Assumes nothing.
use mathlib.Core.Path.{◌≡◌, refl, sym, ap, subst, ◌∙◌}
use Prim.Native.Nat.{ℕ, ◌+◌}
use mathlib.Core.Bool.{Bool, true, false}
use mathlib.Core.List.{List, [], ◌∷◌, ◌++◌, map, append-nil, append_assoc}
use lib.ListN.{get_or}
use Rattle.layout.specs.Layout.{record_at, walk_head}
use Rattle.records.specs.declared.Store.{Store}
use Rattle.records.specs.declared.Walk.{Walk}
use Rattle.records.specs.Records.{count, end_of, sweep, release}
use Rattle.records.specs.inner.Walks.{staying}
use Rattle.records.proofs.Three.{held}
use Rattle.records.proofs.Good.{Good}
use Rattle.records.proofs.Views.{store_of, walk_of, map-append, map_kept, good_release_walk, kept_rw, out_rw}
use Rattle.records.proofs.Along.{end_snoc, snoc_append}

pub sweep_hit : (hit : ℕ → Bool) (b : List ℕ) (at x : ℕ) (l : List ℕ) → hit (get_or b (record_at x + 1) 0) ≡ true → sweep hit b at (x ∷ l) ≡ sweep hit (release b at) at l
unfolding sweep
sweep_hit hit b at x l e = rw (e, sweep)

pub sweep_miss : (hit : ℕ → Bool) (b : List ℕ) (at x : ℕ) (l : List ℕ) → hit (get_or b (record_at x + 1) 0) ≡ false → sweep hit b at (x ∷ l) ≡ sweep hit b (record_at x) l
unfolding sweep
sweep_miss hit b at x l e = rw (e, sweep)

staying_go : (hit : ℕ → Bool) (w : Walk) (l : List Walk) → hit w.first ≡ true → staying hit (w ∷ l) ≡ staying hit l
unfolding staying
staying_go hit w l e = rw (e, staying)

staying_stay : (hit : ℕ → Bool) (w : Walk) (l : List Walk) → hit w.first ≡ false → staying hit (w ∷ l) ≡ w ∷ staying hit l
unfolding staying
staying_stay hit w l e = rw (e, staying)

abbrev stores_in : List ℕ → List ℕ → List Store
stores_in b l = map (λ n. store_of (held b n)) l

abbrev walks_in : List ℕ → List ℕ → List Walk
walks_in b l = map (λ n. walk_of (held b n)) l

pub record Swept (hit : ℕ → Bool) (b c front rest os : List ℕ) : Type 0 where
  pub ms : List ℕ
  pub fs : List ℕ
  pub good : Good c os (front ++ ms) fs
  pub own : walks_in c (front ++ ms) ≡ walks_in b front ++ staying hit (walks_in b rest)
  pub others : stores_in c os ≡ stores_in b os

-- the block at the end, by the records to come
pub swept : (hit : ℕ → Bool) (rest : List ℕ) (b front os fs : List ℕ) → Good b os (front ++ rest) fs → Swept hit b (sweep hit b (end_of walk_head front) rest) front rest os
unfolding sweep staying
swept hit [] b front os fs G =
    record { ms = []; fs = fs; good = G; own = ap (walks_in b) (append-nil front) ∙ sym (append-nil (walks_in b front)); others = refl }
swept hit (x ∷ l) b front os fs G =
    go (hit (get_or b (record_at x + 1) 0)) refl (swept hit l (release b (end_of walk_head front)) front os (x ∷ fs) (good_release_walk b x front l os fs G)) (swept hit l b (front ++ (x ∷ [])) os fs (rw (← snoc_append front x l) G))
  where
    go : (t : Bool) → hit (get_or b (record_at x + 1) 0) ≡ t → Swept hit (release b (end_of walk_head front)) (sweep hit (release b (end_of walk_head front)) (end_of walk_head front) l) front l os
        → Swept hit b (sweep hit b (end_of walk_head (front ++ (x ∷ []))) l) (front ++ (x ∷ [])) l os → Swept hit b (sweep hit b (end_of walk_head front) (x ∷ l)) front (x ∷ l) os
    go true e S₁ S₂ =
        let out = out_rw b x front l os fs G in
        let part : (r : List ℕ) → count x r ≡ 0 → walks_in (release b (end_of walk_head front)) r ≡ walks_in b r = map_kept (kept_rw b x front l os fs G) walk_of in
        subst (λ (c : List ℕ). Swept hit b c front (x ∷ l) os) (sym (sweep_hit hit b (end_of walk_head front) x l e))
        (record {
          ms = S₁.ms;
          fs = S₁.fs;
          good = S₁.good;
          own = S₁.own ∙ (λ i. part front out.0 i ++ staying hit (part l out.1 i)) ∙ ap (λ (r : List Walk). walks_in b front ++ r) (sym (staying_go hit (walk_of (held b x)) (walks_in b l) e));
          others = S₁.others ∙ map_kept (kept_rw b x front l os fs G) store_of os out.2;
        })
    go false e S₁ S₂ =
        let S : Swept hit b (sweep hit b (record_at x) l) (front ++ (x ∷ [])) l os = rw (end_snoc walk_head front x) at S₂ in
        subst (λ (c : List ℕ). Swept hit b c front (x ∷ l) os) (sym (sweep_miss hit b (end_of walk_head front) x l e))
        (record {
          ms = x ∷ S.ms;
          fs = S.fs;
          good = rw (snoc_append front x S.ms) S.good;
          own =
              ap (walks_in (sweep hit b (record_at x) l)) (snoc_append front x S.ms) ∙ S.own
              ∙ ap (λ (r : List Walk). r ++ staying hit (walks_in b l)) (map-append (λ n. walk_of (held b n)) front (x ∷ []))
              ∙ append_assoc (walks_in b front) (walk_of (held b x) ∷ []) (staying hit (walks_in b l))
              ∙ ap (λ (r : List Walk). walks_in b front ++ r) (sym (staying_stay hit (walk_of (held b x)) (walks_in b l) e));
          others = S.others;
        })
