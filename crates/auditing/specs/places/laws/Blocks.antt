-- Blocks: the lowest site that has a twin, from what each block says.
use Rattle.std.specs.Prelude.{◌≡◌, true, false, List, replicate, Float}
use Rattle.std.proofs.Common.{sym, ◌∙◌, ⊎_elim}
use Rattle.std.proofs.Math.Path.{ap}
use Rattle.std.proofs.Math.Bool.{Bool}
use Prim.Native.Nat.{ℕ, ◌+◌, ◌-◌, ◌≤◌, ◌<◌}
use native.Mathlib.Omega.{arith}
use borrow.Author.Tests.{ltb-true}
use Rattle.base.specs.common.laws.Decide.{lt_or_ge}
use Rattle.ring_area.specs.lowest.Lowest.{lowest}
use Rattle.ring_area.specs.lowest.laws.Loops.{no_both, lowest_first, lowest_is, lowest_takes, none_taken, some_below, none_below, NoneTo, passed_step, passed_found}
use Rattle.auditing.specs.places.Places.{twin_at, has_twin}
use Rattle.auditing.specs.places.Buckets.{block, buckets, bucket_in, chained_to, twin_in, InTable, Visited}
use Rattle.auditing.specs.places.laws.Inserting.{chained_none}

module _ (sites : List Float) where
  -- what a no and a yes of one block say
  none_in : (a s : ℕ) → twin_in sites a s ≡ false → (j : ℕ) → a ≤ j → j < a + block → j < s → twin_at sites s j ≡ false
  unfolding twin_in
  none_in a s e j l h g = ap (twin_at sites s) (omega arith) ∙ none_taken (λ (k : ℕ). twin_at sites s (a + k)) (chained_to a s) e (j - a) (omega arith)

  in_has : (a s : ℕ) → twin_in sites a s ≡ true → has_twin sites s ≡ true
  unfolding twin_in has_twin
  in_has a s e =
      let p : ℕ → Bool = λ k. twin_at sites s (a + k) in
      let h : lowest p (chained_to a s) < chained_to a s = ltb-true (lowest p (chained_to a s)) (chained_to a s) e in
      some_below (twin_at sites s) (a + lowest p (chained_to a s)) (omega arith) (lowest_takes p (chained_to a s) h)

  -- ---- in one block: the sites before s have no twin in it, and those of the block before s are in the table
  pub record BlockTo (a best s : ℕ) (heads links : List ℕ) : Type 0 where
    pub from : a ≤ s
    pub none : NoneTo (twin_in sites a) best s
    pub chained : InTable (bucket_in sites a) (chained_to a s) heads links

  module _ {a best : ℕ} where
    pub block_start : {heads links : List ℕ} → a ≤ best → heads ≡ replicate buckets 0 → links ≡ replicate block 0 → BlockTo a best a heads links
    unfolding twin_in
    block_start l p q = record {
      from = omega arith;
      none = record { most = l; none = λ s h. none_below _ (chained_to a s) (λ k g. absurd (omega arith)) };
      chained = let n : chained_to a a ≡ 0 = omega arith in rw n (chained_none (bucket_in sites a) p q);
    }

    module _ {s : ℕ} {heads links heads' links' : List ℕ} {r : Bool} (b : BlockTo a best s heads links) (l : s < best)
        (v : Visited sites a s heads' links' r) where
      pub block_step : r ≡ false → BlockTo a best (s + 1) heads' links'
      block_step e = record { from = omega (arith, b.from); none = passed_step b.none l v.twin e; chained = v.chained e }

      pub block_found : r ≡ true → s ≡ lowest (twin_in sites a) best
      block_found e = passed_found b.none l v.twin e

  -- ---- over the blocks: the lowest that has a twin below a, or n
  pub record BestTo (n a best : ℕ) : Type 0 where
    pub most : best ≤ n
    pub none : (s : ℕ) → s < best → (j : ℕ) → j < s → j < a → twin_at sites s j ≡ false
    pub found : best < n → has_twin sites best ≡ true

  pub best_start : (n : ℕ) → BestTo n 0 n
  best_start n = record { most = omega arith; none = λ s h j g l. absurd (omega arith); found = λ h. absurd (omega arith) }

  pub best_step : {n a best r : ℕ} → BestTo n a best → r ≡ lowest (twin_in sites a) best → BestTo n (a + block) r
  best_step {n} {a} {best} {r} b e =
      let f = lowest_first (twin_in sites a) best in
      let m : r ≤ best = omega (arith, f.within) in
      record {
        most = omega (arith, b.most);
        none = λ s h j g l. ⊎_elim
            (λ k. b.none s (omega arith) j g k)
            (λ k. none_in a s (f.before s (omega arith)) j k l g)
            (lt_or_ge j a);
        found = λ h. ⊎_elim
            (λ k. rw e (in_has a (lowest (twin_in sites a) best) (lowest_takes (twin_in sites a) best (omega arith))))
            (λ k. let q : r ≡ best = omega arith in rw q (b.found (omega arith)))
            (lt_or_ge r best);
      }

  pub best_end : {n a best : ℕ} → BestTo n a best → best ≤ a → best ≡ lowest (has_twin sites) n
  unfolding has_twin
  best_end {n} {a} {best} b l = lowest_is (has_twin sites) (record {
    within = b.most;
    before = λ s h. none_below (twin_at sites s) s (λ j g. b.none s h j g (omega arith));
    at = λ h q. no_both (sym (b.found h) ∙ q);
  })
