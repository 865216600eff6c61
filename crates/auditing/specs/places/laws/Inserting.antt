-- Buckets: equal places have one; how the sites of a block are inserted into them.
use Rattle.std.specs.Prelude.{◌≡◌, refl, Bool, true, false, List, ◌≢◌, ℕ, suc, ◌+◌, ◌-◌, ◌≤◌, ◌<◌, length, get_or, set, replicate, Float}
use Rattle.std.proofs.Common.{sym, ap, ◌∙◌, ⊎_elim, arith, length-set, get_or-set_same, get_or-set_other}
use Rattle.std.proofs.lemmas.List.{get_or-replicate, length-replicate}
use Rattle.std.specs.Float.Ieee.{eq}
use Rattle.base.specs.common.laws.And.{and_left, and_right}
use Rattle.base.specs.common.laws.Decide.{lt_or_ge, eq_or_ne}
use Rattle.plane.specs.points.Flat.{point_at}
use Rattle.plane.specs.declared.points.Point.{Point}
use Rattle.auditing.specs.places.Places.{same_of, twin_at}
use Rattle.auditing.specs.places.Buckets.{block, buckets, bucket_of, bucket_in, chained_to, LastIn, InTable, BlockIn, InBucket, CanInsert, Inserted}
use Rattle.auditing.specs.places.laws.Equal.{equal_plus_zero}

bucket_small : (p : Point) → bucket_of p < buckets
unfolding bucket_of
bucket_small p = omega arith

same_bucket : (p q : Point) → same_of p q ≡ true → bucket_of p ≡ bucket_of q
unfolding same_of bucket_of
same_bucket p q h =
    let a = eq p.x q.x in
    let b = eq p.y q.y in
    cc (equal_plus_zero p.x q.x (and_left a b h), equal_plus_zero p.y q.y (and_right a b h))

pub other_bucket : (sites : List Float) (s j : ℕ) → bucket_of (point_at sites j) ≢ bucket_of (point_at sites s) → twin_at sites s j ≡ false
unfolding twin_at
other_bucket sites s j h = go (same_of (point_at sites s) (point_at sites j)) refl
  where
    go : (b : Bool) → same_of (point_at sites s) (point_at sites j) ≡ b → b ≡ false
    go true e = absurd (h (sym (same_bucket (point_at sites s) (point_at sites j) e)))
    go false e = refl

pub bucket_below : (p : Point) {m : ℕ} → m ≡ bucket_of p → m < buckets
bucket_below p f = omega (arith, bucket_small p)

-- ---- inserting
module _ (bucket : ℕ → ℕ) where
  pub none_yet : (m : ℕ) → LastIn bucket m 0 0
  none_yet m = record { within = omega arith; there = λ k e. absurd (omega arith); after = λ k l h. absurd (omega arith) }

  pub now_last : (m n : ℕ) → bucket n ≡ m → LastIn bucket m (suc n) (suc n)
  now_last m n e = record { within = omega arith; there = λ k q. ap bucket (same k q) ∙ e; after = λ k l h. absurd (omega arith) }
    where
      same : (k : ℕ) → suc n ≡ suc k → k ≡ n
      same k q = omega arith

  pub still_last : (m n x : ℕ) → bucket n ≢ m → LastIn bucket m n x → LastIn bucket m (suc n) x
  still_last m n x h l = record {
    within = omega (arith, l.within);
    there = l.there;
    after = λ k g i. ⊎_elim (λ q e. h (ap bucket (sym q) ∙ e)) (λ q. l.after k g (below k i q)) (eq_or_ne k n);
  }
    where
      below : (k : ℕ) → k < suc n → k ≢ n → k < n
      below k i q = ⊎_elim (λ l. l) (λ l. absurd (q (omega arith))) (lt_or_ge k n)

  pub chained_none : {heads links : List ℕ} → heads ≡ replicate buckets 0 → links ≡ replicate block 0 → InTable bucket 0 heads links
  chained_none {heads} {links} p q = record {
    wide = ap length p ∙ length-replicate {A = ℕ} buckets 0;
    long = ap length q ∙ length-replicate {A = ℕ} block 0;
    lasts = λ m l. let z : get_or heads m 0 ≡ 0 = ap (λ k. get_or k m 0) p ∙ get_or-replicate buckets m 0 0 l in rw z (none_yet m);
    nexts = λ k l. absurd (omega arith);
  }

  module _ {n m : ℕ} {heads links heads' links' : List ℕ} (g : InTable bucket n heads links) (e : m ≡ bucket n) (l : m < buckets) (r : n < block)
      (h : Inserted heads links m n heads' links') where
    last_at : (t : ℕ) → t < buckets → LastIn bucket t (suc n) (get_or (set heads m (suc n)) t 0)
    last_at t i =
        ⊎_elim
        (λ z. rw (z, get_or-set_same heads m (suc n) 0 (omega (arith, g.wide))) (now_last m n (sym e)))
        (λ z. rw (get_or-set_other heads m t (suc n) 0 z) (still_last t n (get_or heads t 0) (λ y. z (sym y ∙ sym e)) (g.lasts t i)))
        (eq_or_ne t m)

    next_at : (k : ℕ) → k < suc n → LastIn bucket (bucket k) k (get_or (set links n (get_or heads m 0)) k 0)
    next_at k i =
        ⊎_elim
        (λ z. rw (z, get_or-set_same links n (get_or heads m 0) 0 (omega (arith, g.long)), ← e) (g.lasts m l))
        (λ z. rw (get_or-set_other links n k (get_or heads m 0) 0 z) (g.nexts k (⊎_elim (λ w. w) (λ w. absurd (z (omega arith))) (lt_or_ge k n))))
        (eq_or_ne k n)

    pub chained_more : InTable bucket (suc n) heads' links'
    chained_more = record {
      wide = ap length h.last ∙ length-set heads m (suc n) ∙ g.wide;
      long = ap length h.next ∙ length-set links n (get_or heads m 0) ∙ g.long;
      lasts = λ t i. rw h.last (last_at t i);
      nexts = λ k i. rw h.next (next_at k i);
    }

-- the site s itself, while it is of the block
module _ {sites : List Float} {a s m : ℕ} {heads links : List ℕ} (h : InBucket sites a s m heads links) where
  pub lookup_here : s - a < block → CanInsert heads links m (s - a)
  lookup_here l = let g = h.in_block.chained in record { wide = g.wide; long = g.long; bucket = bucket_below (point_at sites s) h.bucket; room = l }

  pub chained_here : {heads' links' : List ℕ} → s - a < block → Inserted heads links m (s - a) heads' links' → InTable (bucket_in sites a) (chained_to a (s + 1)) heads' links'
  chained_here l q =
      let g = h.in_block in
      let n : chained_to a s ≡ s - a = omega (arith, g.from) in
      let n' : chained_to a (s + 1) ≡ suc (s - a) = omega (arith, g.from) in
      let i : a + (s - a) ≡ s = omega (arith, g.from) in
      let b : InTable (bucket_in sites a) (s - a) heads links = rw n at g.chained in
      rw n' (chained_more (bucket_in sites a) b (h.bucket ∙ ap (λ (k : ℕ). bucket_of (point_at sites k)) (sym i)) (bucket_below (point_at sites s) h.bucket) l q)

-- and after it
pub chained_full : {sites : List Float} {a s : ℕ} {heads links : List ℕ} → BlockIn sites a s heads links → block ≤ s - a
    → InTable (bucket_in sites a) (chained_to a (s + 1)) heads links
chained_full {a = a} {s = s} g l = let n : chained_to a (s + 1) ≡ chained_to a s = omega arith in rw n g.chained
