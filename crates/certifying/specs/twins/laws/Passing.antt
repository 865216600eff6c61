-- How the sites that are chained in the bucket of s are passed, from the last one back.
use Rattle.std.specs.Prelude.{◌≡◌, refl, Bool, true, false, List, ◌≢◌, ℕ, suc, ◌+◌, ◌-◌, ◌*◌, ◌/◌, ◌%◌, ◌≤◌, ◌<◌, Float, length, get_or}
use Rattle.std.proofs.Math.Path.{sym}
use Rattle.std.proofs.Common.{ap, ◌∙◌, ⊎_elim, arith}
use Rattle.base.specs.common.laws.Decide.{lt_or_ge, eq_or_ne}
use Rattle.plane.specs.points.Flat.{point_at}
use Rattle.ring_area.specs.lowest.laws.Loops.{none_below, some_below}
use Rattle.auditing.specs.places.Places.{same_of, twin_at, has_twin}
use Rattle.auditing.specs.places.Buckets.{LastIn}
use Rattle.certifying.specs.sides.laws.Buckets.{same_number}
use Rattle.certifying.specs.twins.Buckets.{site_bucket, bucket_at, SiteHeld}

-- what is chained in another bucket stands elsewhere
other_bucket : (sites : List Float) (s j : ℕ) → bucket_at sites j ≢ bucket_at sites s → twin_at sites s j ≡ false
unfolding twin_at site_bucket
other_bucket sites s j h = go (same_of (point_at sites s) (point_at sites j)) refl
  where
    go : (b : Bool) → same_of (point_at sites s) (point_at sites j) ≡ b → b ≡ false
    go true e = absurd (h (ap (λ (k : ℕ). k % (length sites / 2)) (sym (same_number (point_at sites s) (point_at sites j) e))))
    go false e = refl

-- none of those from x on stands at the place of s, and the one before x is chained in its bucket
pub record SitesPassed (sites : List Float) (s x : ℕ) : Type 0 where
  pub within : x ≤ s
  pub there : (k : ℕ) → x ≡ suc k → bucket_at sites k ≡ bucket_at sites s
  pub none : (k : ℕ) → x ≤ k → k < s → twin_at sites s k ≡ false

module _ {sites : List Float} {s m : ℕ} {w : List ℕ} (h : SiteHeld sites s m w) where
  pub passed_none : {x : ℕ} → x ≡ get_or w (2 * m) 0 → SitesPassed sites s x
  passed_none e =
      let l = h.chained.lasts m h.below in
      rw e (record {
        within = l.within;
        there = λ k q. l.there k q ∙ h.bucket;
        none = λ k g i. other_bucket sites s k (λ q. l.after k g i (q ∙ sym h.bucket));
      })

  -- x is above 0, and the site there is held
  module _ {x : ℕ} (p : SitesPassed sites s x) (o : 0 < x) where
    pub held_before : x - 1 < s
    held_before = omega (arith, p.within)

    bucket_is : bucket_at sites (x - 1) ≡ bucket_at sites s
    bucket_is = p.there (x - 1) (omega arith)

    pub held_less : {y : ℕ} → y ≡ get_or w (2 * (x - 1) + 1) 0 → y < x
    held_less q = omega (arith, (h.chained.nexts (x - 1) held_before).within)

    pub held_one : {y : ℕ} {b : Bool} → b ≡ twin_at sites s (x - 1) → b ≡ false → y ≡ get_or w (2 * (x - 1) + 1) 0 → SitesPassed sites s y
    held_one {y} e f q =
        let l : LastIn (bucket_at sites) (bucket_at sites (x - 1)) (x - 1) y = rw q (h.chained.nexts (x - 1) held_before) in
        record {
          within = omega (arith, l.within, p.within);
          there = λ k z. l.there k z ∙ bucket_is;
          none = λ k g i. ⊎_elim
              (λ z. ap (twin_at sites s) z ∙ sym e ∙ f)
              (λ z. ⊎_elim
              (λ v. other_bucket sites s k (λ u. l.after k g v (u ∙ sym bucket_is)))
              (λ v. p.none k (over k v z) i)
              (lt_or_ge k (x - 1)))
              (eq_or_ne k (x - 1));
        }
      where
        over : (k : ℕ) → x - 1 ≤ k → k ≢ x - 1 → x ≤ k
        over k v z = ⊎_elim (λ u. absurd (z (omega arith))) (λ u. u) (lt_or_ge k x)

    pub held_found : {b : Bool} → b ≡ twin_at sites s (x - 1) → b ≡ true → true ≡ has_twin sites s
    unfolding has_twin
    held_found e f = sym (some_below _ (x - 1) held_before (sym e ∙ f))

  pub held_none : {x : ℕ} → SitesPassed sites s x → x ≤ 0 → false ≡ has_twin sites s
  unfolding has_twin
  held_none p o = sym (none_below _ s (λ k g. p.none k (omega arith) g))
