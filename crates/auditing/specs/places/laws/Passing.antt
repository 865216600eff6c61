-- How the sites in the bucket of s are passed, along its chain from the last one back; and what is said of s in the end.
use Rattle.std.specs.Prelude.{◌≡◌, Bool, true, false, List, ◌≢◌, ℕ, suc, ◌+◌, ◌-◌, ◌≤◌, ◌<◌, get_or, Float}
use Rattle.std.proofs.Math.Path.{sym}
use Rattle.std.proofs.Common.{ap, ◌∙◌, ⊎_elim, arith}
use Rattle.base.specs.common.laws.Decide.{lt_or_ge, eq_or_ne}
use Rattle.ring_area.specs.lowest.laws.Loops.{no_both, none_below, some_below}
use Rattle.plane.specs.points.Flat.{point_at}
use Rattle.plane.specs.declared.points.Point.{Point}
use Rattle.auditing.specs.places.Places.{twin_at}
use Rattle.auditing.specs.places.Buckets.{buckets, bucket_of, bucket_in, chained_to, twin_in, LastIn, InTable, BlockIn, InBucket, Visited}
use Rattle.auditing.specs.places.laws.Inserting.{bucket_below, other_bucket}

pub held_at : {sites : List Float} {a s m : ℕ} {heads links : List ℕ} {p : Point} → BlockIn sites a s heads links → p ≡ point_at sites s → m ≡ bucket_of p
    → InBucket sites a s m heads links
held_at g e f = record { in_block = g; bucket = f ∙ ap bucket_of e }

-- none of those from x on stands at the place of s, and the one before x is in its bucket
pub record PassedTo (sites : List Float) (a s x : ℕ) : Type 0 where
  pub within : x ≤ chained_to a s
  pub there : (k : ℕ) → x ≡ suc k → bucket_in sites a k ≡ bucket_of (point_at sites s)
  pub none : (k : ℕ) → x ≤ k → k < chained_to a s → twin_at sites s (a + k) ≡ false

module _ {sites : List Float} {a s m : ℕ} {heads links : List ℕ} (h : InBucket sites a s m heads links) where
  pub held_bucket : m < buckets
  held_bucket = bucket_below (point_at sites s) h.bucket

  pub held_all : {x : ℕ} → x ≡ get_or heads m 0 → PassedTo sites a s x
  held_all e =
      let l = h.in_block.chained.lasts m held_bucket in
      rw e (record {
        within = l.within;
        there = λ k q. l.there k q ∙ h.bucket;
        none = λ k g i. other_bucket sites s (a + k) (λ q. l.after k g i (q ∙ sym h.bucket));
      })

  -- x is above 0, and the site there is held
  module _ {x : ℕ} (p : PassedTo sites a s x) (o : 0 < x) where
    pub held_within : x - 1 < chained_to a s
    held_within = omega (arith, p.within)

    pub held_before : a + (x - 1) < s
    held_before = omega (arith, held_within)

    bucket_is : bucket_in sites a (x - 1) ≡ bucket_of (point_at sites s)
    bucket_is = p.there (x - 1) (omega arith)

    pub held_less : {y : ℕ} → y ≡ get_or links (x - 1) 0 → y < x
    held_less q = omega (arith, (h.in_block.chained.nexts (x - 1) held_within).within)

    pub held_one : {y : ℕ} {b : Bool} → b ≡ twin_at sites s (a + (x - 1)) → b ≡ false → y ≡ get_or links (x - 1) 0 → PassedTo sites a s y
    held_one {y} e f q =
        let l : LastIn (bucket_in sites a) (bucket_in sites a (x - 1)) (x - 1) y = rw q (h.in_block.chained.nexts (x - 1) held_within) in
        record {
          within = omega (arith, l.within, p.within);
          there = λ k z. l.there k z ∙ bucket_is;
          none = λ k g i. ⊎_elim
              (λ z. ap (λ (j : ℕ). twin_at sites s (a + j)) z ∙ sym e ∙ f)
              (λ z. ⊎_elim
              (λ w. other_bucket sites s (a + k) (λ v. l.after k g w (v ∙ sym bucket_is)))
              (λ w. p.none k (over k w z) i)
              (lt_or_ge k (x - 1)))
              (eq_or_ne k (x - 1));
        }
      where
        over : (k : ℕ) → x - 1 ≤ k → k ≢ x - 1 → x ≤ k
        over k w z = ⊎_elim (λ v. absurd (z (omega arith))) (λ v. v) (lt_or_ge k x)

    pub held_found : {b : Bool} → b ≡ twin_at sites s (a + (x - 1)) → b ≡ true → true ≡ twin_in sites a s
    unfolding twin_in
    held_found e f = sym (some_below _ (x - 1) held_within (sym e ∙ f))

  pub held_none : {x : ℕ} → PassedTo sites a s x → x ≤ 0 → false ≡ twin_in sites a s
  unfolding twin_in
  held_none p o = sym (none_below _ (chained_to a s) (λ k g. p.none k (omega arith) g))

-- the answer
module _ {sites : List Float} {a s : ℕ} {heads links : List ℕ} {b : Bool} (e : b ≡ twin_in sites a s) where
  pub visited_yes : b ≡ true → Visited sites a s heads links true
  visited_yes f = record { twin = sym f ∙ e; chained = λ q. absurd (no_both q) }

  pub visited_no : b ≡ false → InTable (bucket_in sites a) (chained_to a (s + 1)) heads links → Visited sites a s heads links false
  visited_no f h = record { twin = sym f ∙ e; chained = λ _. h }
