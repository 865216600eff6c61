-- Buckets: sides that run between the same two places have one, either way.
use Rattle.std.specs.Prelude.{◌≡◌, Bool, true, false, List, ◌≢◌, ℕ, ◌+◌, ◌%◌, ◌<◌, Float, get_or}
use Rattle.std.proofs.Math.Path.{refl}
use Rattle.std.proofs.Common.{sym, ap, ◌∙◌, add_comm, mod-lt}
use Rattle.std.specs.Float.Ieee.{eq}
use Rattle.base.specs.common.laws.And.{and_left, and_right}
use Rattle.plane.specs.points.Flat.{point_at}
use Rattle.plane.specs.declared.points.Point.{Point}
use Rattle.auditing.specs.places.Places.{same_of}
use Rattle.auditing.specs.places.laws.Equal.{equal_plus_zero}
use Rattle.certifying.specs.sides.Sides.{runs_at}
use Rattle.certifying.specs.sides.Chains.{place_number, side_bucket, bucket_at}

pub same_number : (p q : Point) → same_of p q ≡ true → place_number p ≡ place_number q
unfolding same_of place_number
same_number p q h =
    let a = eq p.x q.x in
    let b = eq p.y q.y in
    cc (equal_plus_zero p.x q.x (and_left a b h), equal_plus_zero p.y q.y (and_right a b h))

pub bucket_back : (n : ℕ) (p q : Point) → side_bucket n p q ≡ side_bucket n q p
unfolding side_bucket
bucket_back n p q = ap (λ (k : ℕ). k % n) (add_comm (place_number p) (place_number q))

module _ (v : List Float) (ix to : List ℕ) (n k : ℕ) (p q : Point) where
  same_bucket : runs_at v ix to p q k ≡ true → side_bucket n p q ≡ bucket_at v ix to n k
  unfolding runs_at side_bucket
  same_bucket h =
      let a = same_of p (point_at v (get_or ix k 0)) in
      let b = same_of q (point_at v (get_or to k 0)) in
      let x = same_number p (point_at v (get_or ix k 0)) (and_left a b h) in
      let y = same_number q (point_at v (get_or to k 0)) (and_right a b h) in
      rw (x, y) refl

  -- what is chained in another bucket does not run so
  pub other_bucket : bucket_at v ix to n k ≢ side_bucket n p q → runs_at v ix to p q k ≡ false
  other_bucket h = go (runs_at v ix to p q k) refl
    where
      go : (t : Bool) → runs_at v ix to p q k ≡ t → t ≡ false
      go true e = absurd (h (sym (same_bucket e)))
      go false e = refl

pub bucket_small : (n : ℕ) (p q : Point) → 0 < n → side_bucket n p q < n
unfolding side_bucket
bucket_small n p q h = mod-lt (place_number p + place_number q) h

-- as the code makes it
pub bucket_of_lem : (v : List Float) (ix to : List ℕ) (n k : ℕ) {a b : Point} {m : ℕ} → a ≡ point_at v (get_or ix k 0) → b ≡ point_at v (get_or to k 0) → m ≡ side_bucket n a b → m ≡ bucket_at v ix to n k
bucket_of_lem v ix to n k e f g = g ∙ rw (e, f) refl
