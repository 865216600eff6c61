-- The sides that are chained in one bucket are passed from the last one back.
use Rattle.std.specs.Prelude.{◌≡◌, Bool, ◌&&◌, List, ℕ, suc, ◌+◌, ◌-◌, ◌*◌, ◌≤◌, ◌<◌, eqb, ltb, Float, get_or}
use Rattle.std.proofs.Math.Path.{refl}
use Rattle.std.proofs.Common.{ap, ◌∙◌, arith}
use Rattle.std.proofs.Math.Bool.{true, false}
use Rattle.plane.specs.declared.points.Point.{Point}
use Rattle.plane.specs.points.Flat.{point_at}
use Rattle.auditing.specs.places.Places.{same_of}
use Rattle.auditing.specs.places.Buckets.{LastIn}
use Rattle.plane.specs.declared.boxes.BoundingBox.{BoundingBox}
use Rattle.certifying.specs.sides.Sides.{one_for, how_many, runs_at, along_of, more_of, surplus_of, leaves_of, leaves_at, reaches_at, left_once}
use Rattle.certifying.specs.sides.Chains.{side_bucket, bucket_at, ChainedTo, WaysOf}
use Rattle.certifying.specs.sides.laws.Buckets.{bucket_back, other_bucket}
use Rattle.certifying.specs.sides.laws.Tallies.{tally_skip, tally_most}

-- those from x on are counted, and the one before x is chained in the bucket
pub record WaysTo (v : List Float) (ix to : List ℕ) (n : ℕ) (p q : Point) (x there back : ℕ) : Type 0 where
  pub within : x ≤ n
  pub bucket : (k : ℕ) → x ≡ suc k → bucket_at v ix to n k ≡ side_bucket n p q
  pub there_is : there + how_many (runs_at v ix to p q) x ≡ how_many (runs_at v ix to p q) n
  pub back_is : back + how_many (runs_at v ix to q p) x ≡ how_many (runs_at v ix to q p) n

module _ {v : List Float} {ix to : List ℕ} {n : ℕ} {w : List ℕ} (h : ChainedTo v ix to n n w) (p q : Point) where
  -- a last one below j leaves nothing out
  skipped : (j x : ℕ) → LastIn (bucket_at v ix to n) (side_bucket n p q) j x → how_many (runs_at v ix to p q) j ≡ how_many (runs_at v ix to p q) x
  skipped j x l = tally_skip (runs_at v ix to p q) j x l.within (λ k a b. other_bucket v ix to n k p q (l.after k a b))

  skipped_back : (j x : ℕ) → LastIn (bucket_at v ix to n) (side_bucket n p q) j x → how_many (runs_at v ix to q p) j ≡ how_many (runs_at v ix to q p) x
  skipped_back j x l = tally_skip (runs_at v ix to q p) j x l.within (λ k a b. other_bucket v ix to n k q p (λ e. l.after k a b (e ∙ bucket_back n q p)))

  pub ways_start : {m x : ℕ} → m ≡ side_bucket n p q → m < n → x ≡ get_or w (3 * m) 0 → WaysTo v ix to n p q x 0 0
  ways_start {m} {x} e s f =
      let l : LastIn (bucket_at v ix to n) (side_bucket n p q) n x = rw (f, ← e) (h.chained.lasts m s) in
      record { within = l.within; bucket = l.there; there_is = plain _ _ (skipped n x l); back_is = plain _ _ (skipped_back n x l) }
    where
      plain : (a b : ℕ) → a ≡ b → 0 + b ≡ a
      plain a b e = omega arith

  module _ {x there back : ℕ} (a : WaysTo v ix to n p q x there back) (o : 0 < x) where
    pub way_below : x - 1 < n
    way_below = omega (arith, a.within)

    pub counts_few : (there ≤ n) × (back ≤ n)
    counts_few = (omega (arith, a.there_is, tally_most (runs_at v ix to p q) n), omega (arith, a.back_is, tally_most (runs_at v ix to q p) n))

    next_last : {y : ℕ} → y ≡ get_or w (3 * (x - 1) + 1) 0 → LastIn (bucket_at v ix to n) (side_bucket n p q) (x - 1) y
    next_last e = rw (e, ← a.bucket (x - 1) (omega arith)) (h.chained.nexts (x - 1) way_below)

    pub next_less : {y : ℕ} → y ≡ get_or w (3 * (x - 1) + 1) 0 → y < x
    next_less e = omega (arith, (next_last e).within)

    pub ways_step : {y t t' : ℕ} → t ≡ one_for (runs_at v ix to p q (x - 1)) → t' ≡ one_for (runs_at v ix to q p (x - 1)) → y ≡ get_or w (3 * (x - 1) + 1) 0
        → WaysTo v ix to n p q y (there + t) (back + t')
    ways_step {y} {t} {t'} e f g =
        let l = next_last g in
        let i : x ≡ suc (x - 1) = omega arith in
        record {
          within = omega (arith, l.within, a.within);
          bucket = l.there;
          there_is = plain _ _ _ _ (rw i at a.there_is) e (skipped (x - 1) y l);
          back_is = plain _ _ _ _ (rw i at a.back_is) f (skipped_back (x - 1) y l);
        }
      where
        plain : (c t s n : ℕ) {b d : ℕ} → c + (s + b) ≡ n → t ≡ b → s ≡ d → c + t + d ≡ n
        plain c t s n e f g = omega arith

  pub ways_end : {x there back : ℕ} → WaysTo v ix to n p q x there back → x ≤ 0 → WaysOf v ix to n p q there back
  ways_end {x} a o =
      let z : x ≡ 0 = omega arith in
      record { there_is = plain _ _ (rw z at a.there_is); back_is = plain _ _ (rw z at a.back_is) }
    where
      plain : (c n : ℕ) → c + 0 ≡ n → c ≡ n
      plain c n e = omega arith

-- the test as the code makes it
pub runs_is : (v : List Float) (ix to : List ℕ) (p q : Point) (k : ℕ) {a b : Point} {t : Bool} {c : ℕ} → a ≡ point_at v (get_or ix k 0) → b ≡ point_at v (get_or to k 0) → t ≡ (same_of p a && same_of q b)
    → c ≡ one_for t → c ≡ one_for (runs_at v ix to p q k)
unfolding runs_at
runs_is v ix to p q k e f g h = h ∙ ap one_for g ∙ rw (e, f) refl

pub leaves_is : (b : BoundingBox) {p q p' q' : Point} {t : Bool} {c : ℕ} → p ≡ p' → q ≡ q' → t ≡ leaves_of b p q → c ≡ one_for t → c ≡ one_for (leaves_of b p' q')
leaves_is b e f g h = h ∙ ap one_for g ∙ rw (e, f) refl

pub once_is : (b : BoundingBox) (v : List Float) (ix to : List ℕ) (n : ℕ) {l r : ℕ} → (l ≡ how_many (leaves_at b v ix to) n) × (r ≡ how_many (reaches_at b v ix to) n)
    → eqb l (r + 1) ≡ left_once b v ix to n
unfolding left_once
once_is b v ix to n (e, f) = rw (e, f) refl

-- the side from a to c, which are p and q
module _ (b : BoundingBox) (v : List Float) (ix to : List ℕ) (n : ℕ) {p q a c : Point} {t : Bool} (e : a ≡ p) (f : c ≡ q) (g : t ≡ along_of b a c) where
  pub surplus_none : t ≡ true → false ≡ surplus_of b v ix to n p q
  unfolding surplus_of
  surplus_none h = let k : along_of b p q ≡ true = rw (← e, ← f, ← g) h in rw k refl

  pub surplus_is : t ≡ false → {there back : ℕ} → WaysOf v ix to n a c there back → ltb back there ≡ surplus_of b v ix to n p q
  unfolding surplus_of more_of
  surplus_is h w = let k : along_of b p q ≡ false = rw (← e, ← f, ← g) h in rw (k, w.there_is, w.back_is, e, f) refl
