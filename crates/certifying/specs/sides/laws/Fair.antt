-- Bucket by bucket: where two sides are chained in a bucket, one there and one back, none is in surplus; where no bucket has one, there is none.
use Rattle.std.specs.Prelude.{◌≡◌, Bool, List, ℕ, suc, ◌+◌, ◌-◌, ◌*◌, ◌≤◌, ◌<◌, Float, get_or}
use Rattle.std.proofs.Math.Path.{refl}
use Rattle.std.proofs.Common.{sym, ap, subst, ◌∙◌, ⊎_elim, arith, le-ltb}
use Rattle.std.proofs.Math.Bool.{true, false}
use Rattle.base.specs.common.laws.Decide.{lt_or_ge}
use Rattle.ring_area.specs.lowest.Lowest.{lowest}
use Rattle.ring_area.specs.lowest.laws.Loops.{passed_end}
use Rattle.plane.specs.declared.points.Point.{Point}
use Rattle.plane.specs.points.Flat.{point_at}
use Rattle.plane.specs.declared.boxes.BoundingBox.{BoundingBox}
use Rattle.auditing.specs.places.Buckets.{LastIn}
use Rattle.certifying.specs.sides.Sides.{one_for, how_many, runs_at, along_of, more_of, surplus_of, surplus_at}
use Rattle.certifying.specs.sides.Chains.{bucket_at, ChainedTo, WaysOf, RunsBack, EvenIn, FairIn}
use Rattle.certifying.specs.sides.laws.Buckets.{bucket_small}
use Rattle.certifying.specs.sides.laws.Tallies.{bit_small, bit_none}
use Rattle.certifying.specs.sides.laws.Walking.{ways_start, ways_step, ways_end}

bit_one : {t : Bool} → t ≡ true → one_for t ≡ 1
unfolding one_for
bit_one {t} e = rw e refl

-- the number i is before k, is k, or comes after it
three : {A : Type 0} (i k : ℕ) → (i < k → A) → (i ≡ k → A) → (suc k ≤ i → A) → A
three i k f g h = ⊎_elim f (λ a. ⊎_elim (λ b. g (omega arith)) h (lt_or_ge i (suc k))) (lt_or_ge i k)

-- as many back as there
pub even_of : {v : List Float} {ix to : List ℕ} {n : ℕ} {p q : Point} {t b : ℕ} → WaysOf v ix to n p q t b → t ≤ b → more_of v ix to n p q ≡ false
unfolding more_of
even_of {v} {ix} {to} {n} {p} {q} w o = le-ltb (how_many (runs_at v ix to q p) n) (how_many (runs_at v ix to p q) n) (omega (arith, w.there_is, w.back_is))

-- sides k and j, as the code has them
module _ (v : List Float) (ix to : List ℕ) where
  abbrev from_of : ℕ → Point
  from_of k = point_at v (get_or ix k 0)

  abbrev to_of : ℕ → Point
  to_of k = point_at v (get_or to k 0)

  pub record BackAt (k j : ℕ) : Type 0 where
    pub back : runs_at v ix to (to_of k) (from_of k) j ≡ true
    pub only : runs_at v ix to (from_of k) (to_of k) j ≡ false

  pub answered : (k j : ℕ) {p q a c : Point} → p ≡ point_at v (get_or ix k 0) → q ≡ point_at v (get_or to k 0) → a ≡ point_at v (get_or ix j 0) → c ≡ point_at v (get_or to j 0) → RunsBack p q a c → BackAt k j
  unfolding runs_at
  answered k j e f g h r = record { back = rw (← e, ← f, ← g, ← h) r.back; only = rw (← e, ← f, ← g, ← h) r.only }

  pub even_fair : (b : BoundingBox) (n m : ℕ) → EvenIn v ix to n m → FairIn b v ix to n m
  unfolding surplus_of
  even_fair b n m e k h s = go (along_of b (from_of k) (to_of k)) refl
    where
      go : (t : Bool) → along_of b (from_of k) (to_of k) ≡ t → surplus_at b v ix to n k ≡ false
      go true g = rw g refl
      go false g = rw g (e k h s)

module _ {v : List Float} {ix to : List ℕ} {n : ℕ} {w : List ℕ} (h : ChainedTo v ix to n n w) {m : ℕ} (s : m < n) where
  -- the last side of bucket m
  module _ {x : ℕ} (e : x ≡ get_or w (3 * m) 0) where
    pub head_last : LastIn (bucket_at v ix to n) m n x
    head_last = rw e (h.chained.lasts m s)

  -- the one before side x - 1 of bucket m, which is the last before j
  module _ {x j : ℕ} (l : LastIn (bucket_at v ix to n) m j x) (i : j ≤ n) (o : 0 < x) where
    pub last_below : x - 1 < n
    last_below = omega (arith, l.within)

    last_bucket : bucket_at v ix to n (x - 1) ≡ m
    last_bucket = l.there (x - 1) (omega arith)

    pub next_last : {y : ℕ} → y ≡ get_or w (3 * (x - 1) + 1) 0 → LastIn (bucket_at v ix to n) m (x - 1) y
    next_last f = rw (f, ← last_bucket) (h.chained.nexts (x - 1) last_below)

  pub head_below : {x : ℕ} → x ≡ get_or w (3 * m) 0 → 0 < x → x - 1 < n
  head_below e o = omega (arith, (head_last e).within)

  pub next_below : {x y : ℕ} → x ≡ get_or w (3 * m) 0 → 0 < x → y ≡ get_or w (3 * (x - 1) + 1) 0 → 0 < y → y - 1 < n
  next_below e o f u = omega (arith, (head_last e).within, (next_last (head_last e) (omega arith) o f).within)

  -- two are chained there
  module _ {x y : ℕ} (e : x ≡ get_or w (3 * m) 0) (o : 0 < x) (f : y ≡ get_or w (3 * (x - 1) + 1) 0) (u : 0 < y) (g : get_or w (3 * (y - 1) + 1) 0 ≤ 0) where
    l1 : LastIn (bucket_at v ix to n) m n x
    l1 = head_last e

    l2 : LastIn (bucket_at v ix to n) m (x - 1) y
    l2 = next_last l1 (omega arith) o f

    l3 : LastIn (bucket_at v ix to n) m (y - 1) (get_or w (3 * (y - 1) + 1) 0)
    l3 = next_last l2 (omega (arith, l1.within)) u refl

    -- what runs between the places of a side of bucket m is one of them
    both : (i : ℕ) → bucket_at v ix to n i ≡ m → (p q : Point) → p ≡ from_of v ix to i → q ≡ to_of v ix to i
        → WaysOf v ix to n p q (0 + one_for (runs_at v ix to p q (x - 1)) + one_for (runs_at v ix to p q (y - 1))) (0 + one_for (runs_at v ix to q p (x - 1)) + one_for (runs_at v ix to q p (y - 1)))
    both i z p q c d =
        let st = ways_start h p q (sym z ∙ rw (c, d) refl) s e in
        let s1 = ways_step h p q st o refl refl f in
        ways_end h p q (ways_step h p q s1 u refl refl refl) g

    abbrev EvenAt : ℕ → Type 0
    EvenAt i = more_of v ix to n (from_of v ix to i) (to_of v ix to i) ≡ false

    first : BackAt v ix to (x - 1) (y - 1) → EvenAt (x - 1)
    first a = even_of (both (x - 1) (l1.there (x - 1) (omega arith)) _ _ refl refl)
        (omega (arith, bit_small (runs_at v ix to (from_of v ix to (x - 1)) (to_of v ix to (x - 1)) (x - 1)), bit_one a.back, bit_none a.only))

    second : BackAt v ix to (y - 1) (x - 1) → EvenAt (y - 1)
    second a = even_of (both (y - 1) (l2.there (y - 1) (omega arith)) _ _ refl refl)
        (omega (arith, bit_small (runs_at v ix to (from_of v ix to (y - 1)) (to_of v ix to (y - 1)) (y - 1)), bit_one a.back, bit_none a.only))

    pub pair_even : BackAt v ix to (x - 1) (y - 1) → BackAt v ix to (y - 1) (x - 1) → EvenIn v ix to n m
    pair_even a c i b z =
        three i (x - 1)
        (λ lt. three i (y - 1) (λ less. absurd (l3.after i (omega arith) less z)) (λ q. subst EvenAt (sym q) (second c)) (λ ge. absurd (l2.after i (omega arith) lt z)))
        (λ q. subst EvenAt (sym q) (first a))
        (λ ge. absurd (l1.after i (omega arith) b z))

-- a loop down the chain of bucket m: those from x on have been asked
pub record FairTo (b : BoundingBox) (v : List Float) (ix to : List ℕ) (n m x : ℕ) : Type 0 where
  pub last : (j : ℕ) → x ≡ suc j → bucket_at v ix to n j ≡ m
  pub within : x ≤ n
  pub fair : (k : ℕ) → x ≤ k → k < n → bucket_at v ix to n k ≡ m → surplus_at b v ix to n k ≡ false

module _ {b : BoundingBox} {v : List Float} {ix to : List ℕ} {n : ℕ} {w : List ℕ} (h : ChainedTo v ix to n n w) {m : ℕ} where
  pub fair_start : m < n → {x : ℕ} → x ≡ get_or w (3 * m) 0 → FairTo b v ix to n m x
  fair_start s e = let l = head_last h s e in record { last = l.there; within = l.within; fair = λ k i j z. absurd (l.after k i j z) }

  module _ {x : ℕ} (a : FairTo b v ix to n m x) (o : 0 < x) where
    pub fair_below : x - 1 < n
    fair_below = omega (arith, a.within)

    next : {y : ℕ} → y ≡ get_or w (3 * (x - 1) + 1) 0 → LastIn (bucket_at v ix to n) m (x - 1) y
    next f = rw (f, ← a.last (x - 1) (omega arith)) (h.chained.nexts (x - 1) fair_below)

    pub fair_less : {y : ℕ} → y ≡ get_or w (3 * (x - 1) + 1) 0 → y < x
    fair_less f = omega (arith, (next f).within)

    pub fair_step : {y : ℕ} {t : Bool} → t ≡ surplus_at b v ix to n (x - 1) → t ≡ false → y ≡ get_or w (3 * (x - 1) + 1) 0 → FairTo b v ix to n m y
    fair_step e q f = let l = next f in
        record {
          last = l.there;
          within = omega (arith, l.within, a.within);
          fair = λ k i j z. three k (x - 1) (λ g. absurd (l.after k i g z)) (λ g. ap (surplus_at b v ix to n) g ∙ sym e ∙ q) (λ g. a.fair k (omega arith) j z);
        }

  pub fair_end : {x : ℕ} → FairTo b v ix to n m x → x ≤ 0 → FairIn b v ix to n m
  fair_end a o k i z = a.fair k (omega arith) i z

-- where each bucket is fair no side is in surplus
pub buckets_all : (b : BoundingBox) (v : List Float) (ix to : List ℕ) (n : ℕ) → ((m : ℕ) → m < n → FairIn b v ix to n m) → n ≡ lowest (surplus_at b v ix to n) n
buckets_all b v ix to n f =
    passed_end (record { most = omega arith; none = λ k i. f (bucket_at v ix to n k) (below k i) k i refl }) (omega arith)
  where
    below : (k : ℕ) → k < n → bucket_at v ix to n k < n
    below k i = bucket_small n (point_at v (get_or ix k 0)) (point_at v (get_or to k 0)) (omega arith)
