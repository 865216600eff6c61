-- Where the two or four sides of a bucket are the same ones there and back by the numbers of their vertices, as many run one way as the other, whatever the places.
use Rattle.std.specs.Prelude.{◌≡◌, refl, Bool, true, false, ◌&&◌, List, ℕ, ◌+◌, ◌-◌, ◌*◌, ◌≤◌, ◌<◌, Float}
use Rattle.std.proofs.Math.Path.{sym}
use Rattle.std.proofs.Common.{ap, ◌∙◌, ⊎_elim, arith}
use Rattle.std.proofs.Math.ListN.{get_or}
use Rattle.plane.specs.declared.points.Point.{Point}
use Rattle.plane.specs.points.Flat.{point_at}
use Rattle.auditing.specs.places.Places.{same_of}
use Rattle.auditing.specs.places.Buckets.{LastIn}
use Rattle.certifying.specs.sides.Sides.{one_for, runs_at}
use Rattle.certifying.specs.sides.Chains.{bucket_at, SidesIn, ChainedTo, EvenIn, NumberSafe, Turned, TwoPairs}
use Rattle.certifying.specs.sides.laws.Fair.{even_of, head_last, next_last}
use Rattle.certifying.specs.sides.laws.Walking.{ways_start, ways_step, ways_end}

both_ways : (a b : Bool) → (a && b) ≡ (b && a)
both_ways true true = refl
both_ways true false = refl
both_ways false true = refl
both_ways false false = refl

-- what runs as side j runs back as side k
module _ {v : List Float} {ix to : List ℕ} {n : ℕ} {w : List ℕ} (a : SidesIn v ix to n w) (p q : Point) where
  turned_runs : {j k : ℕ} → j < n → k < n → Turned ix w j k → runs_at v ix to p q j ≡ runs_at v ix to q p k
  unfolding runs_at
  turned_runs {j} {k} J K t =
      let e : get_or ix j 0 ≡ get_or to k 0 = t.there ∙ a.ends k K in
      let f : get_or to j 0 ≡ get_or ix k 0 = sym (a.ends j J) ∙ sym t.back in
      rw (e, f) (both_ways (same_of p (point_at v (get_or to k 0))) (same_of q (point_at v (get_or ix k 0))))

  turned_ones : {j k : ℕ} → j < n → k < n → Turned ix w j k
      → (one_for (runs_at v ix to p q j) ≡ one_for (runs_at v ix to q p k)) × (one_for (runs_at v ix to p q k) ≡ one_for (runs_at v ix to q p j))
  turned_ones J K t =
      (ap one_for (turned_runs J K t), ap one_for (turned_runs K J (record { there = t.back; back = t.there })))

pub number_safe : {v : List Float} {ix to : List ℕ} {n : ℕ} {w : List ℕ} → SidesIn v ix to n w → {k : ℕ} → k < n → NumberSafe ix w k
number_safe a h = record { few = omega (arith, a.few); entry = omega (arith, a.entries); room = omega (arith, a.room) }

module _ {v : List Float} {ix to : List ℕ} {n : ℕ} {w : List ℕ} (h : ChainedTo v ix to n n w) {m : ℕ} (s : m < n) {x y : ℕ} (e : x ≡ get_or w (3 * m) 0) (o : 0 < x)
    (f : y ≡ get_or w (3 * (x - 1) + 1) 0) (u : 0 < y) where
  l1 : LastIn (bucket_at v ix to n) m n x
  l1 = head_last h s e

  l2 : LastIn (bucket_at v ix to n) m (x - 1) y
  l2 = next_last h s l1 (omega arith) o f

  x_below : x - 1 < n
  x_below = omega (arith, l1.within)

  pub y_below : y - 1 < n
  y_below = omega (arith, l1.within, l2.within)

  -- two are chained there
  pub two_even : get_or w (3 * (y - 1) + 1) 0 ≤ 0 → Turned ix w (x - 1) (y - 1) → EvenIn v ix to n m
  two_even g t i b z =
      let p = point_at v (get_or ix i 0) in
      let q = point_at v (get_or to i 0) in
      let st = ways_start h p q (sym z) s e in
      let s1 = ways_step h p q st o refl refl f in
      let ones = turned_ones h.lie p q x_below y_below t in
      even_of (ways_end h p q (ways_step h p q s1 u refl refl refl) g) (omega (arith, ones.0, ones.1))

  -- four are chained there
  module _ {c : ℕ} (f₂ : c ≡ get_or w (3 * (y - 1) + 1) 0) (o₂ : 0 < c) where
    l3 : LastIn (bucket_at v ix to n) m (y - 1) c
    l3 = next_last h s l2 (omega (arith, l1.within)) u f₂

    pub z_below : c - 1 < n
    z_below = omega (arith, l1.within, l2.within, l3.within)

    module _ {d : ℕ} (f₃ : d ≡ get_or w (3 * (c - 1) + 1) 0) (o₃ : 0 < d) where
      l4 : LastIn (bucket_at v ix to n) m (c - 1) d
      l4 = next_last h s l3 (omega (arith, l1.within, l2.within)) o₂ f₃

      pub d_below : d - 1 < n
      d_below = omega (arith, z_below, l4.within)

      pub four_even : get_or w (3 * (d - 1) + 1) 0 ≤ 0 → TwoPairs ix w (x - 1) (y - 1) (c - 1) (d - 1) → EvenIn v ix to n m
      four_even g t i b z =
          let p = point_at v (get_or ix i 0) in
          let q = point_at v (get_or to i 0) in
          let st = ways_start h p q (sym z) s e in
          let s1 = ways_step h p q st o refl refl f in
          let s2 = ways_step h p q s1 u refl refl f₂ in
          let s3 = ways_step h p q s2 o₂ refl refl f₃ in
          let all = ways_end h p q (ways_step h p q s3 o₃ refl refl refl) g in
          even_of all
          (⊎_elim (λ a.
          let first = turned_ones h.lie p q x_below y_below a.0 in let second = turned_ones h.lie p q z_below d_below a.1 in
          omega (arith, first.0, first.1, second.0, second.1))
          (⊎_elim (λ a.
          let first = turned_ones h.lie p q x_below z_below a.0 in let second = turned_ones h.lie p q y_below d_below a.1 in
          omega (arith, first.0, first.1, second.0, second.1))
          (λ a.
          let first = turned_ones h.lie p q x_below d_below a.0 in let second = turned_ones h.lie p q y_below z_below a.1 in
          omega (arith, first.0, first.1, second.0, second.1))) t)
