-- The loops that count the rooms of regions and add them up.
use Rattle.std.specs.Prelude.{◌≡◌, refl, List, ℕ, zero, suc, ◌+◌, ◌*◌, ◌^◌, ◌≤◌, ◌<◌, get_or, set, take, replicate}
use Rattle.std.proofs.Common.{sym, ap, ◌∙◌, ⊎_elim, mul-zero, mul-le-mul_left, add-one, arith, length-set, get_or-set_same, get_or-set_other, length-take-le}
use Rattle.std.proofs.Math.Nat.{sub-zero}
use Rattle.std.proofs.Math.ListN.{length, get_or-eq_default}
use Rattle.std.proofs.lemmas.List.{length-replicate, get_or-replicate}
use Rattle.base.specs.common.laws.Decide.{eq_or_ne, lt_or_ge}
use Rattle.base.specs.common.Count.{same, occ, sum_to}
use Rattle.base.specs.common.laws.Count.{same_cases, occ_length, sum_mono, sum_same, occ_sum, below_occ}
use Rattle.mesh.specs.laws.Degree.{occ_next}
use Rattle.cell_memory.specs.layout.Cleared.{cleared_from}
use Rattle.cell_memory.specs.layout.Rooms.{region_room, region_start, Tallies, Tallied, Sums, Summed, Roomy, Started}

sum_rooms : (a b c : ℕ → ℕ) (n : ℕ) → sum_to (λ s. 3 * a s + 6 * b s + c s) n ≡ 3 * sum_to a n + 6 * sum_to b n + sum_to c n
sum_rooms a b c zero = refl
sum_rooms a b c (suc n) = omega (arith, sum_rooms a b c n)

-- all regions together
pub start_end : (tri hull owners : List ℕ) (n : ℕ) (off : List ℕ) → Roomy tri hull owners n off → region_start tri hull owners n ≡ 3 * length tri + 6 * length hull + length owners
unfolding region_start region_room
start_end tri hull owners n off r =
    sum_rooms (λ s. occ s tri) (λ s. occ s hull) (λ s. occ s owners) n
    ∙ rw (occ_sum n tri (below_occ tri n r.tri_sites), occ_sum n hull (below_occ hull n r.hull_sites), occ_sum n owners (below_occ owners n r.owner_sites))

module _ (l : List ℕ) (by : ℕ) (old : List ℕ) where
  pub tallied_none : Tallied (take 0 l) by old old
  tallied_none = record { long = refl; first = refl; each = λ s h. rw mul-zero (omega arith) }

  module _ (new : List ℕ) (i at : ℕ) (t : Tallies l by old) (g : Tallied (take i l) by old new) (h : i < length l) (q : at ≡ get_or l i 0) where
    pub tally_place : at + 1 < length new
    tally_place = omega (arith, g.long, t.places i h)

    so_far : get_or new (at + 1) 0 ≡ get_or old (at + 1) 0 + by * occ at (take i l)
    so_far = rw add-one (g.each at (omega (arith, t.places i h)))

    below : by * occ at (take i l) + by ≤ by * length l
    below =
        let o : occ at (take i l) ≤ i = omega (arith, occ_length at (take i l), length-take-le i l (omega arith)) in
        let m : by * (occ at (take i l) + 1) ≤ by * length l = mul-le-mul_left by (omega arith) in
        omega arith

    pub tally_fits : get_or new (at + 1) 0 + by < 2 ^ 32
    tally_fits = omega (arith, so_far, below, t.small (at + 1) (omega (arith, t.places i h)))

    pub tally_step : (v : ℕ) → v ≡ get_or new (at + 1) 0 + by → Tallied (take (i + 1) l) by old (set new (at + 1) v)
    tally_step v e = record { long = length-set new (at + 1) v ∙ g.long; first = get_or-set_other new (at + 1) 0 v 0 (λ z. omega arith) ∙ g.first; each = each }
      where
        each : (s : ℕ) → suc s < length old → get_or (set new (at + 1) v) (suc s) 0 ≡ get_or old (suc s) 0 + by * occ s (take (i + 1) l)
        each s w =
            ⊎_elim
            (λ z.
            let p : s ≡ at = z.0 ∙ sym q in
            let one : same at (get_or l i 0) ≡ 1 = rw (← p) z.1 in
            rw (p, ← add-one at, get_or-set_same new (at + 1) v 0 tally_place, occ_next at i l h, one) (omega (arith, e, so_far)))
            (λ z.
            rw (get_or-set_other new (at + 1) (suc s) v 0 (λ p. z.0 (omega arith)), occ_next s i l h) (rw z.1 (omega (arith, g.each s w))))
            (same_cases s (get_or l i 0))

-- ---- sums
module _ (n : ℕ) (old : List ℕ) where
  -- the first i sums stand, the rest is as it was
  pub record Adding (new : List ℕ) (i : ℕ) : Type 0 where
    pub within : i ≤ n
    pub long : length new ≡ length old
    pub done : (s : ℕ) → s ≤ i → get_or new s 0 ≡ sum_to (λ k. get_or old (suc k) 0) s
    pub left : (s : ℕ) → i < s → get_or new s 0 ≡ get_or old s 0

  pub adding_start : Sums n old → Adding old 0
  adding_start g = record {
    within = omega arith;
    long = refl;
    done = λ s l. let z : s ≡ 0 = omega arith in rw z g.first;
    left = λ s l. refl;
  }

  module _ (new : List ℕ) (i : ℕ) (s : Sums n old) (g : Adding new i) (h : i < n) where
    next_sum : get_or new i 0 + get_or new (i + 1) 0 ≡ sum_to (λ k. get_or old (suc k) 0) (suc i)
    next_sum = rw (g.done i (omega arith), g.left (i + 1) (omega arith), add-one)

    pub add_fits : get_or new i 0 + get_or new (i + 1) 0 < 2 ^ 32
    add_fits = omega (arith, next_sum, sum_mono (λ k. get_or old (suc k) 0) (suc i) n (omega arith), s.small)

    pub adding_step : (v : ℕ) → v ≡ get_or new i 0 + get_or new (i + 1) 0 → Adding (set new (i + 1) v) (i + 1)
    adding_step v e = record {
      within = omega arith;
      long = length-set new (i + 1) v ∙ g.long;
      done = λ k l.
          ⊎_elim
          (λ q. rw (q, get_or-set_same new (i + 1) v 0 (omega (arith, g.long, s.places)), e, next_sum, add-one))
          (λ q. get_or-set_other new (i + 1) k v 0 q ∙ g.done k (omega arith))
          (eq_or_ne k (i + 1));
      left = λ k l. get_or-set_other new (i + 1) k v 0 (λ q. omega arith) ∙ g.left k (omega arith);
    }

-- ---- all rooms: zeros, then three tallies, then the sums
module _ (tri hull owners : List ℕ) (n : ℕ) (off : List ℕ) (r : Roomy tri hull owners n off) where
  zeros : List ℕ
  zeros = replicate (length off) 0

  zeros_at : (z : List ℕ) → z ≡ cleared_from 0 0 off → (length z ≡ length off) × ((s : ℕ) → get_or z s 0 ≡ 0)
  unfolding zeros
  zeros_at z q = (ap length (q ∙ all) ∙ long, λ s. rw (q, all) (none s))
    where
      all : cleared_from 0 0 off ≡ zeros
      all = rw sub-zero

      long : length zeros ≡ length off
      long = length-replicate (length off) 0

      none : (s : ℕ) → get_or zeros s 0 ≡ 0
      none s = ⊎_elim (λ h. get_or-replicate (length off) s 0 0 h) (λ h. get_or-eq_default zeros 0 (rw long h)) (lt_or_ge s (length off))

  module _ (z : List ℕ) (q : z ≡ cleared_from 0 0 off) where
    pub tallies_tri : Tallies tri 3 z
    tallies_tri = record {
      places = λ k h. omega (arith, (zeros_at z q).0, r.tri_sites k h, r.places);
      small = λ s h. omega (arith, (zeros_at z q).1 s, r.small);
    }

    module _ (a : List ℕ) (ta : Tallied tri 3 z a) where
      a_at : (s : ℕ) → suc s < length off → get_or a (suc s) 0 ≡ 3 * occ s tri
      a_at s h = omega (arith, ta.each s (omega (arith, (zeros_at z q).0)), (zeros_at z q).1 (suc s))

      a_long : length a ≡ length off
      a_long = ta.long ∙ (zeros_at z q).0

      pub tallies_hull : Tallies hull 6 a
      tallies_hull = record { places = λ k h. omega (arith, a_long, r.hull_sites k h, r.places); small = small }
        where
          small : (s : ℕ) → s < length a → get_or a s 0 + 6 * length hull < 2 ^ 32
          small zero h = omega (arith, ta.first, (zeros_at z q).1 0, r.small)
          small (suc s) h = omega (arith, a_at s (omega (arith, a_long)), occ_length s tri, r.small)

      module _ (b : List ℕ) (tb : Tallied hull 6 a b) where
        b_long : length b ≡ length off
        b_long = tb.long ∙ a_long

        b_at : (s : ℕ) → suc s < length off → get_or b (suc s) 0 ≡ 3 * occ s tri + 6 * occ s hull
        b_at s h = omega (arith, tb.each s (omega (arith, a_long)), a_at s h)

        pub tallies_owners : Tallies owners 1 b
        tallies_owners = record { places = λ k h. omega (arith, b_long, r.owner_sites k h, r.places); small = small }
          where
            small : (s : ℕ) → s < length b → get_or b s 0 + 1 * length owners < 2 ^ 32
            small zero h = omega (arith, tb.first, ta.first, (zeros_at z q).1 0, r.small)
            small (suc s) h = omega (arith, b_at s (omega (arith, b_long)), occ_length s tri, occ_length s hull, r.small)

        module _ (c : List ℕ) (tc : Tallied owners 1 b c) where
          c_at : (s : ℕ) → s < n → get_or c (suc s) 0 ≡ region_room tri hull owners s
          unfolding region_room
          c_at s h = omega (arith, tc.each s (omega (arith, b_long, r.places)), b_at s (omega (arith, r.places)))

          sums_to : (s : ℕ) → s ≤ n → sum_to (λ k. get_or c (suc k) 0) s ≡ region_start tri hull owners s
          unfolding region_start
          sums_to s h = sum_same _ _ s (λ k p. c_at k (omega arith))

          pub sums_rooms : Sums n c
          sums_rooms = record {
            first = tc.first ∙ tb.first ∙ ta.first ∙ (zeros_at z q).1 0;
            places = omega (arith, tc.long, b_long, r.places);
            small = omega (arith, sums_to n (omega arith), start_end tri hull owners n off r, r.small);
          }

          pub started : (d : List ℕ) → Summed n c d → Started tri hull owners n d
          started d sd s h = sd.each s h ∙ sums_to s h
