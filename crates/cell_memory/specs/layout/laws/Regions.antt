-- Cells written into their regions one at a time. Regions do not overlap, so one that is filled leaves all others as they were; at first all of them are blank.
use Rattle.std.specs.Prelude.{◌≡◌, refl, List, [], ◌∷◌, ◌≢◌, ℕ, zero, suc, ◌+◌, ◌-◌, ◌≤◌, ◌<◌, length, get_or, set, replicate}
use Rattle.std.proofs.Common.{sym, ap, ◌∙◌, ⊎_elim, add-zero, arith, length-set, get_or-set_same, get_or-set_other}
use Rattle.std.proofs.lemmas.List.{length-replicate, get_or-replicate}
use Rattle.std.proofs.lemmas.List.Edits.{sets}
use Rattle.std.proofs.Math.Seq.{length-sets}
use Rattle.base.specs.common.laws.Decide.{lt_or_ge, eq_or_ne}
use Rattle.base.specs.common.laws.Stores.{sets_in, sets_before, sets_behind}
use Rattle.base.specs.common.laws.Count.{sum_mono}
use Rattle.base.specs.numbers.Numbers.{EMPTY}
use Rattle.cell_memory.specs.layout.Regions.{Region, Regions, StartsRise}
use Rattle.cell_memory.specs.layout.Rooms.{region_start, Started}

-- ---- one region
region_same : {ix : List ℕ} (new : List ℕ) {a b : ℕ} {c : List ℕ} → Region ix a b c → ((k : ℕ) → a ≤ k → k < b → get_or new k 0 ≡ get_or ix k 0) → Region new a b c
region_same new {a} r same = record {
  fits = r.fits;
  entries = λ i h. same (a + i) (omega arith) (omega (arith, r.fits)) ∙ r.entries i h;
  real = r.real;
  after = λ k h l. same k (omega arith) l ∙ r.after k h l;
}

-- a region that has room begins with EMPTY exactly where its cell is empty
pub begins_empty : {ix : List ℕ} {a b : ℕ} {c : List ℕ} → Region ix a b c → get_or ix a 0 ≡ EMPTY → c ≡ []
begins_empty {c = []} r q = refl
begins_empty {a = a} {c = x ∷ c} r q = absurd (r.real 0 (omega arith) (sym (r.entries 0 (omega arith)) ∙ rw (add-zero a) q))

pub begins_full : {ix : List ℕ} {a b : ℕ} {c : List ℕ} → Region ix a b c → a < b → get_or ix a 0 ≢ EMPTY → c ≢ []
begins_full {a = a} r l n q = n (r.after a (omega (arith, ap length q)) l)

-- ---- all of them
module _ (ix starts : List ℕ) (cells : List (List ℕ)) (r : Regions ix starts cells) where
  starts_rise : (i k : ℕ) → i + k ≤ length cells → get_or starts i 0 ≤ get_or starts (i + k) 0
  starts_rise i zero h = rw (add-zero i) (omega arith)
  starts_rise i (suc k) h =
      let q : i + suc k ≡ suc (i + k) = omega arith in
      rw q (omega (arith, starts_rise i k (omega arith), (r.each (i + k) (omega arith)).fits))

  starts_order : (i j : ℕ) → i ≤ j → j ≤ length cells → get_or starts i 0 ≤ get_or starts j 0
  starts_order i j h l = let q : j ≡ i + (j - i) = omega arith in rw q (starts_rise i (j - i) (omega arith))

  pub region_ends : (s : ℕ) → s < length cells → get_or starts (suc s) 0 ≤ length ix
  region_ends s h = omega (arith, starts_order (suc s) (length cells) h (omega arith), r.within)

  pub regions_rising : StartsRise starts (length cells) (length ix)
  regions_rising = record { long = r.one_more; rise = λ s h. starts_order s (s + 1) (omega arith) (omega arith); within = r.within }

  module _ (new : List ℕ) (s : ℕ) (c : List ℕ) (l : s < length cells) (blank : get_or cells s [] ≡ [])
      (room : get_or starts s 0 + length c ≤ get_or starts (suc s) 0) (real : (i : ℕ) → i < length c → get_or c i 0 ≢ EMPTY) (w : new ≡ sets ix (get_or starts s 0) c) where
    fits : get_or starts s 0 + length c ≤ length ix
    fits = omega (arith, region_ends s l)

    long : length new ≡ length ix
    long = ap length w ∙ length-sets ix (get_or starts s 0) c

    filled : Region new (get_or starts s 0) (get_or starts (suc s) 0) c
    filled = record {
      fits = room;
      entries = λ i h. rw w (sets_in c ix (get_or starts s 0) i 0 fits h);
      real = real;
      after = λ k h g. rw w (sets_behind c ix (get_or starts s 0) k 0 h) ∙ (r.each s l).after k (omega (arith, ap length blank)) g;
    }

    other : (t : ℕ) → t < length cells → t ≢ s → (k : ℕ) → get_or starts t 0 ≤ k → k < get_or starts (suc t) 0 → get_or new k 0 ≡ get_or ix k 0
    other t lt ne k a b =
        ⊎_elim
        (λ h. rw w (sets_before c ix (get_or starts s 0) k 0 (omega (arith, starts_order (suc t) s h (omega arith)))))
        (λ h. rw w (sets_behind c ix (get_or starts s 0) k 0 (omega (arith, starts_order (suc s) t (omega arith) (omega arith)))))
        (lt_or_ge t s)

    -- the cell of site s, empty so far, is written into its region
    pub regions_set : Regions new starts (set cells s c)
    regions_set = record { one_more = rw (length-set cells s c) r.one_more; within = rw (length-set cells s c, long) r.within; each = each }
      where
        each : (t : ℕ) → t < length (set cells s c) → Region new (get_or starts t 0) (get_or starts (suc t) 0) (get_or (set cells s c) t [])
        each t h =
            let lt : t < length cells = rw (length-set cells s c) at h in
            ⊎_elim
            (λ (q : t ≡ s). rw q (rw (get_or-set_same cells s c [] l) filled))
            (λ n. rw (get_or-set_other cells s t c [] n) (region_same new (r.each t lt) (other t lt n)))
            (eq_or_ne t s)

-- ---- the beginning
pub regions_none : (ix starts : List ℕ) (n : ℕ) → StartsRise starts n (length ix) → ((k : ℕ) → k < length ix → get_or ix k 0 ≡ EMPTY) → Regions ix starts (replicate n [])
regions_none ix starts n g blank = record {
  one_more = rw long g.long;
  within = rw long g.within;
  each = λ s h.
      let l : s < n = rw long at h in
      let q : suc s ≡ s + 1 = omega arith in
      rw (get_or-replicate {A = List ℕ} n s [] [] l, q)
      (record {
        fits = omega (arith, g.rise s l);
        entries = λ i e. absurd (omega arith);
        real = λ i e. absurd (omega arith);
        after = λ k a b. blank k (omega (arith, upto (n - (s + 1)) (s + 1) (omega arith)));
      });
}
  where
    long : length (replicate {A = List ℕ} n []) ≡ n
    long = length-replicate n []

    upto : (k s : ℕ) → s + k ≡ n → get_or starts s 0 ≤ length ix
    upto zero s q = let z : s ≡ n = omega arith in rw z g.within
    upto (suc k) s q = omega (arith, g.rise s (omega arith), upto k (s + 1) (omega arith))

pub started_rising : (tri hull owners : List ℕ) (n : ℕ) (off : List ℕ) (len : ℕ) → Started tri hull owners n off → n < length off
    → region_start tri hull owners n ≤ len → StartsRise off n len
unfolding region_start
started_rising tri hull owners n off len g l h = record {
  long = l;
  rise = λ s p. rw (g s (omega arith), g (s + 1) (omega arith)) (sum_mono _ s (s + 1) (omega arith));
  within = rw (g n (omega arith)) h;
}
