-- The loop that puts cells together. What is read lies at or after what is written, so each region is still as it was when its turn comes.
use Rattle.std.specs.Prelude.{◌≡◌, refl, List, [], ◌∷◌, ◌++◌, ℕ, zero, suc, ◌+◌, ◌-◌, ◌≤◌, ◌<◌, length, get_or, set, take, drop}
use Rattle.std.proofs.Common.{sym, ap, ◌∙◌, subst, append-nil, append_assoc, ⊎_elim, add-zero, zero-add, add-one, arith, length-append, length-drop, length-set, ext_get_or, get_or-take, get_or-drop, take-suc, take_at, drop-cons, drop-drop, length-take-le, take_all, drop-set-lt}
use Rattle.std.proofs.Math.Seq.{paste}
use Rattle.std.proofs.lemmas.List.Edits.{sets, sets-eq}
use Rattle.std.proofs.lemmas.List.{set_at}
use Rattle.base.specs.common.laws.Stores.{drop_sets}
use Rattle.base.specs.common.laws.Decide.{lt_or_ge}
use Rattle.cell_memory.specs.layout.Regions.{joined, offsets_from, Region, Filled, StartsRise, Compacted}

-- ---- cells and their offsets
pub joined_snoc : (cs : List (List ℕ)) (c : List ℕ) → joined (cs ++ c ∷ []) ≡ joined cs ++ c
unfolding joined
joined_snoc [] c = append-nil c
joined_snoc (d ∷ cs) c = rw (joined_snoc cs c) (sym (append_assoc d (joined cs) c))

joined_take : (cs : List (List ℕ)) (s : ℕ) → s < length cs → joined (take (s + 1) cs) ≡ joined (take s cs) ++ get_or cs s []
joined_take cs s h = rw (add-one, take-suc cs s [] h) (joined_snoc (take s cs) (get_or cs s []))

pub offsets_length : (n : ℕ) (cs : List (List ℕ)) → length (offsets_from n cs) ≡ suc (length cs)
unfolding offsets_from
offsets_length n [] = refl
offsets_length n (c ∷ cs) = ap suc (offsets_length (n + length c) cs)

offsets_at : (n : ℕ) (cs : List (List ℕ)) (s : ℕ) → s ≤ length cs → get_or (offsets_from n cs) s 0 ≡ n + length (joined (take s cs))
unfolding offsets_from joined
offsets_at n [] zero h = sym (add-zero n)
offsets_at n [] (suc s) h = absurd (omega arith)
offsets_at n (c ∷ cs) zero h = sym (add-zero n)
offsets_at n (c ∷ cs) (suc s) h = omega (arith, offsets_at (n + length c) cs s (omega arith), length-append c (joined (take s cs)))

-- ---- one region
module _ (ix : List ℕ) (a b e : ℕ) (c : List ℕ) (r : Region ix a b c) (f : Filled ix a b e) where
  -- the cell ends where the region's first EMPTY, or its end, is
  pub region_end : e ≡ a + length c
  region_end =
      ⊎_elim
      (λ h.
      let k = e - a in
      let q : a + k ≡ e = omega (arith, f.low) in
      absurd (r.real k (omega (arith, f.low)) (sym (r.entries k (omega (arith, f.low))) ∙ rw q (f.ended (omega (arith, r.fits))))))
      (λ h. ⊎_elim
      (λ g. absurd (f.real (a + length c) (omega arith) g (r.after (a + length c) (omega arith) (omega (arith, f.high)))))
      (λ g. omega arith)
      (lt_or_ge (a + length c) e))
      (lt_or_ge e (a + length c))

  region_cell : b ≤ length ix → take (e - a) (drop a ix) ≡ c
  region_cell w =
      let l : length (take (e - a) (drop a ix)) ≡ length c = length-take-le (e - a) (drop a ix) (rw (length-drop a ix) (omega (arith, f.high))) ∙ omega (arith, region_end) in
      ext_get_or 0 (take (e - a) (drop a ix)) c l
      (λ i h. get_or-take (e - a) (drop a ix) i 0 (omega (arith, region_end)) ∙ get_or-drop a ix i 0 ∙ r.entries i (omega arith))

  -- moved down to w
  pub region_moved : b ≤ length ix → (w : ℕ) → w ≤ a → (new : List ℕ) → new ≡ paste ix w (drop a ix) (e - a) → new ≡ sets ix w c
  region_moved l w h new q =
      let n : e - a ≡ length c = omega (arith, region_end) in
      q ∙ rw (region_cell l, n) (sym (sets-eq c ix w (omega (arith, region_end, f.high))))

-- a region that stands ahead is as it was
pub region_ahead : (ix₀ ix : List ℕ) (a b : ℕ) (c : List ℕ) → drop a ix ≡ drop a ix₀ → Region ix₀ a b c → Region ix a b c
region_ahead ix₀ ix a b c same r = record {
  fits = r.fits;
  entries = λ i h. ahead i ∙ r.entries i h;
  real = r.real;
  after = λ k lo hi. let q : a + (k - a) ≡ k = omega (arith, lo) in rw (← q) (ahead (k - a) ∙ rw q (r.after k lo hi));
}
  where
    ahead : (k : ℕ) → get_or ix (a + k) 0 ≡ get_or ix₀ (a + k) 0
    ahead k = sym (get_or-drop a ix k 0) ∙ ap (λ (l : List ℕ). get_or l k 0) same ∙ get_or-drop a ix₀ k 0

-- ---- the loop: what it needs of no cell, and what it says of them
pub record Compacting (ix₀ off₀ ix off : List ℕ) (n w from s : ℕ) : Type 0 where
  pub place : from ≡ get_or off₀ s 0
  pub low : w ≤ from
  pub within : s ≤ n
  pub long_ix : length ix ≡ length ix₀
  pub long_off : length off ≡ length off₀
  pub left : drop s off ≡ drop s off₀

pub record Moved (ix₀ off₀ ix off : List ℕ) (cells : List (List ℕ)) (w from s : ℕ) : Type 0 where
  pub written : take w ix ≡ joined (take s cells)
  pub counted : w ≡ length (joined (take s cells))
  pub ahead : drop from ix ≡ drop from ix₀
  pub starts : off ≡ take s (offsets_from 0 cells) ++ drop s off₀

pub compacting_start : (ix off : List ℕ) (n from : ℕ) → from ≡ get_or off 0 0 → Compacting ix off ix off n 0 from 0
compacting_start ix off n from q = record { place = q; low = omega arith; within = omega arith; long_ix = refl; long_off = refl; left = refl }

pub moved_start : (ix off : List ℕ) (cells : List (List ℕ)) (from : ℕ) → Moved ix off ix off cells 0 from 0
unfolding joined
moved_start ix off cells from = record { written = refl; counted = refl; ahead = refl; starts = refl }

-- an end that lies within the list
pub rising_all : (l : List ℕ) (n len s : ℕ) → StartsRise l n len → s ≤ n → get_or l s 0 ≤ len
rising_all l n len s r h = go (n - s) s (omega arith)
  where
    go : (k s : ℕ) → s + k ≡ n → get_or l s 0 ≤ len
    go zero s q = let z : s ≡ n = omega arith in rw z r.within
    go (suc k) s q = omega (arith, r.rise s (omega arith), go k (s + 1) (omega arith))

module _ (ix₀ off₀ ix off : List ℕ) (n w from s to : ℕ) (g : Compacting ix₀ off₀ ix off n w from s) (h : s < n)
    (r : StartsRise off₀ n (length ix₀)) (t : to ≡ get_or off (s + 1) 0) where
  pub to_is : to ≡ get_or off₀ (s + 1) 0
  to_is = t ∙ sym (get_or-drop s off 1 0) ∙ ap (λ (l : List ℕ). get_or l 1 0) g.left ∙ get_or-drop s off₀ 1 0

  -- the region lies within the list
  pub region_within : (from ≤ to) × (to ≤ length ix)
  region_within = rw (g.place, to_is, g.long_ix) (r.rise s h, rising_all off₀ n (length ix₀) (s + 1) r (omega arith))

  drop_off : drop (s + 1) (set off s w) ≡ drop (s + 1) off₀
  drop_off = drop-set-lt (s + 1) off s w (omega arith) ∙ sym (drop-drop 1 s off) ∙ ap (drop 1) g.left ∙ drop-drop 1 s off₀

  pub compacting_step : (e : ℕ) (new : List ℕ) → w ≤ e → e ≤ w + (to - from) → length new ≡ length ix → Compacting ix₀ off₀ new (set off s w) n e to (s + 1)
  compacting_step e new lo hi long = record {
    place = to_is;
    low = omega (arith, g.low, region_within.0);
    within = omega arith;
    long_ix = long ∙ g.long_ix;
    long_off = length-set off s w ∙ g.long_off;
    left = drop_off;
  }

  module _ (cells : List (List ℕ)) (all : length cells ≡ n) (m : Moved ix₀ off₀ ix off cells w from s) where
    abbrev c : List ℕ
    c = get_or cells s []

    -- the cell written at w, which ends in its region or before it
    pub moved_step : (e : ℕ) (new : List ℕ) → length c ≤ to - from → e ≡ w + length c → new ≡ sets ix w c → Moved ix₀ off₀ new (set off s w) cells e to (s + 1)
    moved_step e new fits qe q = record {
      written = ap (take e) new_is ∙ take_at (take w ix ++ c) (drop (w + length c) ix) e head ∙ rw m.written (sym (joined_take cells s (omega arith)));
      counted = qe ∙ rw (joined_take cells s (omega arith), length-append, ← m.counted);
      ahead = tail;
      starts = off_is;
    }
      where
        room : w + length c ≤ length ix
        room = omega (arith, g.low, region_within)

        new_is : new ≡ take w ix ++ c ++ drop (w + length c) ix
        new_is = q ∙ sets-eq c ix w room

        head : length (take w ix ++ c) ≡ e
        head = length-append (take w ix) c ∙ rw (length-take-le w ix (omega (arith, room))) (sym qe)

        tail : drop to new ≡ drop to ix₀
        tail =
            let j = to - from in
            let qj : from + j ≡ to = omega (arith, region_within.0) in
            ap (drop to) q ∙ drop_sets to c ix w (omega (arith, g.low, region_within.0))
            ∙ subst (λ x. drop x ix ≡ drop x ix₀) qj (sym (drop-drop j from ix) ∙ ap (drop j) m.ahead ∙ drop-drop j from ix₀)

        off_is : set off s w ≡ take (s + 1) (offsets_from 0 cells) ++ drop (s + 1) off₀
        off_is =
            let p = take s (offsets_from 0 cells) in
            let lp : length p ≡ s = length-take-le s (offsets_from 0 cells) (rw (offsets_length 0 cells) (omega arith)) in
            let at : get_or (offsets_from 0 cells) s 0 ≡ w = offsets_at 0 cells s (omega arith) ∙ zero-add _ ∙ sym m.counted in
            let ts : take (suc s) (offsets_from 0 cells) ≡ p ++ (w ∷ []) = rw (← at) (take-suc (offsets_from 0 cells) s 0 (rw (offsets_length 0 cells) (omega arith))) in
            rw (add-one, ts, append_assoc, m.starts, drop-cons off₀ s 0 (omega (arith, r.long)))
            (set_at p (get_or off₀ s 0) (drop (suc s) off₀) w s lp)

-- what is written ends before the regions do, and so within the list
pub compacting_below : (ix₀ off₀ ix off : List ℕ) (n w from s : ℕ) → Compacting ix₀ off₀ ix off n w from s → StartsRise off₀ n (length ix₀) → w ≤ get_or off₀ n 0
compacting_below ix₀ off₀ ix off n w from s g r =
    let last : StartsRise off₀ n (get_or off₀ n 0) = record { long = r.long; rise = r.rise; within = omega arith } in
    omega (arith, g.low, g.place, rising_all off₀ n (get_or off₀ n 0) s last g.within)

pub compacting_within : (ix₀ off₀ ix off : List ℕ) (n w from s : ℕ) → Compacting ix₀ off₀ ix off n w from s → StartsRise off₀ n (length ix₀) → w ≤ length ix₀
compacting_within ix₀ off₀ ix off n w from s g r = omega (arith, g.low, g.place, rising_all off₀ n (length ix₀) s r g.within)

-- the last offset
module _ (ix₀ off₀ ix off : List ℕ) (n w from s : ℕ) (g : Compacting ix₀ off₀ ix off n w from s) (h : n ≤ s) (r : StartsRise off₀ n (length ix₀))
    (cells : List (List ℕ)) (all : length cells ≡ n) (m : Moved ix₀ off₀ ix off cells w from s) where
  whole : take s cells ≡ cells
  whole = take_all s cells (omega arith)

  pub moved_end : Compacted ix₀ off₀ cells ix (set off n w) w
  moved_end = record { counted = rw (← whole) m.counted; moved = rw (← whole) m.written; offsets = off_is }
    where
      off_is : set off n w ≡ offsets_from 0 cells ++ drop (suc (length cells)) off₀
      off_is =
          let q : s ≡ n = omega (arith, g.within) in
          let p = take n (offsets_from 0 cells) in
          let lp : length p ≡ n = length-take-le n (offsets_from 0 cells) (rw (offsets_length 0 cells) (omega arith)) in
          let at : get_or (offsets_from 0 cells) n 0 ≡ w = offsets_at 0 cells n (omega arith) ∙ zero-add _ ∙ rw (← q) (sym m.counted) in
          let ts : take (suc n) (offsets_from 0 cells) ≡ p ++ (w ∷ []) = rw (← at) (take-suc (offsets_from 0 cells) n 0 (rw (offsets_length 0 cells) (omega arith))) in
          let tw : take (suc n) (offsets_from 0 cells) ≡ offsets_from 0 cells = take_all (suc n) (offsets_from 0 cells) (rw (offsets_length 0 cells) (omega arith)) in
          let st : off ≡ p ++ drop n off₀ = subst (λ k. off ≡ take k (offsets_from 0 cells) ++ drop k off₀) q m.starts in
          let e : set off n w ≡ p ++ w ∷ drop (suc n) off₀ = rw (st, drop-cons off₀ n 0 r.long) (set_at p (get_or off₀ n 0) (drop (suc n) off₀) w n lp) in
          e ∙ sym (append_assoc p (w ∷ []) (drop (suc n) off₀)) ∙ rw (← ts, tw, all)
