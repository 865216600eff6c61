-- The entries of a stage laid into a list one by one, and the same turned round as they are put there the other way round (`putting_end`).
use Rattle.std.specs.Prelude.{◌≡◌, false, None, List, ltb, length, set}
use Rattle.std.proofs.Math.Path.{refl, ap}
use Rattle.std.proofs.Common.{sym, ◌∙◌, arith, le-ltb, length-set, ext_get_or}
use Rattle.std.proofs.Math.Logic.{⊎_elim}
use Prim.Native.Nat.{ℕ, zero, suc, ◌+◌, ◌-◌, ◌≤◌, ◌<◌}
use Rattle.std.proofs.Math.ListN.{get_or}
use Rattle.std.proofs.Math.Seq.{get_or-set_same, get_or-set_other}
use Rattle.base.specs.common.laws.Decide.{lt_or_ge, eq_or_ne}
use Rattle.plane.specs.declared.points.Point.{Point}
use Rattle.cutting.specs.declared.pen.Pen.{Pen}
use Rattle.cutting.specs.pen.Pen.{same_place}
use Rattle.cutting_writer.specs.turn.Turned.{turned_round}
use Rattle.cutting_writer.specs.turn.laws.Turning.{turned_length, before_part, in_part, after_part}
use Rattle.cutting_writer.specs.end.Ended.{closed_at, kept_at, pen_ended}
use Rattle.cutting_writer.specs.copied.Copied.{laid_to, pen_in}

pub laid_long : (stage : List ℕ) (at n : ℕ) (ix : List ℕ) → length (laid_to stage at n ix) ≡ length ix
unfolding laid_to
laid_long stage at zero ix = refl
laid_long stage at (suc n) ix = length-set (laid_to stage at n ix) (at + n) (get_or stage n 0) ∙ laid_long stage at n ix

-- what is not reached yet may change
pub laid_ahead : (stage : List ℕ) (at n : ℕ) (ix : List ℕ) (k q : ℕ) → n ≤ k → laid_to (set stage k q) at n ix ≡ laid_to stage at n ix
unfolding laid_to
laid_ahead stage at zero ix k q h = refl
laid_ahead stage at (suc n) ix k q h =
    let a : laid_to (set stage k q) at n ix ≡ laid_to stage at n ix = laid_ahead stage at n ix k q (omega arith) in
    let b : get_or (set stage k q) n 0 ≡ get_or stage n 0 = get_or-set_other stage k n q 0 (λ z. omega arith) in
    λ i. set (a i) (at + n) (b i)

-- one more
pub laid_step : (stage : List ℕ) (at n : ℕ) (ix : List ℕ) (q : ℕ) → n < length stage → laid_to (set stage n q) at (suc n) ix ≡ set (laid_to stage at n ix) (at + n) q
unfolding laid_to
laid_step stage at n ix q h =
    let a : laid_to (set stage n q) at n ix ≡ laid_to stage at n ix = laid_ahead stage at n ix n q (omega arith) in
    let b : get_or (set stage n q) n 0 ≡ q = get_or-set_same stage n q 0 h in
    λ i. set (a i) (at + n) (b i)

module _ (stage : List ℕ) (at : ℕ) (ix : List ℕ) where
  pub laid_before : (n k : ℕ) → k < at → get_or (laid_to stage at n ix) k 0 ≡ get_or ix k 0
  unfolding laid_to
  laid_before zero k h = refl
  laid_before (suc n) k h = get_or-set_other (laid_to stage at n ix) (at + n) k (get_or stage n 0) 0 (λ z. omega arith) ∙ laid_before n k h

  pub laid_after : (n k : ℕ) → at + n ≤ k → get_or (laid_to stage at n ix) k 0 ≡ get_or ix k 0
  unfolding laid_to
  laid_after zero k h = refl
  laid_after (suc n) k h = get_or-set_other (laid_to stage at n ix) (at + n) k (get_or stage n 0) 0 (λ z. omega arith) ∙ laid_after n k (omega arith)

  pub laid_in : (n k : ℕ) → k < n → at + n ≤ length ix → get_or (laid_to stage at n ix) (at + k) 0 ≡ get_or stage k 0
  unfolding laid_to
  laid_in zero k h r = absurd (omega arith)
  laid_in (suc n) k h r =
      ⊎_elim
      (λ z. ap (λ (m : ℕ). get_or (set (laid_to stage at n ix) (at + n) (get_or stage n 0)) (at + m) 0) z
      ∙ get_or-set_same (laid_to stage at n ix) (at + n) (get_or stage n 0) 0 (omega (arith, laid_long stage at n ix))
      ∙ ap (λ (m : ℕ). get_or stage m 0) (sym z))
      (λ z. get_or-set_other (laid_to stage at n ix) (at + n) (at + k) (get_or stage n 0) 0 (λ y. z (omega arith)) ∙ laid_in n k (omega (arith, z)) (omega arith))
      (eq_or_ne k n)

  -- ---- put there the other way round: the first i of n
  pub record PuttingBack (n i : ℕ) (m : List ℕ) : Type 0 where
    pub some : i ≤ n
    pub long : length m ≡ length ix
    pub put : (k : ℕ) → k < i → get_or m (at + k) 0 ≡ get_or stage (n - 1 - k) 0
    pub before : (k : ℕ) → k < at → get_or m k 0 ≡ get_or ix k 0
    pub after : (k : ℕ) → at + i ≤ k → get_or m k 0 ≡ get_or ix k 0

  module _ (n i : ℕ) (m : List ℕ) (x : PuttingBack n i m) (room : at + n ≤ length ix) where
    pub putting_end : n ≤ i → m ≡ turned_round at (at + n) (laid_to stage at n ix)
    putting_end over = ext_get_or 0 m (turned_round at (at + n) (laid_to stage at n ix)) (x.long ∙ sym (turned_length at (at + n) (laid_to stage at n ix) 0 low high ∙
        laid_long stage at n ix)) (λ k p. ⊎_elim
        (λ h. x.before k h ∙ sym (before_part at (at + n) (laid_to stage at n ix) 0 low high k h ∙ laid_before n k h))
        (λ h. ⊎_elim
        (λ g. middle k h g)
        (λ g. x.after k (omega (arith, x.some)) ∙ sym (after_part at (at + n) (laid_to stage at n ix) 0 low high k g ∙ laid_after n k g))
        (lt_or_ge k (at + n)))
        (lt_or_ge k at))
      where
        low : at ≤ at + n
        low = omega arith

        high : at + n ≤ length (laid_to stage at n ix)
        high = omega (arith, laid_long stage at n ix)

        middle : (k : ℕ) → at ≤ k → k < at + n → get_or m k 0 ≡ get_or (turned_round at (at + n) (laid_to stage at n ix)) k 0
        middle k h g =
            let q : k ≡ at + (k - at) = omega arith in
            let z : at + (at + n) - 1 - k ≡ at + (n - 1 - (k - at)) = omega arith in
            ap (λ (j : ℕ). get_or m j 0) q
            ∙ x.put (k - at) (omega arith)
            ∙ sym (laid_in n (n - 1 - (k - at)) (omega arith) room)
            ∙ sym (in_part at (at + n) (laid_to stage at n ix) 0 low high k h g ∙ ap (λ (j : ℕ). get_or (laid_to stage at n ix) j 0) z)

-- ---- the end of a piece with no place twice and at least three
pub lap_ended : (pen : Pen) (n : ℕ) (first last : Point) → same_place first last ≡ false → 3 ≤ n
    → record { at = pen.at + n; count = pen.count; ends = None } ≡ pen_ended pen.at (pen_in pen n first last)
unfolding closed_at kept_at
lap_ended pen n first last apart many =
    let a : ltb (pen.at + n - pen.at) 2 ≡ false = le-ltb (pen.at + n - pen.at) 2 (omega arith) in
    let b : ltb (pen.at + n - pen.at) 3 ≡ false = le-ltb (pen.at + n - pen.at) 3 (omega arith) in
    rw (a, apart, b) refl
