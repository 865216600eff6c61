-- The loop over the points: where it stands, and the ends that it has written.
use Rattle.std.specs.Prelude.{◌≡◌, Float}
use Rattle.std.proofs.Math.Path.{refl, sym, ap}
use Rattle.std.proofs.Common.{◌∙◌, add-one}
use mathlib.Core.List.{List, [], ◌∷◌, ◌++◌}
use Prim.Native.Nat.{ℕ, zero, suc, ◌+◌, ◌/◌, ◌≤◌, ◌<◌}
use native.Mathlib.Omega.{arith}
use Rattle.std.proofs.Math.ListN.{length, get_or, set, length-append, get_or-append}
use Rattle.std.proofs.lemmas.List.Edits.{sets}
use Rattle.std.proofs.Math.Seq.{length-sets, get_or-append-add}
use Rattle.std.proofs.Math.Logic.{⊎_elim}
use Rattle.base.specs.common.laws.Decide.{eq_or_ne}
use Rattle.base.specs.common.laws.Stores.{sets_join}
use Rattle.plane.specs.points.Flat.{point_at}
use Rattle.plane.specs.declared.points.Point.{Point}
use Rattle.queries.specs.bulk_ends.Ends.{stands_at, ends_up_to}

module _ (end : Point → ℕ → ℕ) (points : List Float) (s : ℕ) where
  pub ends_length : (k : ℕ) → length (ends_up_to end points s k) ≡ k
  unfolding ends_up_to
  ends_length zero = refl
  ends_length (suc k) = length-append (ends_up_to end points s k) (stands_at end points s (suc k) ∷ []) ∙ omega (arith, ends_length k)

  -- the end of each path: it begins where the last ended
  pub end_at : (k i : ℕ) → i < k → get_or (ends_up_to end points s k) i 0 ≡ end (point_at points i) (stands_at end points s i)
  unfolding ends_up_to stands_at
  end_at zero i h = absurd (omega arith)
  end_at (suc k) i h =
      let ends = ends_up_to end points s k in
      ⊎_elim
      (λ q. let e : i ≡ length ends + 0 = omega (arith, ends_length k) in
      ap (λ (j : ℕ). get_or (ends ++ stands_at end points s (suc k) ∷ []) j 0) e
      ∙ get_or-append-add ends (stands_at end points s (suc k) ∷ []) 0 0 ∙ ap (λ (j : ℕ). end (point_at points j) (stands_at end points s j)) (sym q))
      (λ q. let l : i < k = omega arith in get_or-append ends (stands_at end points s (suc k) ∷ []) 0 i (omega (arith, ends_length k)) ∙ end_at k i l)
      (eq_or_ne i k)

  pub stands_after : (k i : ℕ) → i < k → stands_at end points s (suc i) ≡ get_or (ends_up_to end points s k) i 0
  unfolding stands_at
  stands_after k i h = sym (end_at k i h)

  -- i ends are written, o being the slice at first and n the sites
  pub record Reaching (n : ℕ) (o o' : List ℕ) (at i : ℕ) : Type 0 where
    pub low : i ≤ length points / 2
    pub stands : at ≡ stands_at end points s i
    pub below : at < n
    pub entries : o' ≡ sets o 0 (ends_up_to end points s i)
    pub long : length o' ≡ length o

  pub reaching_start : (n : ℕ) (o : List ℕ) → s < n → Reaching n o o s 0
  unfolding stands_at ends_up_to
  reaching_start n o h = record { low = omega arith; stands = refl; below = h; entries = refl; long = refl }

  pub reaching_step : {n : ℕ} {o o' : List ℕ} {at i r : ℕ} → Reaching n o o' at i → i < length points / 2 → r ≡ end (point_at points i) at → r < n → Reaching n o (set o' i r) r (i + 1)
  unfolding stands_at ends_up_to
  reaching_step {n} {o} {o'} {at} {i} {r} g l q b = rw (add-one i) (record {
    low = l;
    stands = here;
    below = b;
    entries = ap (λ (l : List ℕ). set l i r) g.entries ∙ ap (set (sets o 0 (ends_up_to end points s i)) i) here
        ∙ sets_join (ends_up_to end points s i) (stands_at end points s (suc i) ∷ []) o 0 i (omega (arith, ends_length i));
    long = length-sets o' i (r ∷ []) ∙ g.long;
  })
    where
      here : r ≡ end (point_at points i) (stands_at end points s i)
      here = q ∙ ap (end (point_at points i)) g.stands

  pub reaching_end : {n : ℕ} {o o' : List ℕ} {at i : ℕ} → Reaching n o o' at i → length points / 2 ≤ i → o' ≡ sets o 0 (ends_up_to end points s (length points / 2))
  reaching_end {i = i} g h = let q : i ≡ length points / 2 = omega (arith, g.low) in rw q at g.entries
