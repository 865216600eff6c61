-- Theorem: a float of which a whole number of the profile is read is that number, so the sites of a form that are on the grid are their whole numbers.
use Rattle.std.specs.Prelude.{◌≡◌, ℕ, ◌/◌, ◌%◌, ◌<◌, Bool, true, false, ◌⊎◌, List, length, ℤ, pos, negsuc, int_lt, slice_index_or, unsigned_abs, refl, Float}
use Rattle.std.proofs.Common.{sym, subst, inl, inr, ⊎_elim, lt_of_lt_of_le, arith, leb-true, lit≤}
use Rattle.std.specs.Float.{nan, fin, binary64}
use Rattle.std.specs.Float.Ieee.{of_int, to_signed, le, lt, eq}
use Rattle.std.proofs.lemmas.List.{length-map}
use Rattle.base.specs.common.Pick.{pick}
use Rattle.base.specs.common.laws.Decide.{lt_or_ge}
use Rattle.plane.specs.points.Rules.{ok_coord}
use Rattle.grid.specs.Plane.{Within, WithinAt}
use Rattle.grid.specs.floats.Equal.{minus, value}
use Rattle.nearest_laws.specs.Admitted.{signed, IsWhole, AreWhole}
use Rattle.nearest_laws.specs.Ends.{low}
use Rattle.nearest.specs.whole_sites.Whole.{whole_kept, whole_number, wholes_of}
use Rattle.nearest.specs.whole_sites.laws.Filled.{whole_at}
use Rattle.nearest.specs.corners.laws.Exact.{eq_value}

-- beyond the profile, or the float of the number equals x
abbrev Told : Float → ℤ → Type 0
Told x r = (r ≡ pos 8193) ⊎ (eq (of_int binary64 r) x ≡ true)

kept_or : (x : Float) (v : ℤ) → Told x (whole_kept v x)
unfolding whole_kept
kept_or x v = go (int_lt v (negsuc 8191)) (int_lt (pos 8192) v) (eq (of_int binary64 v) x) refl
  where
    go : (a b c : Bool) → eq (of_int binary64 v) x ≡ c → Told x (pick a (λ _. pos 8193) (λ _. pick b (λ _. pos 8193) (λ _. pick c (λ _. v) (λ _. pos 8193))))
    go true b c q = inl refl
    go false true c q = inl refl
    go false false true q = inr q
    go false false false q = inl refl

whole_or : (x : Float) → Told x (whole_number x)
unfolding whole_number
whole_or x = go (le (fin true 1 (pos 63)) x) (lt x (fin false 1 (pos 63)))
  where
    go : (a b : Bool) → Told x (pick a (λ _. pick b (λ _. whole_kept (to_signed 63 x) x) (λ _. pos 8193)) (λ _. pos 8193))
    go true true = kept_or x (to_signed 63 x)
    go true false = inl refl
    go false b = inl refl

own_sign : (z : ℤ) → signed (minus z) (unsigned_abs z) ≡ z
own_sign (pos n) = refl
own_sign (negsuc n) = refl

zero_sign : (t : Bool) (z : ℤ) → unsigned_abs z ≡ 0 → signed t (unsigned_abs z) ≡ z
zero_sign true (pos n) h = rw h
zero_sign false (pos n) h = refl
zero_sign t (negsuc n) h = absurd (omega arith)

pub whole_value : (x : Float) → Within (whole_number x) → IsWhole (whole_number x) x
whole_value x w = go (whole_number x) w (whole_or x)
  where
    go : (z : ℤ) → Within z → Told x z → IsWhole z x
    go z w (inl q) = let h = leb-true 8193 8192 (subst Within q w).below in absurd (omega arith)
    go z w (inr q) =
        let v = eq_value (of_int binary64 z) x (minus z) (unsigned_abs z) 1 q (value z w) in
        record { minus = v.0; sign = ⊎_elim (λ e. rw e (own_sign z)) (λ e. zero_sign v.0 z e) v.2; value = v.1 }

-- ---- all of them
module _ (sites : List Float) (even : length sites % 2 ≡ 0) (all : (s : ℕ) → s < length (wholes_of sites) / 2 → WithinAt (wholes_of sites) s) where
  inside : (i : ℕ) → i < length sites → Within (whole_number (slice_index_or sites i nan))
  inside i l =
      let w = all (i / 2) (omega (arith, even, l, length-map sites whole_number)) in
      subst Within (sym (whole_at sites i l))
      (⊎_elim
      (λ q. subst (λ j. Within (slice_index_or (wholes_of sites) j (pos 0))) (omega (arith, q)) w.0)
      (λ q. subst (λ j. Within (slice_index_or (wholes_of sites) j (pos 0))) (omega (arith, q)) w.1)
      (half i))
    where
      half : (i : ℕ) → (i % 2 ≡ 0) ⊎ (i % 2 ≡ 1)
      half i = ⊎_elim (λ l. inl (omega arith)) (λ l. inr (omega arith)) (lt_or_ge (i % 2) 1)

  pub sites_whole : AreWhole (wholes_of sites) sites
  sites_whole = record {
    many = sym (length-map sites whole_number);
    each = λ i l.
        let h : i < length sites = rw (length-map sites whole_number) at l in
        subst (λ z. IsWhole z (slice_index_or sites i nan)) (whole_at sites i h) (whole_value (slice_index_or sites i nan) (inside i h));
  }

  -- they keep rule 6
  pub coordinate_kept : (i : ℕ) → i < length sites → ok_coord (slice_index_or sites i nan) ≡ true
  coordinate_kept i l =
      let w = whole_value (slice_index_or sites i nan) (inside i l) in
      low (slice_index_or sites i nan) w.minus (unsigned_abs (whole_number (slice_index_or sites i nan))) 0 (lt_of_lt_of_le (small _ (inside i l)) (lit≤ tt)) w.value
    where
      small : (v : ℤ) → Within v → unsigned_abs v < 8193
      small (pos n) w = let h = leb-true n 8192 w.below in omega arith
      small (negsuc n) w = let h = leb-true n 8191 w.above in omega arith
