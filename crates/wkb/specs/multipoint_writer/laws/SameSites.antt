-- Two lists of sites by their points, a file's length, and a pattern that is written as it was read.
use Rattle.std.specs.Prelude.{◌≡◌, refl, Bool, true, List, ℕ, ◌+◌, ◌*◌, ◌/◌, ◌%◌, ◌^◌, ◌<◌, length, get_or, Float}
use Rattle.std.proofs.Common.{sym, ap, ◌∙◌, subst, ⊎_elim, arith, ext_get_or}
use Rattle.std.specs.Float.{nan, binary64}
use Rattle.std.specs.Float.Ieee.{of_bits, to_bits}
use Rattle.std.specs.Float.Ieee.Bits.{to_bits-of_bits}
use Rattle.base.specs.common.laws.Decide.{eq_or_ne}
use Rattle.root.specs.Bounded.{Bounded}
use Rattle.root.specs.laws.Bounds.{bounded_finite, finite_no_nan}
use Rattle.plane.specs.points.Flat.{point_at}
use Rattle.plane.specs.declared.points.Point.{Point}
use Rattle.wkb.specs.multipoint.MultiPoint.{file_point}
use Rattle.wkb.specs.multipoint.Promise.{firsts, entry_of, ReadAnswer}
use Rattle.wkb.specs.multipoint.laws.Firsts.{length_firsts}
use Rattle.wkb.specs.multipoint.laws.Shapes.{file_length}
use Rattle.wkb.specs.multipoint_writer.Promise.{site_point, file_of}

-- the numbers of two lists, by their points
pub same_points : (l m : List Float) (n : ℕ) → length l ≡ 2 * n → length m ≡ 2 * n → ((i : ℕ) → i < n → point_at l i ≡ point_at m i) → l ≡ m
same_points l m n e f h = ext_get_or nan l m (e ∙ sym f) go
  where
    go : (k : ℕ) → k < length l → get_or l k nan ≡ get_or m k nan
    go k b =
        ⊎_elim
        (λ z. let q : 2 * (k / 2) ≡ k = omega arith in subst (λ (j : ℕ). get_or l j nan ≡ get_or m j nan) q (ap (λ (p : Point). p.x) (h (k / 2) (omega arith))))
        (λ z. let q : 2 * (k / 2) + 1 ≡ k = omega arith in subst (λ (j : ℕ). get_or l j nan ≡ get_or m j nan) q (ap (λ (p : Point). p.y) (h (k / 2) (omega arith))))
        (eq_or_ne (k % 2) 0)

pub file_size : (sites : List Float) → length (file_of sites) ≡ 9 + 21 * (length sites / 2)
file_size sites =
    omega (arith, file_length true (firsts (site_point sites) (length sites / 2)), length_firsts (site_point sites) (length sites / 2))

pub pattern_back : (x : ℕ) → x < 2 ^ 64 → Bounded 100 (of_bits binary64 x) → to_bits binary64 (of_bits binary64 x) ≡ x
pattern_back x h b = to_bits-of_bits binary64 x h (finite_no_nan (of_bits binary64 x) (bounded_finite (of_bits binary64 x) 100 b))

pub file_point_is : {b c : Bool} {x y u v : ℕ} → b ≡ c → x ≡ u → y ≡ v → file_point b x y ≡ file_point c u v
file_point_is p q r = rw (p, q, r) refl

pub read_length : (s : List ℕ) {old new : List Float} {k : ℕ} → ReadAnswer s old new k 0 → length new ≡ length old
read_length s {old} a = ap length a.sites ∙ length_firsts (entry_of s) (length old)
