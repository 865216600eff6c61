-- Theorem: a byte string is read exactly where it is a MultiPoint within the limits, written by `multi_point` from marks and patterns; and the sites are its points, whatever
-- their marks.
use Rattle.std.specs.Prelude.{◌≡◌, Bool, ◌↔◌, ℕ, ◌+◌, ◌*◌, ◌/◌, ◌%◌, ◌≤◌, ◌<◌, length, Float}
use Rattle.std.proofs.Math.Path.{refl, ap}
use Rattle.std.proofs.Common.{sym, ◌∙◌, subst, ⊎_elim, arith, rules, lt-ltb}
use Rattle.std.proofs.Math.Bool.{true}
use mathlib.Core.List.{List}
use Rattle.std.proofs.Math.ListN.{get_or}
use Rattle.std.specs.Float.Ieee.{nan, binary64, of_bits}
use Rattle.base.specs.common.Refusals.{Keep}
use Rattle.base.specs.common.laws.Decide.{eq_or_ne}
use Rattle.base.specs.common.laws.And.{and_left, and_right, and_both}
use Rattle.base.specs.common.laws.Refusals.{finds_one, finds_none, finds_keep}
use Rattle.plane.specs.points.Plane.{at}
use Rattle.plane.specs.points.Flat.{point_at}
use Rattle.plane.specs.points.Rules.{ok_coord, ok_site}
use Rattle.plane.specs.declared.points.Point.{Point}
use Rattle.octets.specs.Bytes.{Bytes}
use Rattle.wkb.specs.multipoint.MultiPoint.{FilePoint, file_point, Patterned, multi_point}
use Rattle.wkb.specs.multipoint.Fields.{little_of, point_count, Shape, file_pattern, coordinate_of}
use Rattle.wkb.specs.multipoint.Promise.{SiteLimits, read_rules, firsts, entry_of, sites_after, read_count, ReadAnswer}
use Rattle.wkb.specs.multipoint.laws.Firsts.{length_firsts, get_d_firsts}
use Rattle.wkb.specs.multipoint.laws.Shapes.{file_shape, file_count, pattern_x, pattern_y, point_of, file_points, here_x, here_y, shape_file, points_fit}

-- point i of a file, and the site that it is
abbrev pub point_in : List FilePoint → ℕ → FilePoint
point_in ps i = get_or ps i (file_point true 0 0)

abbrev pub site_of : FilePoint → Point
site_of p = at (of_bits binary64 p.x) (of_bits binary64 p.y)

-- a MultiPoint of 3 to 65,536 points that keep rule 6, for which there is room
pub record Readable (s : List ℕ) (room : ℕ) : Type 0 where
  pub little : Bool
  pub points : List FilePoint
  pub file : s ≡ multi_point little points
  pub patterns : (i : ℕ) → i < length points → Patterned (point_in points i)
  pub limits : SiteLimits (length points)
  pub enough : 2 * length points ≤ room
  pub kept : (i : ℕ) → i < length points → ok_site (site_of (point_in points i)) ≡ true

pub point_is : {x y u v : Float} → x ≡ u → y ≡ v → at x y ≡ at u v
point_is p q = rw (p, q) refl

-- the sites of an output are these points
abbrev pub Sites : List FilePoint → List Float → Type 0
Sites ps new = (i : ℕ) → i < length ps → point_at new i ≡ site_of (point_in ps i)

-- ---- such a file is read
module _ (s : List ℕ) (room : ℕ) (m : Readable s room) where
  counted : point_count s ≡ length m.points
  counted = ap point_count m.file ∙ file_count m.little m.points (omega (arith, m.limits.few))

  shape : Shape s
  shape = rw m.file (file_shape m.little m.points (omega (arith, m.limits.few)))

  module _ (i : ℕ) (h : i < length m.points) where
    is_x : coordinate_of s (2 * i) ≡ (site_of (point_in m.points i)).x
    is_x = ap (of_bits binary64) (ap (λ (t : List ℕ). file_pattern t (2 * i)) m.file ∙ pattern_x m.little m.points i (file_point true 0 0) h (m.patterns i h))

    is_y : coordinate_of s (2 * i + 1) ≡ (site_of (point_in m.points i)).y
    is_y = ap (of_bits binary64) (ap (λ (t : List ℕ). file_pattern t (2 * i + 1)) m.file ∙ pattern_y m.little m.points i (file_point true 0 0) h (m.patterns i h))

    kept_x : ok_coord (coordinate_of s (2 * i)) ≡ true
    unfolding ok_site
    kept_x = ap ok_coord is_x ∙ and_left (ok_coord (site_of (point_in m.points i)).x) (ok_coord (site_of (point_in m.points i)).y) (m.kept i h)

    kept_y : ok_coord (coordinate_of s (2 * i + 1)) ≡ true
    unfolding ok_site
    kept_y = ap ok_coord is_y ∙ and_right (ok_coord (site_of (point_in m.points i)).x) (ok_coord (site_of (point_in m.points i)).y) (m.kept i h)

  kept_each : (k : ℕ) → k < 2 * point_count s → ok_coord (coordinate_of s k) ≡ true
  kept_each k h =
      let half : k / 2 < length m.points = omega (arith, counted) in
      ⊎_elim
      (λ z. let e : 2 * (k / 2) ≡ k = omega arith in subst (λ (j : ℕ). ok_coord (coordinate_of s j) ≡ true) e (kept_x (k / 2) half))
      (λ z. let e : 2 * (k / 2) + 1 ≡ k = omega arith in subst (λ (j : ℕ). ok_coord (coordinate_of s j) ≡ true) e (kept_y (k / 2) half))
      (eq_or_ne (k % 2) 0)

  keep : Keep (read_rules s room)
  keep = (shape, (rw counted m.limits, (omega (arith, counted, m.enough), (record { each = kept_each }, tt))))

  module _ {old new : List Float} {k r : ℕ} (long : length old ≡ room) (a : ReadAnswer s old new k r) where
    pub reads : r ≡ 0
    reads = finds_one a.number (finds_none (rw long keep))

    pub reads_count : k ≡ length m.points
    reads_count = a.counted ∙ ap (read_count s) reads ∙ counted

    listed : new ≡ firsts (entry_of s) (length old)
    listed = a.sites ∙ ap (sites_after s old) reads

    there : (j : ℕ) → j < 2 * length m.points → get_or new j nan ≡ coordinate_of s j
    unfolding entry_of
    there j h =
        ap (λ (l : List Float). get_or l j nan) listed
        ∙ get_d_firsts (entry_of s) (length old) j nan (omega (arith, m.enough))
        ∙ rw (lt-ltb j (2 * point_count s) (omega (arith, counted))) refl

    pub reads_points : Sites m.points new
    reads_points i h = point_is (there (2 * i) (omega arith) ∙ is_x i h) (there (2 * i + 1) (omega arith) ∙ is_y i h)

-- ---- and no other is
module _ (s : List ℕ) (b : Bytes s) {old new : List Float} {k : ℕ} (a : ReadAnswer s old new k 0) where
  all : Keep (read_rules s (length old))
  all = finds_keep (λ n. n ≡ 0) (search rules) refl a.number

  is_point : (i : ℕ) → i < point_count s → point_in (file_points s) i ≡ point_of s i
  is_point i h = get_d_firsts (point_of s) (point_count s) i (file_point true 0 0) h

  pub readable : Readable s (length old)
  unfolding ok_site
  readable =
      let n = length_firsts (point_of s) (point_count s) in
      record {
        little = little_of s;
        points = file_points s;
        file = shape_file s b all.0;
        patterns = λ i h. points_fit s b all.0 i (file_point true 0 0) (omega (arith, n));
        limits = rw n all.1.0;
        enough = omega (arith, n, all.1.1.0);
        kept = λ i h.
            let c : i < point_count s = omega (arith, n) in
            let sound = all.1.1.1.0.each in
            let x : ok_coord (site_of (point_of s i)).x ≡ true = ap (λ (v : ℕ). ok_coord (of_bits binary64 v)) (sym (here_x s i)) ∙ sound (2 * i) (omega arith) in
            let y : ok_coord (site_of (point_of s i)).y ≡ true = ap (λ (v : ℕ). ok_coord (of_bits binary64 v)) (sym (here_y s i)) ∙ sound (2 * i + 1) (omega arith) in
            rw (is_point i c) (and_both (ok_coord (site_of (point_of s i)).x) (ok_coord (site_of (point_of s i)).y) x y);
      }

-- 0 is answered exactly to the MultiPoints within the limits
pub read_exactly : (s : List ℕ) → Bytes s → {old new : List Float} {k r : ℕ} → ReadAnswer s old new k r → (r ≡ 0) ↔ Readable s (length old)
read_exactly s b {old} {new} {k} {r} a = (λ e. readable s b (rw e at a), λ m. reads s (length old) m refl a)

-- and what is read are its points: as many, each in its place, to the bit, whatever the marks
pub read_points_lem : (s : List ℕ) {old new : List Float} {k r : ℕ} (m : Readable s (length old)) → ReadAnswer s old new k r → (k ≡ length m.points) × Sites m.points new
read_points_lem s {old} m a = (reads_count s (length old) m refl a, reads_points s (length old) m refl a)
