-- Theorem: what is written is read as the same sites; and a file that is read and is little-endian throughout is written again as the same bytes.
use Rattle.std.specs.Prelude.{◌≡◌, Bool, List, ℕ, ◌+◌, ◌*◌, ◌/◌, ◌≤◌, ◌<◌, T, get_or, take, Float}
use Rattle.std.proofs.Math.Path.{refl, ap}
use Rattle.std.proofs.Common.{sym, ◌∙◌, arith, get_or-take, rules}
use Rattle.std.proofs.Math.Bool.{true}
use Rattle.std.proofs.Math.ListN.{length}
use Rattle.std.proofs.Math.Seq.{length-take-le}
use Rattle.std.specs.Float.Ieee.{nan, binary64, fits, to_bits}
use Rattle.std.specs.Float.Ieee.Bits.{of_bits-to_bits, to_bits-lt}
use Rattle.base.specs.common.Refusals.{Keep}
use Rattle.base.specs.common.laws.Refusals.{finds_one, finds_none, finds_keep}
use Rattle.plane.specs.points.Flat.{point_at}
use Rattle.plane.specs.points.Rules.{ok_site}
use Rattle.plane.specs.points.Finite.{BoundedPoint, site_bounded}
use Rattle.plane.specs.declared.points.Point.{Point}
use Rattle.octets.specs.laws.Wrote.{wrote_all}
use Rattle.wkb.specs.multipoint.MultiPoint.{file_point, Patterned, multi_point}
use Rattle.wkb.specs.multipoint.Promise.{firsts, ReadAnswer}
use Rattle.wkb.specs.multipoint.Exactly.{point_in, site_of, point_is, Readable, Sites, reads, read_points_lem}
use Rattle.wkb.specs.multipoint.laws.Firsts.{length_firsts, get_d_firsts, is_firsts}
use Rattle.wkb.specs.multipoint_writer.Promise.{write_rules, site_point, file_of, WriteAnswer}
use Rattle.wkb.specs.multipoint_writer.laws.SameSites.{same_points, file_size, pattern_back, file_point_is, read_length}

-- each is a value of binary64, as every f64 is
abbrev pub Held : List Float → Type 0
Held l = (k : ℕ) → k < length l → T (fits binary64 (get_or l k nan))

-- ---- written, then read
module _ (sites : List Float) (held : Held sites) {out new : List ℕ} {w : ℕ} (a : WriteAnswer sites out new w 0) where
  all : Keep (write_rules sites (length out))
  all = finds_keep (λ k. k ≡ 0) (search rules) refl a.number

  -- the bytes written are the file
  pub written_bytes : take w new ≡ file_of sites
  written_bytes = wrote_all a.output (omega (arith, file_size sites, all.1.1.0))

  back : (i : ℕ) → i < length sites / 2 → site_of (site_point sites i) ≡ point_at sites i
  unfolding site_point
  back i h = point_is (of_bits-to_bits binary64 (get_or sites (2 * i) nan) (held (2 * i) (omega arith))) (of_bits-to_bits binary64 (get_or sites (2 * i + 1) nan) (held (2 * i + 1) (omega arith)))

  fit : (i : ℕ) → i < length sites / 2 → Patterned (site_point sites i)
  unfolding site_point
  fit i h = (to_bits-lt binary64 (get_or sites (2 * i) nan) (held (2 * i) (omega arith)), to_bits-lt binary64 (get_or sites (2 * i + 1) nan) (held (2 * i + 1) (omega arith)))

  module _ {room : ℕ} (enough : length sites ≤ room) where
    many : length (firsts (site_point sites) (length sites / 2)) ≡ length sites / 2
    many = length_firsts (site_point sites) (length sites / 2)

    is : (i : ℕ) → i < length sites / 2 → point_in (firsts (site_point sites) (length sites / 2)) i ≡ site_point sites i
    is i h = get_d_firsts (site_point sites) (length sites / 2) i (file_point true 0 0) h

    pub file_readable : Readable (take w new) room
    file_readable =
        record {
          little = true;
          points = firsts (site_point sites) (length sites / 2);
          file = written_bytes;
          patterns = λ i h. rw (is i (omega (arith, many))) (fit i (omega (arith, many)));
          limits = rw many all.1.0;
          enough = omega (arith, many);
          kept = λ i h. ap ok_site (ap site_of (is i (omega (arith, many))) ∙ back i (omega (arith, many))) ∙ all.1.1.1.0 i (omega (arith, many));
        }

  -- it is read, as so many sites, and they are the same, bit for bit
  pub written_read : {old got : List Float} {k r : ℕ} → length sites ≤ length old → ReadAnswer (take w new) old got k r
      → (r ≡ 0) × (k ≡ length sites / 2) × (take (length sites) got ≡ sites)
  unfolding file_readable
  written_read {old} {got} {k} {r} h b =
      let m = file_readable h in
      let p = read_points_lem (take w new) m b in
      let half : length sites ≡ 2 * (length sites / 2) = omega (arith, all.0) in
      let zero : r ≡ 0 = reads (take w new) (length old) m refl b in
      let long : length got ≡ length old = read_length (take w new) (rw zero at b) in
      let cut : length (take (length sites) got) ≡ 2 * (length sites / 2) = length-take-le (length sites) got (omega arith) ∙ half in (
        zero,
        p.0 ∙ many h,
        same_points (take (length sites) got) sites (length sites / 2) cut half
            (λ i g. point_is (get_or-take (length sites) got (2 * i) nan (omega arith)) (get_or-take (length sites) got (2 * i + 1) nan (omega arith))
            ∙ p.1 i (omega (arith, many h)) ∙ ap site_of (is h i g) ∙ back i g),
      )

-- ---- read, then written
module _ (s : List ℕ) {old got : List Float} {k : ℕ} (a : ReadAnswer s old got k 0) (m : Readable s (length old)) where
  same : Sites m.points got
  same = (read_points_lem s m a).1

  number : k ≡ length m.points
  number = (read_points_lem s m a).0

  long : length (take (2 * k) got) ≡ 2 * k
  long = length-take-le (2 * k) got (omega (arith, read_length s a, number, m.enough))

  half : length (take (2 * k) got) / 2 ≡ length m.points
  half = omega (arith, long, number)

  point : (i : ℕ) → i < length m.points → point_at (take (2 * k) got) i ≡ site_of (point_in m.points i)
  point i h =
      point_is (get_or-take (2 * k) got (2 * i) nan (omega (arith, number))) (get_or-take (2 * k) got (2 * i + 1) nan (omega (arith, number))) ∙ same i h

  module _ (i : ℕ) (h : i < length m.points) where
    bounded : BoundedPoint 100 (site_of (point_in m.points i))
    bounded = site_bounded (site_of (point_in m.points i)) (m.kept i h)

    bits_x : to_bits binary64 (get_or (take (2 * k) got) (2 * i) nan) ≡ (point_in m.points i).x
    bits_x = ap (λ (p : Point). to_bits binary64 p.x) (point i h) ∙ pattern_back (point_in m.points i).x (m.patterns i h).0 bounded.x

    bits_y : to_bits binary64 (get_or (take (2 * k) got) (2 * i + 1) nan) ≡ (point_in m.points i).y
    bits_y = ap (λ (p : Point). to_bits binary64 p.y) (point i h) ∙ pattern_back (point_in m.points i).y (m.patterns i h).1 bounded.y

  module _ (head : m.little ≡ true) (points : (i : ℕ) → i < length m.points → (point_in m.points i).little ≡ true) where
    as_written : m.points ≡ firsts (site_point (take (2 * k) got)) (length (take (2 * k) got) / 2)
    unfolding site_point
    as_written = is_firsts (site_point (take (2 * k) got)) m.points (length (take (2 * k) got) / 2) (file_point true 0 0) (sym half) each_written
      where
        each_written : (i : ℕ) → i < length (take (2 * k) got) / 2 → point_in m.points i ≡ site_point (take (2 * k) got) i
        each_written i h = let g : i < length m.points = omega (arith, half) in file_point_is (points i g) (sym (bits_x i g)) (sym (bits_y i g))

    as_file : s ≡ file_of (take (2 * k) got)
    as_file = m.file ∙ ap (λ (b : Bool). multi_point b m.points) head ∙ ap (multi_point true) as_written

    -- the sites that were read are written, as the file that they were read from
    pub read_written : {out new : List ℕ} {w r : ℕ} → length s ≤ length out → WriteAnswer (take (2 * k) got) out new w r → (r ≡ 0) × (take w new ≡ s)
    read_written {out} {new} {w} {r} room b =
        let sites = take (2 * k) got in
        let size : length s ≡ 9 + 21 * (length sites / 2) = ap length as_file ∙ file_size sites in
        let keep : Keep (write_rules sites (length out)) = (
          omega (arith, long),
          (
            rw half m.limits,
            (omega arith, (λ i h. ap ok_site (point i (omega (arith, half))) ∙ m.kept i (omega (arith, half)), tt)),
          ),
        ) in
        let zero : r ≡ 0 = finds_one b.number (finds_none keep) in
        let c : WriteAnswer sites out new w 0 = rw zero at b in
        (zero, wrote_all c.output (omega (arith, file_size sites)) ∙ sym as_file)
