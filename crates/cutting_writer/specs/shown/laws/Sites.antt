-- Law: a site's ring, cut, written and closed, leaves entries that stand for its piece by the definition (`site_stands`), and what was written before stays as it was (`site_keeps`).
use Rattle.std.specs.Prelude.{◌≡◌, Bool, true, false, None, List, [], ◌∷◌, map, ◌⊎◌, ltb, Float, length, get_or}
use Rattle.std.proofs.Math.Path.{refl, ap, subst}
use Rattle.std.proofs.Common.{◌∙◌, inl, inr, arith, get_or-set_other, lt-ltb, le-ltb, ltb-false}
use Rattle.std.proofs.Math.Logic.{⊎_elim}
use Prim.Native.Nat.{ℕ, zero, suc, ◌+◌, ◌-◌, ◌*◌, ◌/◌, ◌≤◌, ◌<◌}
use Rattle.std.specs.Float.{nan}
use Rattle.base.specs.common.Pick.{pick}
use Rattle.base.specs.common.laws.Decide.{lt_or_ge}
use Rattle.base.specs.numbers.Numbers.{EMPTY}
use Rattle.plane.specs.points.Flat.{point_at}
use Rattle.plane.specs.declared.points.Point.{Point}
use Rattle.plane.specs.declared.boxes.BoundingBox.{BoundingBox}
use Rattle.mesh.specs.Mesh.{next_of, turn_of, walk_of, whole_of}
use Rattle.mesh.specs.laws.WalkSteps.{walk_go, walk_done}
use Rattle.cutting.specs.cuts.Rings.{At}
use Rattle.cutting.specs.cuts.Stream.{feed_all}
use Rattle.cutting.specs.cuts.Written.{written_ring}
use Rattle.cutting.specs.rings.Names.{on_hull}
use Rattle.cutting.specs.rings.laws.Closing.{next_third}
use Rattle.cutting.specs.corner.Corner.{circle_center, far_at}
use Rattle.cutting.specs.declared.corner.Corner.{Corner}
use Rattle.cutting.specs.declared.corner.Carrier.{Carrier}
use Rattle.cutting.specs.declared.corner.Carrier.TheVariants.{Infinity}
use Rattle.cutting.specs.sides.Area.{places_of}
use Rattle.cutting.specs.whole.Whole.{bisector_of}
use Rattle.cutting.specs.border.Border.{toward_of}
use Rattle.cutting.specs.declared.pen.Pen.{Pen}
use Rattle.cutting.specs.pen.Pen.{same_place, number_for, repeats, Page, written_as, inked}
use Rattle.cutting.specs.pen.Room.{Roomy}
use Rattle.cutting_writer.specs.turn.laws.Turning.{before_part}
use Rattle.cutting_writer.specs.end.Ended.{closes, closed_at, kept_at, ended}
use Rattle.cutting_writer.specs.stream.Stages.{Ring, ink_at, cut_four}
use Rattle.cutting_writer.specs.stream.laws.Stages.{all_grows, ink_grows}
use Rattle.cutting_writer.specs.site.Ring.{out_at, ray_of, far_of, last_or, site_ring}
use Rattle.cutting_writer.specs.site.laws.Walk.{last_in}
use Rattle.cutting_writer.specs.sites.Pieces.{site_ink, site_cut}
use Rattle.cutting_writer.specs.join.laws.Shown.{CornersIn, Based, point_kept}
use Rattle.cutting_writer.specs.shown.laws.Inking.{EntriesStand, AllNumbered, inked_all}
use Rattle.cutting_writer.specs.shown.laws.Ended.{ended_stands}
use Rattle.cutting_writer.specs.shown.laws.Numbers.{ring_numbered}

-- ---- a ring reads the circumcenters alone
module _ (sites : List Float) (tri he : List ℕ) (centers : ℕ) (v w : List Float) (thirds : length he ≤ 3 * centers) (same : (n : ℕ) → n < centers → point_at w n ≡ point_at v n) (t : ℕ) where
  no_walk : (e : ℕ) → walk_of he t zero e ≡ []
  unfolding walk_of
  no_walk e = refl

  both : {x y : At Corner Carrier} {l m : Ring} → x ≡ y → l ≡ m → x ∷ l ≡ y ∷ m
  both p q = λ i. p i ∷ q i

  outs_same : (k e : ℕ) → map (out_at tri w) (walk_of he t k e) ≡ map (out_at tri v) (walk_of he t k e)
  outs_same zero e = rw (no_walk e) refl
  outs_same (suc k) e = ⊎_elim
      (λ i. rw (walk_go he t k e i)
      (both (ap (λ (p : Point). record { corner = circle_center p (e / 3); on = bisector_of tri (next_of e) }) (same (e / 3) (omega arith))) (outs_same k (turn_of he t e))))
      (λ i. rw (walk_done he t (suc k) e i) refl)
      (lt_or_ge e (length he))

  ray_same : t < length he → ray_of sites tri he w t ≡ ray_of sites tri he v t
  unfolding ray_of
  ray_same l =
      ap (λ (p : Point). pick {A = Ring} (on_hull he t) (λ _. record { corner = far_at p (toward_of sites tri t); on = bisector_of tri t } ∷ []) (λ _. [])) (same (t / 3) (omega arith))

  far_same : (e : ℕ) → e < length he → far_of sites tri he w e ≡ far_of sites tri he v e
  unfolding far_of
  far_same e l =
      ap (λ (p : Point). pick {A = Ring} (on_hull he (next_of e)) (λ _. record { corner = far_at p (toward_of sites tri (next_of e)); on = Infinity } ∷ []) (λ _. []))
      (same (next_of e / 3) (omega (arith, next_third e)))

  pub ring_same : site_ring sites tri he w t ≡ site_ring sites tri he v t
  unfolding site_ring
  ring_same = ⊎_elim
      (λ l. rw (lt-ltb t (length he) l, ray_same l, outs_same (length he) t, far_same (last_or t (whole_of he t)) (last_in he t (length he) t t l)) refl)
      (λ l. rw (le-ltb t (length he) l) refl)
      (lt_or_ge t (length he))

-- ---- closing
none_stands : (g : Page) → EntriesStand g.pen.at [] (ended g.pen.at g)
unfolding closed_at kept_at
none_stands g = record {
  at = rw (lt-ltb (g.pen.at - g.pen.at) 2 (omega arith), lt-ltb (g.pen.at - g.pen.at) 3 (omega arith)) (omega arith);
  shown = λ k l. absurd (omega arith);
}

closed_most : (begin : ℕ) (pen : Pen) → closed_at begin pen ≤ pen.at
unfolding closed_at
closed_most begin pen = go (ltb (pen.at - begin) 2) (closes pen.ends)
  where
    go : (a c : Bool) → pick a (λ _. pen.at) (λ _. pick c (λ _. pen.at - 1) (λ _. pen.at)) ≤ pen.at
    go true c = omega arith
    go false true = omega arith
    go false false = omega arith

kept_range : (begin at : ℕ) → (begin ≤ kept_at begin at) × ((kept_at begin at ≤ begin) ⊎ (kept_at begin at ≡ at))
unfolding kept_at
kept_range begin at = go (ltb (at - begin) 3) refl
  where
    go : (a : Bool) → ltb (at - begin) 3 ≡ a → (begin ≤ pick a (λ _. begin) (λ _. at)) × ((pick a (λ _. begin) (λ _. at) ≤ begin) ⊎ (pick a (λ _. begin) (λ _. at) ≡ at))
    go true e = (omega arith, inl (omega arith))
    go false e = (omega (arith, ltb-false (at - begin) 3 e), inr refl)

-- ---- what was written before: entries below where the pen was, and vertices that were counted
pub record PageKept (g h : Page) : Type 0 where
  pub at : g.pen.at ≤ h.pen.at
  pub count : g.pen.count ≤ h.pen.count
  pub entries : (i : ℕ) → i < g.pen.at → get_or h.indexes i 0 ≡ get_or g.indexes i 0
  pub kept : (i : ℕ) → i < 2 * g.pen.count → get_or h.vertices i nan ≡ get_or g.vertices i nan

pub keeps_same : (g : Page) → PageKept g g
keeps_same g = record { at = omega arith; count = omega arith; entries = λ i l. refl; kept = λ i l. refl }

pub keeps_on : {f g h : Page} → PageKept f g → PageKept g h → PageKept f h
keeps_on x y = record {
  at = omega (arith, x.at, y.at);
  count = omega (arith, x.count, y.count);
  entries = λ i l. y.entries i (omega (arith, x.at)) ∙ x.entries i l;
  kept = λ i l. y.kept i (omega (arith, x.count)) ∙ x.kept i l;
}

module _ (b : BoundingBox) (centers : ℕ) where
  ink_step : (begin i : ℕ) → i < begin → (g : Page) (c : At Corner Carrier) → begin ≤ g.pen.at
      → (get_or (ink_at b centers g c).indexes i 0 ≡ get_or g.indexes i 0) × (begin ≤ (ink_at b centers g c).pen.at)
  unfolding ink_at inked written_as
  ink_step begin i h g c low = go (repeats g.pen c.corner.place)
    where
      n : ℕ
      n = number_for b centers g.pen.count c.corner.place c.corner.number

      go : (t : Bool) → (get_or (pick t (λ _. g) (λ _. written_as n g c.corner.place)).indexes i 0 ≡ get_or g.indexes i 0)
          × (begin ≤ (pick t (λ _. g) (λ _. written_as n g c.corner.place)).pen.at)
      go true = (refl, low)
      go false = (get_or-set_other g.indexes g.pen.at i n 0 (λ e. omega arith), omega arith)

  ink_below : (begin i : ℕ) → i < begin → (g : Page) (l : Ring) → begin ≤ g.pen.at → get_or (feed_all (ink_at b centers) g l).indexes i 0 ≡ get_or g.indexes i 0
  ink_below begin i h g [] low = refl
  ink_below begin i h g (c ∷ l) low = let s = ink_step begin i h g c low in ink_below begin i h (ink_at b centers g c) l s.1 ∙ s.0

  ring_keeps : (g : Page) (l : Ring) → Roomy (feed_all (ink_at b centers) g l) → PageKept g (ended g.pen.at (feed_all (ink_at b centers) g l))
  ring_keeps g l room =
      let k : Page = feed_all (ink_at b centers) g l in
      let y = all_grows (λ z. z) (ink_at b centers) (ink_grows b [] centers) g l in
      let range = kept_range g.pen.at (closed_at g.pen.at k.pen) in
      let most : kept_at g.pen.at (closed_at g.pen.at k.pen) ≤ length k.indexes =
      ⊎_elim
      (λ w. omega (arith, w, y.at, room.indexes))
      (λ w. omega (arith, w, closed_most g.pen.at k.pen, room.indexes))
      range.1 in
      record {
        at = range.0;
        count = y.count;
        entries = λ i h. before_part g.pen.at (kept_at g.pen.at (closed_at g.pen.at k.pen)) k.indexes 0 range.0 most i h ∙ ink_below g.pen.at i h g l (omega arith);
        kept = y.kept;
      }

module _ (b : BoundingBox) (sites : List Float) (tri he : List ℕ) (centers : ℕ) (v : List Float) (corners : CornersIn b centers v) (small : centers < EMPTY) (thirds : length he ≤ 3 * centers)
  where
    -- the piece of the walk from t, by the definition
    abbrev pub piece_from : ℕ → List Point
    piece_from t = written_ring same_place (places_of (cut_four b sites (site_ring sites tri he v t)))

    ring_stands : (g : Page) → Based centers v g → g.pen.ends ≡ None → (l : Ring) → AllNumbered centers v l → Roomy (feed_all (ink_at b centers) g l)
        → EntriesStand g.pen.at (written_ring same_place (places_of l)) (ended g.pen.at (feed_all (ink_at b centers) g l))
    ring_stands g based none [] a room = none_stands g
    ring_stands g based none (c ∷ l) a room =
        ended_stands (feed_all (ink_at b centers) g (c ∷ l)) g.pen.at c.corner.place (places_of l) (inked_all b centers v corners small g c l based a none g.pen.at refl room) room

    module _ (g : Page) (based : Based centers v g) (none : g.pen.ends ≡ None) (t : ℕ) (room : Roomy (site_ink b sites tri he centers g t)) where
      center_same : (n : ℕ) → n < centers → point_at g.vertices n ≡ point_at v n
      center_same n l = point_kept v g.vertices (centers + 4) n based.kept (omega arith)

      pub site_stands : EntriesStand g.pen.at (piece_from t) (site_cut b sites tri he centers g t)
      unfolding site_ink site_cut
      site_stands =
          subst (λ (r : Ring). EntriesStand g.pen.at (written_ring same_place (places_of (cut_four b sites r)))
          (ended g.pen.at (feed_all (ink_at b centers) g (cut_four b sites (site_ring sites tri he g.vertices t)))))
          (ring_same sites tri he centers v g.vertices thirds center_same t)
          (ring_stands g based none (cut_four b sites (site_ring sites tri he g.vertices t)) (ring_numbered centers v sites tri he g.vertices thirds center_same t b) room)

      pub site_keeps : PageKept g (site_cut b sites tri he centers g t)
      unfolding site_ink site_cut
      site_keeps = ring_keeps b centers g (cut_four b sites (site_ring sites tri he g.vertices t)) room

      pub site_based : Based centers v (site_cut b sites tri he centers g t)
      site_based = let k = site_keeps in record { many = omega (arith, based.many, k.count); kept = λ i l. k.kept i (omega (arith, based.many)) ∙ based.kept i l }

      pub site_fresh : (site_cut b sites tri he centers g t).pen.ends ≡ None
      unfolding site_cut
      site_fresh = refl
