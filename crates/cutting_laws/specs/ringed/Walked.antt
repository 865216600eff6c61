-- Theorem: the ring that is walked from half-edge t is the one that the names of its edges give (`walked_ring`), so that the ring of a site is that of the theorem (`site_ring_lem`).
use Rattle.std.specs.Prelude.{◌≡◌, Bool, cond, List, [], ◌∷◌, ◌++◌, map, ℕ, ◌-◌, ◌/◌, Float, length, get_or}
use Rattle.std.proofs.Math.Path.{refl}
use Rattle.std.proofs.Common.{ap}
use Rattle.std.proofs.Math.Bool.{true, false}
use Rattle.std.proofs.Math.Logic.{⊎_elim}
use borrow.Author.Tests.{lt-ltb, le-ltb}
use Rattle.base.specs.common.Pick.{pick}
use Rattle.base.specs.common.laws.Decide.{lt_or_ge}
use Rattle.plane.specs.points.Flat.{point_at}
use Rattle.mesh.specs.Mesh.{next_of, turn_of, walk_of, whole_of, leftmost_of}
use Rattle.mesh.specs.laws.WalkSteps.{walk_done}
use Rattle.cutting.specs.cuts.Rings.{At}
use Rattle.cutting.specs.cuts.Named.{EdgeName, far, named_ring}
use Rattle.cutting.specs.rings.Names.{on_hull, names_from, ring_names}
use Rattle.cutting.specs.rings.Counts.{begins}
use Rattle.cutting.specs.rings.laws.Closing.{next_third}
use Rattle.cutting.specs.corner.Corner.{circle_center}
use Rattle.cutting.specs.declared.corner.Corner.{Corner}
use Rattle.cutting.specs.declared.corner.Carrier.{Carrier}
use Rattle.cutting.specs.declared.corner.Carrier.TheVariants.{Infinity}
use Rattle.cutting.specs.whole.Whole.{bisector_of}
use Rattle.cutting.specs.border.Border.{hull_end}
use Rattle.cutting_writer.specs.site.Ring.{out_at, ray_of, far_of, last_or, site_ring}
use Rattle.cutting_laws.specs.theorem.MeshPieces.{mesh_edge, mesh_ring}

module _ (sites : List Float) (tri he : List ℕ) (n : ℕ) (centers : List Float) where
  abbrev named : List EdgeName → List (At Corner Carrier)
  named = named_ring (mesh_edge sites tri he n centers)

  -- the circumcenter by the half-edge after it, which is of the same triangle
  out_is : (e : ℕ) → record { corner = circle_center (point_at centers (next_of e / 3)) (next_of e / 3); on = bisector_of tri (next_of e) } ≡ out_at tri centers e
  out_is e = ap (λ (k : ℕ). record { corner = circle_center (point_at centers k) k; on = bisector_of tri (next_of e) }) (next_third e)

  last_is : (e : ℕ) → named (cond (on_hull he (next_of e)) (far (next_of e) ∷ []) []) ≡ far_of sites tri he centers e
  unfolding far_of
  last_is e = go (on_hull he (next_of e))
    where
      go : (t : Bool) → named (cond t (far (next_of e) ∷ []) []) ≡ pick t (λ _. record { corner = hull_end sites tri centers (next_of e); on = Infinity } ∷ []) (λ _. [])
      go true = refl
      go false = refl

  both : {x y : At Corner Carrier} {l m : List (At Corner Carrier)} → x ≡ y → l ≡ m → x ∷ l ≡ y ∷ m
  both p q = λ i. p i ∷ q i

  from_is : (e : ℕ) (r : List ℕ) → named (names_from he (e ∷ r)) ≡ map (out_at tri centers) (e ∷ r) ++ far_of sites tri he centers (last_or e r)
  from_is e [] = both (out_is e) (last_is e)
  from_is e (f ∷ r) = both (out_is e) (from_is f r)

  begun_is : (t : ℕ) (r : List ℕ) → named (ring_names he t (t ∷ r)) ≡ ray_of sites tri he centers t ++ (map (out_at tri centers) (t ∷ r) ++ far_of sites tri he centers (last_or t r))
  unfolding ray_of
  begun_is t r = go (on_hull he t)
    where
      go : (h : Bool) → named (cond h (EdgeName.ray t ∷ names_from he (t ∷ r)) (names_from he (t ∷ r)))
          ≡ pick h (λ _. record { corner = hull_end sites tri centers t; on = bisector_of tri t } ∷ []) (λ _. []) ++ (map (out_at tri centers) (t ∷ r) ++ far_of sites tri he centers (last_or t r))
      go true = both refl (from_is t r)
      go false = from_is t r

  pub walked_ring : (t : ℕ) → named (ring_names he t (whole_of he t)) ≡ site_ring sites tri he centers t
  unfolding site_ring
  walked_ring t = ⊎_elim
      (λ l. rw (begins he t l, lt-ltb t (length he) l) (begun_is t (walk_of he t (length he - 1) (turn_of he t t))))
      (λ l. rw (walk_done he t (length he) t l, le-ltb t (length he) l) refl)
      (lt_or_ge t (length he))

  pub site_ring_lem : (s : ℕ) → mesh_ring sites tri he n centers s ≡ site_ring sites tri he centers (get_or (leftmost_of tri he n) s 0)
  site_ring_lem s = walked_ring (get_or (leftmost_of tri he n) s 0)
