-- Reading keeps each list's length, so that the room that a call found is there at the next.
use Rattle.std.specs.Prelude.{◌≡◌, refl, Bool, true, false, List, [], ◌∷◌, ℕ, ◌+◌, ◌-◌, ◌*◌, ◌/◌, ◌%◌, ◌^◌, eqb, ltb, Float, length}
use Rattle.std.specs.Float.{binary64}
use Rattle.std.specs.Float.Ieee.{of_bits}
use Rattle.std.proofs.Common.{length-set, ltb-false, leb-true}
use Rattle.base.specs.common.Pick.{pick}
use Rattle.form.specs.Limits.{most_coordinates, most_links}
use Rattle.form.specs.step.Register.{shift}
use Rattle.form.specs.step.Reader.{within, put_float, put_link, bounds_by, sites_by, triangles_by, halfedges_by, hull_by, Reading, take, takes}
use Rattle.form.specs.step.Holds.{ListRoom}
use Rattle.form.specs.declared.step.Reader.{Reader}
use Rattle.form.specs.laws.Feed.{SameLists, same_same}
use Rattle.reader.specs.standing.laws.Stands.{past}
use Rattle.reader.specs.Calls.{FormLists, lists_of, roomy}

-- by a test, a list or one as long
long : {A : Type 0} (t : Bool) (a b : List A) → length a ≡ length b → length (pick t (λ _. a) (λ _. b)) ≡ length b
long true a b e = e
long false a b e = refl

long_not : {A : Type 0} (t : Bool) (a b : List A) → length b ≡ length a → length (pick t (λ _. a) (λ _. b)) ≡ length a
long_not true a b e = refl
long_not false a b e = e

float_long : (l : List Float) (last left w : ℕ) → length (put_float l last left w) ≡ length l
unfolding put_float
float_long l last left w = long (eqb (left % 8) 0) _ l (length-set l (last - left / 8) (of_bits binary64 w))

link_long : (l : List ℕ) (last left w : ℕ) → length (put_link l last left w) ≡ length l
unfolding put_link
link_long l last left w = long (eqb (left % 4) 0) _ l (length-set l (last - left / 4) (w / 2 ^ 32))

module _ (r : Reader) (b : ℕ) where
  bounds_long : (l : List Float) → length (bounds_by r b l) ≡ length l
  unfolding bounds_by
  bounds_long l = long (within r 1) _ l (float_long l 3 (r.left - 1) (shift r.word b))

  sites_long : (l : List Float) → length (sites_by r b l) ≡ length l
  unfolding sites_by
  sites_long l = long (within r 2) _ l (float_long l (2 * r.sites + 1) (r.left - 1) (shift r.word b))

  triangles_long : (l : List ℕ) → length (triangles_by r b l) ≡ length l
  unfolding triangles_by
  triangles_long l =
      long (within r 3) _ l (long_not (ltb (r.left - 1) 12) l _ (link_long l (3 * r.triangles + 2) (r.left - 1 - 12) (shift r.word b)))

  halfedges_long : (l : List ℕ) → length (halfedges_by r b l) ≡ length l
  unfolding halfedges_by
  halfedges_long l =
      long (within r 3) _ l (long (ltb (r.left - 1) 12) _ l (link_long l (3 * r.triangles + 2) (r.left - 1) (shift r.word b)))

  hull_long : (l : List ℕ) → length (hull_by r b l) ≡ length l
  unfolding hull_by
  hull_long l = long (within r 4) _ l (link_long l r.hull (r.left - 1) (shift r.word b))

same_take : (d : Reading) (b : ℕ) → SameLists d (take d b)
unfolding take
same_take d b =
    record {
      bounds = bounds_long d.reader b d.bounds;
      sites = sites_long d.reader b d.sites;
      triangles = triangles_long d.reader b d.triangles;
      halfedges = halfedges_long d.reader b d.halfedges;
      hull = hull_long d.reader b d.hull;
    }

same_takes : (s : List ℕ) (d : Reading) → SameLists d (takes d s)
unfolding takes
same_takes [] d = record { bounds = refl; sites = refl; triangles = refl; halfedges = refl; hull = refl }
same_takes (b ∷ s) d = same_same (same_take d b) (same_takes s (take d b))

pub same_room : (s : List ℕ) (d : Reading) → roomy (lists_of (takes d s)) ≡ roomy (lists_of d)
unfolding roomy
same_room s d = let e = same_takes s d in rw (e.bounds, e.sites, e.triangles, e.halfedges, e.hull)

pub roomy_told : (l : FormLists) → roomy l ≡ true → ListRoom l.bounds l.sites l.triangles l.halfedges l.hull
unfolding roomy
roomy_told l e =
    let a = past (ltb (length l.bounds) 4) _ e in
    let b = past (ltb (length l.sites) most_coordinates) _ a.1 in
    let c = past (ltb (length l.triangles) most_links) _ b.1 in
    let d = past (ltb (length l.halfedges) most_links) _ c.1 in
    record {
      bounds = ltb-false _ _ a.0;
      sites = ltb-false _ _ b.0;
      triangles = ltb-false _ _ c.0;
      halfedges = ltb-false _ _ d.0;
      hull = leb-true _ _ d.1;
    }
