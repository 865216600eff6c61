-- Adding a vertex (the Rust's add_new_vertex): the first near one after the circumcenters is taken again, else the point is put at the end.
use Rattle.std.specs.Prelude.{ℕ, suc, Bool, false, not, List, [], ◌∷◌, ◌++◌, length, drop, ltb}
use Rattle.base.specs.common.Pick.{pick}
use Rattle.plane.specs.points.Plane.{near_of}
use Rattle.plane.specs.declared.points.Point.{Point}

unfoldable pub near_pt : Point → Point → Bool
near_pt p q = pick (near_of p.x q.x) (λ _. near_of p.y q.y) (λ _. false)

-- the point's place, all vertices afterwards, and whether the point is new among them
pub record Added : Type 0 where
  pub at : ℕ
  pub verts : List Point
  pub fresh : Bool

-- the first of vs, numbered from n, that is near p; else the number after them
unfoldable pub find_near : Point → List Point → ℕ → ℕ
find_near p [] n = n
find_near p (v ∷ vs) n = pick (near_pt v p) (λ _. n) (λ _. find_near p vs (suc n))

unfoldable pub add_vertex : ℕ → List Point → Point → Added
add_vertex nc vs p =
    let i = find_near p (drop nc vs) nc in
    let old = ltb i (length vs) in
    record { at = i; verts = pick old (λ _. vs) (λ _. vs ++ p ∷ []); fresh = not old }
