-- What the cells begin with: T circumcenters, four corners, and an extension for each of the H hull places, each a vertex after the circumcenters.
use Rattle.std.specs.Prelude.{◌≡◌, ◌&&◌, List, [], ◌∷◌, ◌++◌, ℕ, zero, suc, ◌+◌, ◌≤◌, ◌<◌, Float, length, get_or}
use Rattle.std.proofs.Common.{◌∙◌, subst, ⊎_elim, arith, length-append}
use Rattle.std.proofs.Math.ListN.{get_or-append}
use Rattle.std.proofs.lemmas.List.{get_or_at}
use Rattle.base.specs.common.laws.Decide.{lt_or_ge}
use Rattle.plane.specs.declared.points.Point.{Point}
use Rattle.plane.specs.centers.Circumcenter.{ok_center}
use Rattle.mesh.specs.Hull.{next_site}
use Rattle.vertices.specs.Add.{add_vertex}
use Rattle.definition.specs.Cell.{took, extension}
use Rattle.definition.specs.Build.{center_at, centers_from, finite, extended, Extensions, extend_from}
use Rattle.definition.specs.Short.{extensions}
use Rattle.definition.specs.laws.Gives.{Gives, gives_map, picked}
use Rattle.definition.specs.Measures.{count_if, new_points}
use Rattle.build_laws.specs.laws.Grown.{count_le, new_append, Grown, grown_none, grown_then, add_vertex_lem}

pub centers_from_lem : (sites : List Float) (tri : List ℕ) (t k : ℕ) (vs : List Point) → Gives (λ (ws : List Point). length ws ≡ length vs + k) (centers_from sites tri t k vs)
unfolding centers_from
centers_from_lem sites tri t zero vs = omega arith
centers_from_lem sites tri t (suc k) vs =
    let c = center_at sites tri t in
    picked (Gives (λ (ws : List Point). length ws ≡ length vs + suc k)) (ok_center c) _ _
    (λ e. gives_map _ _ (centers_from sites tri (suc t) k (vs ++ c ∷ [])) (centers_from_lem sites tri (suc t) k (vs ++ c ∷ [])) (λ ws q. omega (arith, q, length-append vs (c ∷ []))))
    (λ e. tt)

-- each extension is a vertex after the circumcenters
abbrev pub Beyond : ℕ → Extensions → Type 0
Beyond nc x = (i : ℕ) → i < length x.at → (nc ≤ get_or x.at i 0) × (get_or x.at i 0 < length x.verts)

-- k more of them
pub record Extended (nc k : ℕ) (x y : Extensions) : Type 0 where
  pub more : ℕ
  pub few : more ≤ k
  pub grown : Grown x.verts more y.verts
  pub added : new_points y.steps ≡ new_points x.steps + more
  pub taken : length y.steps ≡ length x.steps + k
  pub counted : length y.at ≡ length x.at + k
  pub beyond : Beyond nc y

module _ (nc : ℕ) (x : Extensions) (h : nc ≤ length x.verts) (g : Beyond nc x) (p : Point) where
  abbrev next : Extensions
  next = extensions (add_vertex nc x.verts p).verts (x.at ++ (add_vertex nc x.verts p).at ∷ []) (x.steps ++ took extension (add_vertex nc x.verts p) ∷ [])

  extend_one : Extended nc 1 x next
  extend_one =
      let r = add_vertex_lem nc x.verts p h in
      let a = add_vertex nc x.verts p in
      record {
        more = count_if a.fresh;
        few = count_le a.fresh;
        grown = r.grown;
        added = new_append x.steps (took extension a ∷ []) ∙ omega arith;
        taken = length-append x.steps (took extension a ∷ []);
        counted = length-append x.at (a.at ∷ []);
        beyond = λ i l. ⊎_elim
            (λ k. rw (get_or-append x.at (a.at ∷ []) 0 i k) ((g i k).0, omega (arith, (g i k).1, r.grown.longer)))
            (λ k. rw (get_or_at x.at a.at [] 0 i (omega (arith, length-append x.at (a.at ∷ [])))) (r.after, r.below))
            (lt_or_ge i (length x.at));
      }

extended_then : {nc k j : ℕ} {x y z : Extensions} → Extended nc k x y → Extended nc j y z → Extended nc (k + j) x z
extended_then h g = record {
  more = h.more + g.more;
  few = omega (arith, h.few, g.few);
  grown = grown_then h.grown g.grown;
  added = omega (arith, h.added, g.added);
  taken = omega (arith, h.taken, g.taken);
  counted = omega (arith, h.counted, g.counted);
  beyond = g.beyond;
}

pub extend_from_lem : (sites : List Float) (tri hull table : List ℕ) (nc i k : ℕ) (x : Extensions) → nc ≤ length x.verts → Beyond nc x
    → Gives (Extended nc k x) (extend_from sites tri hull table nc i k x)
unfolding extend_from
extend_from_lem sites tri hull table nc i zero x h g = record { more = 0; few = omega arith; grown = grown_none x.verts; added = omega arith; taken = omega arith; counted = omega arith; beyond = g }
extend_from_lem sites tri hull table nc i (suc k) x h g =
    let p = extended sites tri x.verts (get_or table (next_site hull i) 0) in
    let e = extend_one nc x h g p in
    picked (Gives (Extended nc (suc k) x)) (finite p.x && finite p.y) _ _
    (λ t. gives_map _ _ (extend_from sites tri hull table nc (suc i) k (next nc x h g p))
    (extend_from_lem sites tri hull table nc (suc i) k (next nc x h g p) (omega (arith, e.grown.longer)) e.beyond) (λ y w. subst (λ (m : ℕ). Extended nc m x y) (omega arith) (extended_then e w)))
    (λ t. tt)
