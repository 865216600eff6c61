-- The four vertices after the circumcenters are the box's corners: what is built starts with them, and a vertex once stored stays.
use Rattle.std.specs.Prelude.{◌≡◌, ℕ, ◌+◌, ◌/◌, ◌≤◌, ◌<◌, Float, get_or}
use Rattle.std.proofs.Math.Path.{ap}
use Rattle.std.proofs.Common.{◌∙◌}
use mathlib.Core.List.{List, [], ◌++◌}
use native.Mathlib.Omega.{arith}
use Rattle.std.specs.Float.Ieee.{nan}
use Rattle.std.proofs.Math.ListN.{length, length-append}
use Rattle.std.proofs.Math.Seq.{get_or-append-add}
use Rattle.plane.specs.points.Plane.{at}
use Rattle.plane.specs.declared.points.Point.{Point}
use Rattle.plane.specs.boxes.Box.{corners_of}
use Rattle.plane.specs.declared.boxes.BoundingBox.{BoundingBox}
use Rattle.mesh.specs.Mesh.{leftmost_of}
use Rattle.mesh.specs.Accepted.{mesh, Accepted, site_count}
use Rattle.mesh.specs.laws.Facts.{topology}
use Rattle.definition.specs.Cell.{vertex_at}
use Rattle.definition.specs.Build.{centers_from, owners_from, extend_from, clip_all, Built, build}
use Rattle.definition.specs.Short.{extensions}
use Rattle.definition.specs.laws.Gives.{Gives, gives_then}
use Rattle.definition.specs.Measures.{share_of}
use Rattle.build_laws.specs.laws.CellsSoFar.{CellsSoFar}
use Rattle.build_laws.specs.laws.Owners.{owners_length}
use Rattle.build_laws.specs.laws.AllCells.{clip_all_lem}
use Rattle.build_laws.specs.laws.Start.{centers_from_lem, Extended, extend_from_lem}

-- vertex nc + c is corner c, and there are so many vertices
abbrev pub Cornered : ℕ → BoundingBox → Built → Type 0
Cornered nc b r = (nc + 4 ≤ length r.verts) × ((c : ℕ) → c < 4 → vertex_at r.verts (nc + c) ≡ get_or (corners_of b) c (at nan nan))

module _ {sites : List Float} {tri he hull : List ℕ} (a : Accepted (mesh sites tri he hull)) (b : BoundingBox) where
  pub cornered : Gives (Cornered (length tri / 3) b) (build (mesh sites tri he hull) b)
  unfolding build corners_of
  cornered =
      let n = site_count sites in
      let nc = length tri / 3 in
      let left = leftmost_of tri he n in
      let found = owners_from sites tri he left n (get_or hull 0 0) (corners_of b) in
      let four : length found ≡ 4 = owners_length sites tri he left n (get_or hull 0 0) (corners_of b) in
      gives_then (λ (vs : List Point). length vs ≡ 0 + nc) (Cornered nc b) (centers_from sites tri 0 nc []) _ (centers_from_lem sites tri 0 nc [])
      (λ cs lc.
      let vs = cs ++ corners_of b in
      let back : nc ≡ length cs = omega arith in
      let lv : length vs ≡ nc + 4 = length-append cs (corners_of b) ∙ omega arith in
      gives_then (Extended nc (length hull) (extensions vs [] [])) (Cornered nc b) (extend_from sites tri hull left nc 0 (length hull) (extensions vs [] [])) _
      (extend_from_lem sites tri hull left nc 0 (length hull) (extensions vs [] []) (omega arith) (λ i l. absurd (omega arith)))
      (λ x e.
      let lx : nc + 4 ≤ length x.verts = omega (arith, e.grown.longer) in
      gives_then (CellsSoFar b nc n (share_of tri hull) x.verts found x.steps) (Cornered nc b) (clip_all b nc tri he hull left n found x) _
      (clip_all_lem (topology a) (omega (arith, a.counts.few_sites)) b nc found x lx four)
      (λ s h. (
        omega (arith, h.grown.longer),
        λ c l.
            h.grown.kept (nc + c) (omega arith) ∙ e.grown.kept (nc + c) (omega arith) ∙ ap (λ m. vertex_at vs (m + c)) back ∙ get_or-append-add cs (corners_of b) c (at nan nan),
      ))))
