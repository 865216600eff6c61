-- What the second and the third fault name is there, and is what the definition names.
use Rattle.std.specs.Prelude.{◌≡◌, Bool, true, List, ℕ, ◌/◌, ◌<◌, Float, get_or, Err}
use Rattle.std.proofs.Math.Path.{refl, ap, subst}
use Rattle.std.proofs.Common.{sym, ◌∙◌, ltb-true}
use Rattle.std.proofs.Math.ListN.{length}
use Rattle.ring_area.specs.lowest.Lowest.{lowest}
use Rattle.ring_area.specs.lowest.laws.Loops.{lowest_takes}
use Rattle.plane.specs.points.Flat.{point_at}
use Rattle.plane.specs.declared.points.Point.{Point}
use Rattle.plane.specs.declared.boxes.BoundingBox.{BoundingBox}
use Rattle.walks.specs.shared.Cells.{cell_of}
use Rattle.auditing.specs.corners.Outside.{outside_at, cell_outside, site_outside, entry_outside}
use Rattle.auditing.specs.nearer.Nearer.{no_lists, other_at, held_count, beyond_at, nearer_at, corner_nearer, cell_nearer, site_nearer}
use Rattle.auditing.specs.nearer.laws.Pieces.{site_is}
use Rattle.auditing.specs.Verdict.{AuditVerdict, nearer_verdict, outside_verdict}
use Rattle.auditing.specs.declared.AuditFault.TheVariants.{Outside, Nearer}

-- the lowest is taken by the test
pub taken : (p : ℕ → Bool) (n : ℕ) {s : ℕ} → s ≡ lowest p n → s < n → p s ≡ true
taken p n {s} e h = ap p e ∙ lowest_takes p n (subst (λ (k : ℕ). k < n) e h)

-- ---- the second
module _ (b : BoundingBox) (v : List Float) (off ix : List ℕ) (s : ℕ) {cell : List ℕ} (z : cell ≡ cell_of off ix s) {k : ℕ} (e : k ≡ lowest (outside_at b v cell) (length cell)) where
  pub outside_below : site_outside b v off ix s ≡ true → k < length cell
  unfolding cell_outside
  outside_below t = subst (λ (i : ℕ). i < length cell) (sym e) (ltb-true (lowest (outside_at b v cell) (length cell)) (length cell) (ap (cell_outside b v) z ∙ t))

  pub entry_named : get_or cell k 0 ≡ entry_outside b v off ix s
  entry_named = rw (e, z) refl

  pub outside_named : {a : ℕ} → a ≡ s → ◌≡◌ {A = AuditVerdict} (Err (Outside a (get_or cell k 0))) (outside_verdict b v off ix s)
  unfolding outside_verdict
  outside_named f = rw (f, e, z) refl

-- ---- the third
module _ (far : Float) (sites : List Float) (starts others : List ℕ) (v : List Float) (off ix : List ℕ) (s : ℕ) {all : Bool} {part cell : List ℕ} (x : all ≡ no_lists starts others)
    (y : part ≡ cell_of starts others s) (z : cell ≡ cell_of off ix s) {k : ℕ} (e : k ≡ lowest (corner_nearer far sites s part all v cell) (length cell)) where
  pub corner_below : site_nearer far sites starts others v off ix s ≡ true → k < length cell
  unfolding cell_nearer
  corner_below t =
      subst (λ (i : ℕ). i < length cell) (sym e)
      (ltb-true (lowest (corner_nearer far sites s part all v cell) (length cell)) (length cell) (site_is far sites starts others v off ix s x y z refl ∙ t))

  module _ {w j : ℕ} {p : Point} (g : w ≡ get_or cell k 0) (q : p ≡ point_at v w) (f : j ≡ lowest (beyond_at far p sites s part all) (held_count all part (length sites / 2))) where
    pub other_below : k < length cell → j < held_count all part (length sites / 2)
    unfolding corner_nearer nearer_at
    other_below h =
        subst (λ (i : ℕ). i < held_count all part (length sites / 2)) (sym f)
        (ltb-true (lowest (beyond_at far p sites s part all) (held_count all part (length sites / 2))) (held_count all part (length sites / 2))
        (ap (λ (t : Point). nearer_at far t sites s part all) (q ∙ ap (point_at v) g) ∙ taken (corner_nearer far sites s part all v cell) (length cell) e h))

    pub nearer_named : {a b o : ℕ} → a ≡ s → o ≡ other_at all part j → b ≡ o → ◌≡◌ {A = AuditVerdict} (Err (Nearer a (get_or cell k 0) b)) (nearer_verdict far sites starts others v off ix s)
    unfolding nearer_verdict
    nearer_named m n l = rw (m, l, n, f, q, g, e, z, y, x) refl
