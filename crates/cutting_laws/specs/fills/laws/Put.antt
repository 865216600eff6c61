-- The box's corners after the circumcenters: they stand there (`corners_in`), and the circumcenters are as they were (`centers_kept`).
use Rattle.std.specs.Prelude.{◌≡◌, refl, List, ℕ, ◌+◌, ◌*◌, ◌≤◌, ◌<◌, Float, length, get_or, set}
use Rattle.std.proofs.Common.{◌∙◌, arith, length-set, get_or-set_same, get_or-set_other}
use Rattle.std.specs.Float.{nan}
use Rattle.plane.specs.points.Plane.{at}
use Rattle.plane.specs.points.Flat.{point_at}
use Rattle.plane.specs.declared.points.Point.{Point}
use Rattle.plane.specs.declared.boxes.BoundingBox.{BoundingBox}
use Rattle.cutting_writer.specs.sites.Pieces.{put_at, cornered}
use Rattle.cutting_writer.specs.join.laws.Shown.{CornersIn}

put_here : (i : ℕ) (p : Point) (v : List Float) → 2 * i + 1 < length v → point_at (put_at i p v) i ≡ p
put_here i p v l =
    let x : get_or (put_at i p v) (2 * i) nan ≡ p.x =
    get_or-set_other (set v (2 * i) p.x) (2 * i + 1) (2 * i) p.y nan (λ e. omega arith) ∙ get_or-set_same v (2 * i) p.x nan (omega arith) in
    let y : get_or (put_at i p v) (2 * i + 1) nan ≡ p.y = get_or-set_same (set v (2 * i) p.x) (2 * i + 1) p.y nan (omega (arith, length-set v (2 * i) p.x)) in
    rw (x, y) refl

put_other : (i j : ℕ) (p : Point) (v : List Float) → (j ≡ i → ⊥) → point_at (put_at i p v) j ≡ point_at v j
put_other i j p v n =
    let x : get_or (put_at i p v) (2 * j) nan ≡ get_or v (2 * j) nan =
    get_or-set_other (set v (2 * i) p.x) (2 * i + 1) (2 * j) p.y nan (λ e. n (omega arith)) ∙ get_or-set_other v (2 * i) (2 * j) p.x nan (λ e. n (omega arith)) in
    let y : get_or (put_at i p v) (2 * j + 1) nan ≡ get_or v (2 * j + 1) nan =
    get_or-set_other (set v (2 * i) p.x) (2 * i + 1) (2 * j + 1) p.y nan (λ e. n (omega arith)) ∙ get_or-set_other v (2 * i) (2 * j + 1) p.x nan (λ e. n (omega arith)) in
    rw (x, y) refl

put_length_lem : (i : ℕ) (p : Point) (v : List Float) → length (put_at i p v) ≡ length v
put_length_lem i p v = length-set (set v (2 * i) p.x) (2 * i + 1) p.y ∙ length-set v (2 * i) p.x

module _ (b : BoundingBox) (t : ℕ) (v : List Float) (long : 2 * (t + 4) ≤ length v) where
  abbrev p₀ : Point
  p₀ = at b.left b.top

  abbrev p₁ : Point
  p₁ = at b.left b.bottom

  abbrev p₂ : Point
  p₂ = at b.right b.bottom

  abbrev p₃ : Point
  p₃ = at b.right b.top

  abbrev v₁ : List Float
  v₁ = put_at t p₀ v

  abbrev v₂ : List Float
  v₂ = put_at (t + 1) p₁ v₁

  abbrev v₃ : List Float
  v₃ = put_at (t + 2) p₂ v₂

  pub centers_kept : (n : ℕ) → n < t → point_at (cornered b t v) n ≡ point_at v n
  unfolding cornered
  centers_kept n l =
      put_other (t + 3) n p₃ v₃ (λ e. omega arith) ∙ put_other (t + 2) n p₂ v₂ (λ e. omega arith) ∙ put_other (t + 1) n p₁ v₁ (λ e. omega arith) ∙ put_other t n p₀ v (λ e. omega arith)

  pub corners_in : CornersIn b t (cornered b t v)
  unfolding cornered
  corners_in = record {
    first = put_other (t + 3) t p₃ v₃ (λ e. omega arith) ∙ put_other (t + 2) t p₂ v₂ (λ e. omega arith) ∙ put_other (t + 1) t p₁ v₁ (λ e. omega arith) ∙ put_here t p₀ v (omega arith);
    second = put_other (t + 3) (t + 1) p₃ v₃ (λ e. omega arith) ∙ put_other (t + 2) (t + 1) p₂ v₂ (λ e. omega arith) ∙ put_here (t + 1) p₁ v₁ (omega (arith, put_length_lem t p₀ v));
    third = put_other (t + 3) (t + 2) p₃ v₃ (λ e. omega arith) ∙ put_here (t + 2) p₂ v₂ (omega (arith, put_length_lem (t + 1) p₁ v₁, put_length_lem t p₀ v));
    fourth = put_here (t + 3) p₃ v₃ (omega (arith, put_length_lem (t + 2) p₂ v₂, put_length_lem (t + 1) p₁ v₁, put_length_lem t p₀ v));
  }
