-- The line test by test is the line.
use Rattle.std.specs.Prelude.{◌≡◌, Bool, ◌&&◌, ◌||◌, cond, Float}
use Rattle.std.proofs.Math.Path.{refl}
use Rattle.std.proofs.Common.{◌∙◌}
use Rattle.std.proofs.Math.Bool.{true, false}
use Rattle.base.specs.common.Pick.{pick}
use Rattle.base.specs.common.Binary64.{◌⊞◌, ◌⊟◌, ◌⊠◌, ◌⊘◌}
use Rattle.plane.specs.declared.points.Point.{Point}
use Rattle.plane.specs.declared.boxes.BoundingBox.{BoundingBox}
use Rattle.plane.specs.lines.Line.{one_if, some, or_of, join_of, first_held, settle_of, side_hit, level_hit, upright_hit, line_of}
use Rattle.plane.specs.lines.Met.{side_met, level_met, upright_by, each_of, levels_of}
use Rattle.plane.specs.declared.lines.Crossing.{Crossing}
use Rattle.plane.specs.declared.lines.Crossing.TheVariants.{One, Two}

-- ---- one of two points, by their tests
pub either_one : (f g : Bool) (x y u v : Float) → or_of (one_if f x y) (one_if g u v) ≡ one_if (f || g) (cond f x u) (cond f y v)
unfolding one_if
either_one true g x y u v = refl
either_one false true x y u v = refl
either_one false false x y u v = refl

module _ (x y u v : Float) where
  pub each_both : (s l : Bool) → s ≡ true → l ≡ true → Two x y u v ≡ each_of s x y l u v
  unfolding one_if
  each_both s l e k = rw (e, k) refl

  pub each_side : (s l : Bool) → s ≡ true → l ≡ false → One x y ≡ each_of s x y l u v
  unfolding one_if
  each_side s l e k = rw (e, k) refl

  pub each_level : (s l : Bool) {r : Crossing} → s ≡ false → r ≡ one_if l u v → r ≡ each_of s x y l u v
  unfolding one_if
  each_level s l e k = rw (e) k

-- ---- the settling, of points by their tests
module _ (x y u v : Float) where
  both : (h i : Bool) (o : Crossing) → pick (some (one_if h x y) && some (one_if i u v)) (λ _. join_of (one_if h x y) (one_if i u v)) (λ _. o) ≡ pick (h && i) (λ _. Two x y u v) (λ _. o)
  unfolding one_if
  both true true o = refl
  both true false o = refl
  both false i o = refl

module _ (f g h i up : Bool) (w : Crossing) (x y x₁ y₁ u v u₁ v₁ : Float) where
  abbrev whole : Crossing
  whole = settle_of (one_if f x y) (one_if g x₁ y₁) up w (one_if h u v) (one_if i u₁ v₁)

  abbrev left : Crossing
  left = join_of (or_of (one_if f x y) (one_if g x₁ y₁)) (or_of (one_if h u v) (one_if i u₁ v₁))

  whole_is : whole ≡ pick (f && g) (λ _. Two x y x₁ y₁) (λ _. pick up (λ _. w) (λ _. pick (h && i) (λ _. Two u v u₁ v₁) (λ _. left)))
  unfolding settle_of first_held
  whole_is = rw (both u v u₁ v₁ h i left) (both x y x₁ y₁ f g (pick up (λ _. w) (λ _. pick (h && i) (λ _. Two u v u₁ v₁) (λ _. left))))

  pub settled_sides : (f && g) ≡ true → Two x y x₁ y₁ ≡ whole
  settled_sides e = rw (whole_is, e) refl

  pub settled_upright : (f && g) ≡ false → up ≡ true → w ≡ whole
  settled_upright e k = rw (whole_is, e, k) refl

  pub settled_levels : (f && g) ≡ false → up ≡ false → pick (h && i) (λ _. Two u v u₁ v₁) (λ _. left) ≡ whole
  settled_levels e k = rw (whole_is, e, k) refl

-- ---- the line
module _ (b : BoundingBox) (p q : Point) where
  abbrev cx : Float
  cx = q.x ⊟ p.x

  abbrev cy : Float
  cy = q.y ⊟ p.y

  abbrev c : Float
  c = cy ⊘ cx

  abbrev d : Float
  d = p.y ⊟ p.x ⊠ c

  abbrev y : Float
  y = b.right ⊠ c ⊞ d

  abbrev z : Float
  z = b.left ⊠ c ⊞ d

  abbrev t : Float
  t = (b.top ⊟ d) ⊘ c

  abbrev m : Float
  m = (b.bottom ⊟ d) ⊘ c

  module _ {f g : Bool} (e : f ≡ side_met b cx y) (k : g ≡ side_met b cx z) where
    pub line_sides : (f && g) ≡ true → Two b.right y b.left z ≡ line_of b p q
    unfolding line_of side_hit level_hit
    line_sides a =
        settled_sides (side_met b cx y) (side_met b cx z) (level_met b cy t) (level_met b cy m) (upright_by cx cy) (upright_hit b p.x) b.right y b.left z t b.top m b.bottom (rw (← e, ← k) a)

    pub line_upright : {u : Bool} {r : Crossing} → (f && g) ≡ false → u ≡ upright_by cx cy → u ≡ true → r ≡ upright_hit b p.x → r ≡ line_of b p q
    unfolding line_of side_hit level_hit
    line_upright a s o h =
        h
        ∙ settled_upright (side_met b cx y) (side_met b cx z) (level_met b cy t) (level_met b cy m) (upright_by cx cy) (upright_hit b p.x) b.right y b.left z t b.top m b.bottom
        (rw (← e, ← k) a) (rw (← s) o)

    pub line_levels : {u : Bool} {r : Crossing} → (f && g) ≡ false → u ≡ upright_by cx cy → u ≡ false → r ≡ levels_of b f g y z cy t m → r ≡ line_of b p q
    unfolding line_of side_hit level_hit levels_of
    line_levels a s o h =
        rw (e, k) at h
        ∙ settled_levels (side_met b cx y) (side_met b cx z) (level_met b cy t) (level_met b cy m) (upright_by cx cy) (upright_hit b p.x) b.right y b.left z t b.top m b.bottom
        (rw (← e, ← k) a) (rw (← s) o)

-- ---- where not both sides are met
module _ (b : BoundingBox) (f g : Bool) (y z cy t m : Float) {h i : Bool} (e : h ≡ level_met b cy t) (k : i ≡ level_met b cy m) where
  pub levels_both : (h && i) ≡ true → Two t b.top m b.bottom ≡ levels_of b f g y z cy t m
  unfolding levels_of
  levels_both a = rw (← e, ← k, a) refl

  pub levels_each :
      {x₁ y₁ u₁ v₁ : Float} {r : Crossing} → (h && i) ≡ false → x₁ ≡ cond f b.right b.left → y₁ ≡ cond f y z → u₁ ≡ cond h t m → v₁ ≡ cond h b.top b.bottom
      → r ≡ each_of (f || g) x₁ y₁ (h || i) u₁ v₁ → r ≡ levels_of b f g y z cy t m
  unfolding levels_of
  levels_each a e₁ e₂ e₃ e₄ n = rw (← e, ← k, a, either_one f g b.right y b.left z, either_one h i t b.top m b.bottom, ← e₁, ← e₂, ← e₃, ← e₄) n
