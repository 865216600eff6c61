-- A function's answer from the answers of its calls, which are the arguments: so no proof looks for them among all that it knows.
use Rattle.std.specs.Prelude.{◌≡◌, refl, Bool, true, false, ◌&&◌, cond, Ok, Err, Float}
use Rattle.std.specs.Float.Ieee.{lt, eq}
use Rattle.root.specs.Root.{magnitude, signum}
use Rattle.base.specs.common.Binary64.{◌⊞◌, ◌⊟◌}
use Rattle.plane.specs.points.Plane.{at}
use Rattle.plane.specs.points.Rules.{ok_site}
use Rattle.plane.specs.declared.points.Point.{Point}
use Rattle.plane.specs.declared.boxes.BoundingBox.{BoundingBox}
use Rattle.plane.specs.lines.Line.{one_if, line_of}
use Rattle.plane.specs.declared.lines.Crossing.{Crossing}
use Rattle.plane.specs.declared.lines.Crossing.TheVariants.{One, Two}
use Rattle.plane.specs.rays.Ray.{either_of, order_pick, order_by, order_one, order_two, order_of, ray_of}
use Rattle.plane.specs.rays.Rules.{met_by, line_answer, ray_answer}
use Rattle.plane.specs.given.Tried.{tried_by}
use Rattle.plane.specs.declared.given.Given.{Given}
use Rattle.base.specs.declared.refusal.Refusal.{Refusal}

-- ---- the order on the ray
pub by_calls :
    (d da db x y u v : Float) {s s₁ s₂ m m₁ : Float} {r : Crossing}
    → s ≡ signum d → s₁ ≡ signum da → s₂ ≡ signum db → m ≡ magnitude da → m₁ ≡ magnitude db
    → r ≡ order_pick (eq s s₁) (eq s s₂) (lt m₁ m) x y u v → r ≡ order_by d da db x y u v
unfolding order_by
by_calls d da db x y u v e₁ e₂ e₃ e₄ e₅ k = rw (← e₁, ← e₂, ← e₃, ← e₄, ← e₅) k

either_by :
    (t : Bool) (d d₁ a a₁ b b₁ x y u v : Float)
    → either_of t (order_by d a b x y u v) (order_by d₁ a₁ b₁ x y u v) ≡ order_by (cond t d d₁) (cond t a a₁) (cond t b b₁) x y u v
unfolding either_of
either_by true d d₁ a a₁ b b₁ x y u v = refl
either_by false d d₁ a a₁ b b₁ x y u v = refl

pub one_calls :
    (dir : Point) (x y : Float) {s s₁ s₂ s₃ : Float} {r : Crossing}
    → s ≡ signum dir.x → s₁ ≡ signum x → s₂ ≡ signum dir.y → s₃ ≡ signum y → r ≡ one_if (eq s s₁ && eq s₂ s₃) x y → r ≡ order_one dir x y
unfolding order_one
one_calls dir x y e₁ e₂ e₃ e₄ k = rw (← e₁, ← e₂, ← e₃, ← e₄) k

module _ (p dir : Point) where
  pub two_calls :
      (x y u v : Float) {m m₁ s a b : Float} {r : Crossing}
      → m ≡ magnitude dir.x → m₁ ≡ magnitude dir.y → s ≡ cond (lt m₁ m) dir.x dir.y → a ≡ cond (lt m₁ m) (x ⊟ p.x) (y ⊟ p.y)
      → b ≡ cond (lt m₁ m) (u ⊟ p.x) (v ⊟ p.y) → r ≡ order_by s a b x y u v → r ≡ order_two p dir x y u v
  unfolding order_two
  two_calls x y u v e₁ e₂ e₃ e₄ e₅ k = rw (← e₁, ← e₂, either_by _ dir.x dir.y (x ⊟ p.x) (y ⊟ p.y) (u ⊟ p.x) (v ⊟ p.y) x y u v, ← e₃, ← e₄, ← e₅) k

  pub order_one_lem : (x y : Float) {c r : Crossing} → c ≡ One x y → r ≡ order_one dir x y → r ≡ order_of p dir c
  order_one_lem x y e k = rw e k

  pub order_two_lem : (x y u v : Float) {c r : Crossing} → c ≡ Two x y u v → r ≡ order_two p dir x y u v → r ≡ order_of p dir c
  order_two_lem x y u v e k = rw e k

  pub ray_calls : (b : BoundingBox) {l r : Crossing} → l ≡ line_of b p (at (p.x ⊞ dir.x) (p.y ⊞ dir.y)) → r ≡ order_of p dir l → r ≡ ray_of b p dir
  unfolding ray_of
  ray_calls b e k = rw (← e) k

-- ---- the public line and ray: c is what they meet in the box
pub tried_met : (t u : Bool) (c : Crossing) {x : Unit {0}} → Ok x ≡ tried_by t u → met_by t u c ≡ Ok c
unfolding met_by
tried_met true true c h = refl
tried_met true false c h = absurd (cc)
tried_met false u c h = absurd (cc)

pub tried_refused : (t u : Bool) (c : Crossing) {r : Refusal} → Err r ≡ tried_by t u → met_by t u c ≡ Err r
unfolding met_by
tried_refused true true c h = absurd (cc)
tried_refused true false c h = cc
tried_refused false u c h = cc

module _ {s s₁ : Bool} (given : Given) (p q : Point) (e₁ : s ≡ ok_site p) (e₂ : s₁ ≡ ok_site q) where
  pub line_met : {x : Unit {0}} {c : Crossing} → Ok x ≡ tried_by given.sound (s && s₁) → c ≡ line_of given.bounds p q → line_answer given p q ≡ Ok c
  unfolding line_answer
  line_met {x} {c} h e = rw (← e₁, ← e₂, ← e) (tried_met given.sound (s && s₁) c h)

  pub line_refused : {r : Refusal} → Err r ≡ tried_by given.sound (s && s₁) → line_answer given p q ≡ Err r
  unfolding line_answer
  line_refused h = rw (← e₁, ← e₂) (tried_refused given.sound (s && s₁) (line_of given.bounds p q) h)

  pub ray_met : {x : Unit {0}} {c : Crossing} → Ok x ≡ tried_by given.sound (s && s₁) → c ≡ ray_of given.bounds p q → ray_answer given p q ≡ Ok c
  unfolding ray_answer
  ray_met {x} {c} h e = rw (← e₁, ← e₂, ← e) (tried_met given.sound (s && s₁) c h)

  pub ray_refused : {r : Refusal} → Err r ≡ tried_by given.sound (s && s₁) → ray_answer given p q ≡ Err r
  unfolding ray_answer
  ray_refused h = rw (← e₁, ← e₂) (tried_refused given.sound (s && s₁) (ray_of given.bounds p q) h)
