-- The window of a ring: four edges such that no corner of the ring is nearer to what stands at one of them or past it. The tests in floats, in this order of operations. Definitions only.
use Rattle.std.specs.Prelude.{◌≡◌, Bool, true, false, ◌&&◌, ◌||◌, List, ◌⊎◌, ℕ, ◌+◌, ◌≤◌, ◌<◌, Float, length, get_or}
use Rattle.std.specs.Float.{nan, inf, fin}
use Rattle.std.specs.Float.Ieee.{lt, le}
use Rattle.base.specs.common.Binary64.{◌⊞◌, ◌⊟◌, ◌⊠◌, zero}
use Rattle.base.specs.common.Pick.{pick}
use Rattle.plane.specs.points.Flat.{point_at}
use Rattle.plane.specs.declared.points.Point.{Point}
use Rattle.audit_truth.specs.Exact.{plus_units, minus_units}
use Rattle.audit_truth.specs.Held.{HeldWithin}
use Rattle.certifying.specs.call.Verdict.{larger_of}
use Rattle.certifying.specs.declared.windows.Window.{Window}

-- ---- values
-- not below 0, and no -0
abbrev pub NotMinus : Float → Type 0
NotMinus nan = Unit {0}
NotMinus (inf s) = s ≡ false
NotMinus (fin s m e) = s ≡ false

-- x is not above y, on whole numbers
abbrev pub NotAbove : Float → Float → Type 0
NotAbove x y = plus_units x + minus_units y ≤ minus_units x + plus_units y

-- y where it is below x, else x
unfoldable pub lesser_of : Float → Float → Float
lesser_of x y = pick (lt y x) (λ _. y) (λ _. x)

-- ---- the tests
-- twice the square of the corners' reach from s along an axis
unfoldable pub most_of : Float → Float → Float → Float
most_of s l r = let u = larger_of (r ⊟ s) (s ⊟ l) in (u ⊞ u) ⊠ u

-- two gaps along an axis, and what the other axis can add
unfoldable pub clear_of : Float → Float → Float → Bool
clear_of p q most = lt zero p && lt zero q && le most (p ⊠ q)

-- along one axis, from low to high
unfoldable pub kept_along : Float → Float → Float → Float → Float → Bool
kept_along s v low high most = clear_of (high ⊟ s) ((high ⊟ v) ⊟ (v ⊟ s)) most && clear_of (s ⊟ low) ((v ⊟ low) ⊟ (s ⊟ v)) most

-- the window keeps what is nearer to corner v of the piece of s
unfoldable pub window_kept : Window → Point → Point → Bool
window_kept w s v =
    kept_along s.x v.x w.left w.right (most_of s.y v.y v.y) && kept_along s.y v.y w.top w.bottom (most_of s.x v.x v.x)

-- what stands from l to r and from t to b is right of the window, left of it, below or above
unfoldable pub off_of : Window → Float → Float → Float → Float → Bool
off_of w l t r b = le w.right l || le r w.left || le w.bottom t || le b w.top

-- ---- what they are for
pub record EdgesHeld (w : Window) : Type 0 where
  pub left : HeldWithin 400 w.left
  pub top : HeldWithin 400 w.top
  pub right : HeldWithin 400 w.right
  pub bottom : HeldWithin 400 w.bottom

-- of a ring's corners
pub record WindowKeeps (w : Window) (s : Point) (v : List Float) (cell : List ℕ) : Type 0 where
  pub edges : EdgesHeld w
  pub each : (k : ℕ) → k < length cell → window_kept w s (point_at v (get_or cell k 0)) ≡ true

abbrev pub OffWindow : Window → Point → Type 0
OffWindow w o = (NotAbove w.right o.x ⊎ NotAbove o.x w.left) ⊎ (NotAbove w.bottom o.y ⊎ NotAbove o.y w.top)
