-- What the steps of the search owe each other. Definitions only.
use Rattle.std.specs.Prelude.{◌≡◌, Bool, true, false, List, ◌⊎◌, ℕ, ◌+◌, ◌*◌, ◌/◌, ◌≤◌, ◌<◌, Float, length, get_or, set}
use Rattle.std.specs.Float.{nan}
use Rattle.ring_area.specs.lowest.Lowest.{any_below}
use Rattle.plane.specs.points.Finite.{BoundedPoint}
use Rattle.plane.specs.points.Flat.{point_at}
use Rattle.plane.specs.declared.points.Point.{Point}
use Rattle.walks.specs.shared.Cells.{cell_of}
use Rattle.arguments.specs.entries.Named.{EntriesNamed}
use Rattle.auditing.specs.nearer.Steps.{PiecesKept}
use Rattle.audit_truth.specs.Held.{HeldPoint}
use Rattle.certifying.specs.declared.windows.Window.{Window}
use Rattle.certifying.specs.windows.Windows.{NotMinus, NotAbove, off_of, EdgesHeld, WindowKeeps, OffWindow}
use Rattle.certifying.specs.tree.Tree.{corner_past}

-- ---- values
pub record SitesHeld (sites : List Float) : Type 0 where
  pub each : (i : ℕ) → i < length sites / 2 → HeldPoint (point_at sites i)

pub record CornersHeld (v : List Float) (cell : List ℕ) : Type 0 where
  pub each : (k : ℕ) → k < length cell → HeldPoint (point_at v (get_or cell k 0))

-- ---- nodes: four sites whose coordinates hold those of others
unfoldable pub coord_at : List Float → ℕ → ℕ → Float
coord_at sites i axis = get_or sites (2 * i + axis) nan

pub record TwoSites (sites : List Float) (a b axis : ℕ) : Type 0 where
  pub held : SitesHeld sites
  pub first : a < length sites / 2
  pub second : b < length sites / 2
  pub flat : axis < 2

pub record Lower (sites : List Float) (a b axis r : ℕ) : Type 0 where
  pub named : r < length sites / 2
  pub own : NotAbove (coord_at sites r axis) (coord_at sites a axis)
  pub other : NotAbove (coord_at sites r axis) (coord_at sites b axis)

pub record Higher (sites : List Float) (a b axis r : ℕ) : Type 0 where
  pub named : r < length sites / 2
  pub own : NotAbove (coord_at sites a axis) (coord_at sites r axis)
  pub other : NotAbove (coord_at sites b axis) (coord_at sites r axis)

pub record FourNamed (sites : List Float) (l t r b : ℕ) : Type 0 where
  pub left : l < length sites / 2
  pub top : t < length sites / 2
  pub right : r < length sites / 2
  pub bottom : b < length sites / 2

pub record Boxes (sites : List Float) (l t r b o : ℕ) : Type 0 where
  pub left : NotAbove (point_at sites l).x (point_at sites o).x
  pub top : NotAbove (point_at sites t).y (point_at sites o).y
  pub right : NotAbove (point_at sites o).x (point_at sites r).x
  pub bottom : NotAbove (point_at sites o).y (point_at sites b).y

pub record Widens (sites : List Float) (l t r b o l' t' r' b' : ℕ) : Type 0 where
  pub named : FourNamed sites l' t' r' b'
  pub new : Boxes sites l' t' r' b' o
  pub old : (p : ℕ) → Boxes sites l t r b p → Boxes sites l' t' r' b' p

pub record BoxesFrom (sites : List Float) (room : List ℕ) (from to l t r b : ℕ) : Type 0 where
  pub named : FourNamed sites l t r b
  pub each : (j : ℕ) → from ≤ j → j < to → Boxes sites l t r b (get_or room j 0)

-- ---- the order: each of n numbers has a place
pub record PlaceOf (n : ℕ) (room : List ℕ) (i : ℕ) : Type 0 where
  pub place : ℕ
  pub within : place < n
  pub is : get_or room place 0 ≡ i

pub record Order (n : ℕ) (room : List ℕ) : Type 0 where
  pub long : n ≤ length room
  pub named : (j : ℕ) → j < n → get_or room j 0 < n
  pub placed : (i : ℕ) → i < n → PlaceOf n room i

pub record Reordered (n : ℕ) (before after : List ℕ) : Type 0 where
  pub order : Order n after
  pub same : length after ≡ length before

abbrev pub swapped : List ℕ → ℕ → ℕ → List ℕ
swapped l i j = set (set l i (get_or l j 0)) j (get_or l i 0)

-- ---- a level: the nodes of blocks of w places, four words each
abbrev pub NodeNamed : List Float → List ℕ → ℕ → Type 0
NodeNamed sites room at = FourNamed sites (get_or room at 0) (get_or room (at + 1) 0) (get_or room (at + 2) 0) (get_or room (at + 3) 0)

abbrev pub NodeHolds : List Float → List ℕ → ℕ → ℕ → Type 0
NodeHolds sites room at o = Boxes sites (get_or room at 0) (get_or room (at + 1) 0) (get_or room (at + 2) 0) (get_or room (at + 3) 0) o

pub record NodeBoxes (sites : List Float) (w base b : ℕ) (room : List ℕ) : Type 0 where
  pub named : NodeNamed sites room (base + 4 * b)
  pub each : (j : ℕ) → b * w ≤ j → j < b * w + w → j < length sites / 2 → NodeHolds sites room (base + 4 * b) (get_or room j 0)

pub record FillSafe (sites : List Float) (room : List ℕ) (w base : ℕ) : Type 0 where
  pub held : SitesHeld sites
  pub order : Order (length sites / 2) room
  pub few : length sites / 2 ≤ 65536
  pub some : 0 < w
  pub most : w ≤ 4096
  pub after : length sites / 2 ≤ base
  pub fits : base + 4 * (length sites / 2 / w + 1) ≤ length room

-- what stands before a place is as it was
pub record SameBefore (p : ℕ) (before after : List ℕ) : Type 0 where
  pub same : length after ≡ length before
  pub each : (i : ℕ) → i < p → get_or after i 0 ≡ get_or before i 0

pub record NodeFilled (sites : List Float) (w base b : ℕ) (before after : List ℕ) : Type 0 where
  pub kept : SameBefore (base + 4 * b) before after
  pub node : NodeBoxes sites w base b after

pub record NodesTo (sites : List Float) (w base b : ℕ) (before after : List ℕ) : Type 0 where
  pub kept : SameBefore base before after
  pub nodes : (i : ℕ) → i < b → NodeBoxes sites w base i after

pub record Level (sites : List Float) (room : List ℕ) (w base : ℕ) : Type 0 where
  pub some : 0 < w
  pub after : length sites / 2 ≤ base
  pub fits : base + 4 * (length sites / 2 / w + 1) ≤ length room
  pub nodes : (i : ℕ) → i * w < length sites / 2 → NodeBoxes sites w base i room

pub record LevelFilled (sites : List Float) (w base : ℕ) (before after : List ℕ) : Type 0 where
  pub kept : SameBefore base before after
  pub level : Level sites after w base

abbrev pub base256 : ℕ → ℕ
base256 n = n + 4 * (n / 16 + 1)

abbrev pub base4096 : ℕ → ℕ
base4096 n = n + 4 * (n / 16 + n / 256 + 2)

pub record TreeOf (sites : List Float) (room : List ℕ) : Type 0 where
  pub order : Order (length sites / 2) room
  pub few : length sites / 2 ≤ 65536
  pub fine : Level sites room 16 (length sites / 2)
  pub middle : Level sites room 256 (base256 (length sites / 2))
  pub coarse : Level sites room 4096 (base4096 (length sites / 2))

-- ---- the search
abbrev pub node_off : List Float → List ℕ → Window → ℕ → Bool
node_off sites room w at =
    off_of w (point_at sites (get_or room at 0)).x (point_at sites (get_or room (at + 1) 0)).y (point_at sites (get_or room (at + 2) 0)).x (point_at sites (get_or room (at + 3) 0)).y

-- the sites at these places are off the window
abbrev pub OffFrom : List Float → List ℕ → Window → ℕ → ℕ → Type 0
OffFrom sites room w from to = (i : ℕ) → from ≤ i → i < to → i < length sites / 2 → OffWindow w (point_at sites (get_or room i 0))

pub record LevelSafe (sites : List Float) (room : List ℕ) (w base : ℕ) (c : Window) : Type 0 where
  pub held : SitesHeld sites
  pub order : Order (length sites / 2) room
  pub level : Level sites room w base
  pub edges : EdgesHeld c

pub record RingSafe (far : Float) (sites : List Float) (room : List ℕ) (w : Window) (s : Point) (v : List Float) (cell : List ℕ) : Type 0 where
  pub plus : NotMinus far
  pub tree : TreeOf sites room
  pub held : SitesHeld sites
  pub own : HeldPoint s
  pub keeps : WindowKeeps w s v cell
  pub named : EntriesNamed cell (length v / 2)
  pub corners : CornersHeld v cell

-- a place whose site a corner is nearer to
pub record FoundPast (far : Float) (sites : List Float) (room : List ℕ) (s : Point) (v : List Float) (cell : List ℕ) : Type 0 where
  pub place : ℕ
  pub within : place < length sites / 2
  pub past : any_below (corner_past far s (point_at sites (get_or room place 0)) v cell) (length cell) ≡ true

pub record PassedFrom (far : Float) (sites : List Float) (room : List ℕ) (s : Point) (v : List Float) (cell : List ℕ) (j r : ℕ) : Type 0 where
  pub none : (i : ℕ) → j ≤ i → i < j + r → i < length sites / 2 → (k : ℕ) → k < length cell → corner_past far s (point_at sites (get_or room i 0)) v cell k ≡ false
  pub stop : r ≡ 0 → FoundPast far sites room s v cell
  pub most : r ≤ 4096

-- the places that are listed
pub record ListedAt (list : List ℕ) (count i : ℕ) : Type 0 where
  pub at : ℕ
  pub below : at < count
  pub is : get_or list at 0 ≡ i

pub record PlacesNamed (n count : ℕ) (list : List ℕ) : Type 0 where
  pub few : count ≤ length list
  pub each : (k : ℕ) → k < count → get_or list k 0 < n

pub record Sifted (sites : List Float) (room : List ℕ) (w : Window) (from to count : ℕ) (list : List ℕ) : Type 0 where
  pub few : from + count ≤ to
  pub named : (k : ℕ) → k < count → get_or list k 0 < to
  pub each : (i : ℕ) → from ≤ i → i < to → OffWindow w (point_at sites (get_or room i 0)) ⊎ ListedAt list count i

-- every listed place was asked, or one was found
pub record ListedAsked (far : Float) (sites : List Float) (room : List ℕ) (s : Point) (v : List Float) (cell list : List ℕ) (count : ℕ) (t : Bool) : Type 0 where
  pub found : t ≡ true → FoundPast far sites room s v cell
  pub none : t ≡ false → (k : ℕ) → k < count → any_below (corner_past far s (point_at sites (get_or room (get_or list k 0) 0)) v cell) (length cell) ≡ false

pub record PieceSafe (far : Float) (sites : List Float) (room : List ℕ) (v : List Float) (cell : List ℕ) : Type 0 where
  pub plus : NotMinus far
  pub tree : TreeOf sites room
  pub held : SitesHeld sites
  pub named : EntriesNamed cell (length v / 2)
  pub corners : CornersHeld v cell

abbrev pub PiecesHeld : List Float → List Float → List ℕ → List ℕ → Type 0
PiecesHeld sites v off ix = (s : ℕ) → s < length sites / 2 → CornersHeld v (cell_of off ix s)

-- what a caller owes: rules 6, 16, 18 and 24, and a tolerance that is not below 0
pub record TreeSafe (far : Float) (sites v : List Float) (off ix : List ℕ) : Type 0 where
  pub plus : NotMinus far
  pub pieces : PiecesKept sites v off ix
  pub few : length sites / 2 ≤ 65536
  pub sites_bounded : (i : ℕ) → i < length sites / 2 → BoundedPoint 400 (point_at sites i)
  pub corners_bounded : (s : ℕ) → s < length sites / 2 → (k : ℕ) → k < length (cell_of off ix s) → BoundedPoint 400 (point_at v (get_or (cell_of off ix s) k 0))
