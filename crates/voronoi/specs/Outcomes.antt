-- How demand 1 speaks of a call's outcomes: no two are allowed for one input, and what a refusal leaves in the lent slices.
use Rattle.std.specs.Prelude.{◌≡◌, List, ◌≢◌, ℕ, ◌≤◌, ◌<◌, Float, length, replicate}
use Rattle.base.specs.numbers.Numbers.{EMPTY}
use Rattle.base.specs.common.Binary64.{zero}
use Rattle.admission.specs.Slices.{Slices}
use Rattle.cutting_calls.specs.cut_admission.CutSlices.{CutSlices}
use Rattle.mending.specs.slices.Lent.{Lent}
use Rattle.flipping.specs.call.Flips.{FlipLists}

-- ---- one outcome

-- no two outcomes are allowed: of one part, of two, ..
abbrev pub One : {A : Type 0} → (A → Type 0) → Type 0
One {A} P = (a a' : A) → P a → P a' → a ≡ a'

abbrev pub One₂ : {A B : Type 0} → (A → B → Type 0) → Type 0
One₂ {A} {B} P = (a a' : A) (b b' : B) → P a b → P a' b' → (a ≡ a') × (b ≡ b')

abbrev pub One₃ : {A B C : Type 0} → (A → B → C → Type 0) → Type 0
One₃ {A} {B} {C} P = (a a' : A) (b b' : B) (c c' : C) → P a b c → P a' b' c' → (a ≡ a') × (b ≡ b') × (c ≡ c')

-- a list handed out: number, work slice, output slice, count, ended
abbrev pub OneList : (ℕ → List ℕ → List ℕ → ℕ → ℕ → Type 0) → Type 0
OneList P = (r r' : ℕ) (w w' o o' : List ℕ) (k k' e e' : ℕ) → P r w o k e → P r' w' o' k' e' → (r ≡ r') × (w ≡ w') × (o ≡ o') × (k ≡ k')
    × (e ≡ e')

-- a mesh mended: number, slices, hull's length, changes of pairs and of the hull
abbrev pub OneMend : (ℕ → Lent → ℕ → ℕ → ℕ → Type 0) → Type 0
OneMend P = (r r' : ℕ) (l l' : Lent) (k k' p p' q q' : ℕ) → P r l k p q → P r' l' k' p' q' → (r ≡ r') × (l ≡ l') × (k ≡ k') × (p ≡ p') × (q ≡ q')

-- a mesh on the grid checked: number, kind, place, work slice
abbrev pub OneGrid : (ℕ → ℕ → ℕ → List ℕ → Type 0) → Type 0
OneGrid P = (r r' k k' p p' : ℕ) (w w' : List ℕ) → P r k p w → P r' k' p' w' → (r ≡ r') × (k ≡ k') × (p ≡ p') × (w ≡ w')

-- the neighbours of all sites: number, work slice, starts, output slice
abbrev pub OneAll : (ℕ → List ℕ → List ℕ → List ℕ → Type 0) → Type 0
OneAll P = (r r' : ℕ) (w w' st st' o o' : List ℕ) → P r w st o → P r' w' st' o' → (r ≡ r') × (w ≡ w') × (st ≡ st') × (o ≡ o')

-- the polygons of all cells: number, bytes written, starts, output
abbrev pub OneImages : (ℕ → ℕ → List ℕ → List ℕ → Type 0) → Type 0
OneImages P = (r r' k k' : ℕ) (st st' o o' : List ℕ) → P r k st o → P r' k' st' o' → (r ≡ r') × (k ≡ k') × (st ≡ st') × (o ≡ o')

-- with the hull: number, kind, place, unused site, work slice
abbrev pub OneNearest : (ℕ → ℕ → ℕ → ℕ → List ℕ → Type 0) → Type 0
OneNearest P = (r r' k k' p p' u u' : ℕ) (w w' : List ℕ) → P r k p u w → P r' k' p' u' w' → (r ≡ r') × (k ≡ k') × (p ≡ p') × (u ≡ u') × (w ≡ w')

-- an audit: number, kind, site, vertex, other, missing share
abbrev pub OneAudit : (ℕ → ℕ → ℕ → ℕ → ℕ → Float → Type 0) → Type 0
OneAudit P = (r r' k k' s s' e e' o o' : ℕ) (m m' : Float) → P r k s e o m → P r' k' s' e' o' m' → (r ≡ r') × (k ≡ k') × (s ≡ s') × (e ≡ e') × (o ≡ o') × (m ≡ m')

-- a certificate: number, kind, site, vertex, other, work slice
abbrev pub OneCertificate : (ℕ → ℕ → ℕ → ℕ → ℕ → List ℕ → Type 0) → Type 0
OneCertificate P = (r r' k k' s s' e e' o o' : ℕ) (w w' : List ℕ) → P r k s e o w → P r' k' s' e' o' w' → (r ≡ r') × (k ≡ k') × (s ≡ s') × (e ≡ e') × (o ≡ o') × (w ≡ w')

-- crossings: number, count, two points
abbrev pub OneMeeting : (ℕ → ℕ → Float → Float → Float → Float → Type 0) → Type 0
OneMeeting P = (n n' k k' : ℕ) (x x' y y' u u' v v' : Float) → P n k x y u v → P n' k' x' y' u' v' → (n ≡ n') × (k ≡ k') × (x ≡ x')
    × (y ≡ y') × (u ≡ u') × (v ≡ v')

-- a box: number, edges, size
abbrev pub OneBox : (ℕ → Float → Float → Float → Float → Float → Float → Type 0) → Type 0
OneBox P = (n n' : ℕ) (l l' t t' r r' b b' a a' d d' : Float) → P n l t r b a d → P n' l' t' r' b' a' d'
    → (n ≡ n') × (l ≡ l') × (t ≡ t') × (r ≡ r') × (b ≡ b') × (a ≡ a') × (d ≡ d')

-- its center instead of its edges
abbrev pub OneCenter : (ℕ → Float → Float → Float → Float → Type 0) → Type 0
OneCenter P = (n n' : ℕ) (x x' y y' a a' d d' : Float) → P n x y a d → P n' x' y' a' d' → (n ≡ n') × (x ≡ x') × (y ≡ y') × (a ≡ a') × (d ≡ d')

-- ---- refused

-- a slice after the refusal r: as it was up to 6, cleared over its whole length from 7 on
pub record SliceRefused {A : Type 0} (blank : A) (old new : List A) (r : ℕ) : Type 0 where
  pub kept : r < 7 → new ≡ old
  pub cleared : 7 ≤ r → new ≡ replicate (length old) blank

-- a call that hands out a list: its output slice is as it was after 16 too
pub record ListRefused (w w' o o' : List ℕ) (k e r : ℕ) : Type 0 where
  pub work : SliceRefused EMPTY w w' r
  pub out : r ≢ 16 → SliceRefused EMPTY o o' r
  pub out_16 : r ≡ 16 → o' ≡ o
  pub count : k ≡ 0
  pub ended : e ≡ 0

-- the neighbours of all sites: starts and output are as they were after 16 too
pub record AllRefused (w w' st st' o o' : List ℕ) (r : ℕ) : Type 0 where
  pub work : SliceRefused EMPTY w w' r
  pub starts : r ≢ 16 → SliceRefused EMPTY st st' r
  pub out : r ≢ 16 → SliceRefused EMPTY o o' r
  pub kept_16 : r ≡ 16 → (st' ≡ st) × (o' ≡ o)

-- the polygons of all cells: nothing is written
pub record ImagesRefused (st st' o o' : List ℕ) (k : ℕ) : Type 0 where
  pub starts : st' ≡ st
  pub out : o' ≡ o
  pub written : k ≡ 0

pub record BuildRefused (old new : Slices) (r : ℕ) : Type 0 where
  pub work : SliceRefused EMPTY old.work new.work r
  pub vertices : SliceRefused zero old.vertices new.vertices r
  pub indexes : SliceRefused EMPTY old.indexes new.indexes r
  pub offsets : SliceRefused EMPTY old.offsets new.offsets r
  pub counts : SliceRefused EMPTY old.counts new.counts r

-- cutting, whose count is none then
pub record CutRefused (old new : CutSlices) (r count : ℕ) : Type 0 where
  pub work : SliceRefused EMPTY old.work new.work r
  pub vertices : SliceRefused zero old.vertices new.vertices r
  pub indexes : SliceRefused EMPTY old.indexes new.indexes r
  pub offsets : SliceRefused EMPTY old.offsets new.offsets r
  pub none : count ≡ 0

-- a flip changes nothing but the work slice
pub record FlipRefused (old new : FlipLists) (r : ℕ) : Type 0 where
  pub triangles : new.triangles ≡ old.triangles
  pub halfedges : new.halfedges ≡ old.halfedges
  pub table : new.table ≡ old.table
  pub work : SliceRefused EMPTY old.work new.work r
