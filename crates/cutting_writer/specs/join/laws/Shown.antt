-- What a vertex number stands for, and that the number a pen gives to a place stands for it: a circumcenter's own, that of a corner of the box at the same place, or the next (`written_shown`).
use Rattle.std.specs.Prelude.{◌≡◌, Bool, ◌&&◌, List, ◌⊎◌, ℕ, ◌+◌, ◌*◌, ◌≤◌, ◌<◌, eqb, Float, length, get_or, set}
use Rattle.std.proofs.Math.Path.{refl}
use Rattle.std.proofs.Common.{sym, subst, ◌∙◌, length-set, get_or-set_same, get_or-set_other, eq-eqb, ne_eqb}
use Rattle.std.proofs.Math.Bool.{true, false}
use Rattle.std.proofs.Math.Logic.{inl, inr, ⊎_elim}
use native.Mathlib.Omega.{arith}
use Rattle.std.specs.Float.{nan}
use Rattle.std.specs.Float.Ieee.{eq}
use Rattle.std.proofs.lemmas.Bool.{eqb-false}
use Rattle.base.specs.common.Pick.{pick}
use Rattle.base.specs.numbers.Numbers.{EMPTY}
use Rattle.plane.specs.points.Plane.{at}
use Rattle.plane.specs.points.Flat.{point_at}
use Rattle.plane.specs.declared.points.Point.{Point}
use Rattle.plane.specs.declared.boxes.BoundingBox.{BoundingBox}
use Rattle.cutting.specs.pen.Pen.{same_place, column_number, corner_number, number_for, count_with, added_vertex, Page, written_as}

-- vertex n is the place p, or one that equals it by value
abbrev pub Shown : List Float → ℕ → Point → Type 0
Shown v n p = (point_at v n ≡ p) ⊎ (same_place p (point_at v n) ≡ true)

-- the box's corners stand after the circumcenters
pub record CornersIn (b : BoundingBox) (centers : ℕ) (v : List Float) : Type 0 where
  pub first : point_at v centers ≡ at b.left b.top
  pub second : point_at v (centers + 1) ≡ at b.left b.bottom
  pub third : point_at v (centers + 2) ≡ at b.right b.bottom
  pub fourth : point_at v (centers + 3) ≡ at b.right b.top

-- a place of a circumcenter, with its number, or of none
abbrev pub Numbered : ℕ → List Float → Point → ℕ → Type 0
Numbered centers v p n = (n ≡ EMPTY) ⊎ ((n < centers) × (point_at v n ≡ p))

pub point_kept : (v w : List Float) (c n : ℕ) → ((i : ℕ) → i < 2 * c → get_or w i nan ≡ get_or v i nan) → n < c → point_at w n ≡ point_at v n
point_kept v w c n kept l = let x = kept (2 * n) (omega arith) in let y = kept (2 * n + 1) (omega arith) in rw (x, y) refl

moved : (p z w : Point) → z ≡ w → same_place p w ≡ true → same_place p z ≡ true
moved p z w e h = subst (λ (y : Point). same_place p y ≡ true) (sym e) h

pub shown_kept : (v w : List Float) (c n : ℕ) (p : Point) → ((i : ℕ) → i < 2 * c → get_or w i nan ≡ get_or v i nan) → n < c → Shown v n p → Shown w n p
shown_kept v w c n p kept l (inl q) = inl (point_kept v w c n kept l ∙ q)
shown_kept v w c n p kept l (inr q) = inr (moved p (point_at w n) (point_at v n) (point_kept v w c n kept l) q)

both : (x y : Bool) → x ≡ true → y ≡ true → (x && y) ≡ true
both x y p q = rw (p, q) refl

module _ (b : BoundingBox) (centers : ℕ) (v : List Float) (corners : CornersIn b centers v) (p : Point) (none : ℕ) where
  -- it is a corner's number, or none
  abbrev Found : ℕ → Type 0
  Found n = (n ≡ none) ⊎ ((n < centers + 4) × (same_place p (point_at v n) ≡ true))

  on_left : eq p.x b.left ≡ true → Found (column_number p.y b.top b.bottom centers (centers + 1) none)
  unfolding column_number
  on_left h = go (eq p.y b.top) refl (eq p.y b.bottom) refl
    where
      go : (s : Bool) → eq p.y b.top ≡ s → (z : Bool) → eq p.y b.bottom ≡ z → Found (pick s (λ _. centers) (λ _. pick z (λ _. centers + 1) (λ _. none)))
      go true q z r = inr (omega arith, moved p (point_at v centers) _ corners.first (both (eq p.x b.left) (eq p.y b.top) h q))
      go false q true r = inr (omega arith, moved p (point_at v (centers + 1)) _ corners.second (both (eq p.x b.left) (eq p.y b.bottom) h r))
      go false q false r = inl refl

  on_right : eq p.x b.right ≡ true → Found (column_number p.y b.top b.bottom (centers + 3) (centers + 2) none)
  unfolding column_number
  on_right h = go (eq p.y b.top) refl (eq p.y b.bottom) refl
    where
      go : (s : Bool) → eq p.y b.top ≡ s → (z : Bool) → eq p.y b.bottom ≡ z → Found (pick s (λ _. centers + 3) (λ _. pick z (λ _. centers + 2) (λ _. none)))
      go true q z r = inr (omega arith, moved p (point_at v (centers + 3)) _ corners.fourth (both (eq p.x b.right) (eq p.y b.top) h q))
      go false q true r = inr (omega arith, moved p (point_at v (centers + 2)) _ corners.third (both (eq p.x b.right) (eq p.y b.bottom) h r))
      go false q false r = inl refl

  corner_found : Found (corner_number b centers p none)
  unfolding corner_number
  corner_found = go (eq p.x b.left) refl (eq p.x b.right) refl
    where
      go : (s : Bool) → eq p.x b.left ≡ s → (z : Bool) → eq p.x b.right ≡ z
          → Found (pick s (λ _. column_number p.y b.top b.bottom centers (centers + 1) none)
          (λ _. pick z (λ _. column_number p.y b.top b.bottom (centers + 3) (centers + 2) none) (λ _. none)))
      go true q z r = on_left q
      go false q true r = on_right r
      go false q false r = inl refl

placed : (k : ℕ) (w : List Float) (q : Point) → 2 * k + 1 < length w → point_at (set (set w (2 * k) q.x) (2 * k + 1) q.y) k ≡ q
placed k w q l =
    let x : get_or (set (set w (2 * k) q.x) (2 * k + 1) q.y) (2 * k) nan ≡ q.x =
    get_or-set_other (set w (2 * k) q.x) (2 * k + 1) (2 * k) q.y nan (λ e. omega arith) ∙ get_or-set_same w (2 * k) q.x nan (omega arith) in
    let y : get_or (set (set w (2 * k) q.x) (2 * k + 1) q.y) (2 * k + 1) nan ≡ q.y =
    get_or-set_same (set w (2 * k) q.x) (2 * k + 1) q.y nan (omega (arith, length-set w (2 * k) q.x)) in
    rw (x, y) refl

-- the vertices of page g begin as v does: circumcenters and corners
pub record Based (centers : ℕ) (v : List Float) (g : Page) : Type 0 where
  pub many : centers + 4 ≤ g.pen.count
  pub kept : (i : ℕ) → i < 2 * (centers + 4) → get_or g.vertices i nan ≡ get_or v i nan

module _ (b : BoundingBox) (centers : ℕ) (v : List Float) (corners : CornersIn b centers v) (small : centers < EMPTY) (g : Page) (based : Based centers v g) (p : Point)
    (number : ℕ) (numbered : Numbered centers v p number)
  where
    abbrev n : ℕ
    n = number_for b centers g.pen.count p number

    -- the next number, or one that stands for p already
    numbers : (n ≡ g.pen.count) ⊎ ((n < g.pen.count) × Shown g.vertices n p)
    unfolding number_for
    numbers = go (eqb number EMPTY) refl
      where
        known : (k : ℕ) → k < centers + 4 → Shown v k p → (k < g.pen.count) × Shown g.vertices k p
        known k l s = (omega (arith, based.many), shown_kept v g.vertices (centers + 4) k p based.kept l s)

        own : (number ≡ EMPTY → ⊥) → (number < g.pen.count) × Shown g.vertices number p
        own d = ⊎_elim (λ e. absurd (d e)) (λ e. known number (omega (arith, e.0)) (inl e.1)) numbered

        go : (t : Bool) → eqb number EMPTY ≡ t → (pick t (λ _. corner_number b centers p g.pen.count) (λ _. number) ≡ g.pen.count)
            ⊎ ((pick t (λ _. corner_number b centers p g.pen.count) (λ _. number) < g.pen.count) × Shown g.vertices (pick t (λ _. corner_number b centers p g.pen.count) (λ _. number)) p)
        go true q = ⊎_elim inl (λ f. inr (known (corner_number b centers p g.pen.count) f.0 (inr f.1))) (corner_found b centers v corners p g.pen.count)
        go false q = inr (own (eqb-false number EMPTY q))

    pub written_shown : (n ≡ g.pen.count → 2 * g.pen.count + 1 < length g.vertices)
        → (n < (written_as n g p).pen.count) × Shown (written_as n g p).vertices n p
    unfolding written_as added_vertex count_with
    written_shown room = ⊎_elim fresh known numbers
      where
        fresh : n ≡ g.pen.count → (n < (written_as n g p).pen.count) × Shown (written_as n g p).vertices n p
        fresh e = rw (eq-eqb n g.pen.count e) (omega arith, inl (placed n g.vertices p (rw (← e) at (room e))))

        known : (n < g.pen.count) × Shown g.vertices n p → (n < (written_as n g p).pen.count) × Shown (written_as n g p).vertices n p
        known s = rw (ne_eqb n g.pen.count (λ e. omega (arith, s.0))) s
