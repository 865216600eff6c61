-- The corners that the pen gives a new number, and that on each side of the box they come where a bisector crosses it, and nowhere else (`side_fresh`).
use Rattle.std.specs.Prelude.{◌≡◌, Bool, cond, ◌⊎◌}
use Rattle.std.proofs.Math.Path.{refl}
use Rattle.std.proofs.Common.{sym, ◌∙◌, inl, inr}
use Rattle.std.proofs.Math.Bool.{true, false}
use Rattle.std.proofs.lemmas.Bool.{false≢true}
use Rattle.std.proofs.Math.Dec.{eqb}
use Rattle.std.specs.Float.Ieee.{eq}
use Rattle.base.specs.common.Pick.{pick}
use Rattle.base.specs.numbers.Numbers.{EMPTY}
use Rattle.plane.specs.declared.points.Point.{Point}
use Rattle.plane.specs.declared.boxes.BoundingBox.{BoundingBox}
use Rattle.cutting.specs.corner.Corner.{coordinate, on_side, within_of, near, upper_end, corner_of, Crossings, meet_of, side_of}
use Rattle.cutting.specs.declared.corner.SideName.{SideName}
use Rattle.cutting.specs.declared.corner.SideName.TheVariants.{Left, Top, Right, Bottom}
use Rattle.cutting.specs.declared.corner.Corner.{Corner}
use Rattle.cutting.specs.declared.corner.Carrier.{Carrier}
use Rattle.cutting.specs.declared.corner.Carrier.TheVariants.{Bisector, Along, Infinity}
use Rattle.cutting.specs.pen.Pen.{column_number, corner_number}
use Rattle.cutting.specs.sides.Kept.{Ordered, FitsCarrier}
use Rattle.cutting.specs.sides.laws.Keeping.{lt_le, low_self, high_self, within_left, within_top, within_right, within_bottom}
use Rattle.cutting.specs.rooms.laws.Fresh.{FreshBy}
use Rattle.cutting_writer.specs.join.laws.Equals.{low_equal, high_equal}
use Rattle.cutting_laws.specs.fit.laws.Headed.{HeadedEdge}

-- the place is no corner of the box
unfoldable pub no_corner : BoundingBox → Point → Bool
no_corner b p = eqb (corner_number b 0 p 4) 4

abbrev fresh_by : Bool → Bool → Bool → Bool
fresh_by true n c = false
fresh_by false true c = c
fresh_by false false c = false

abbrev pub fresh : BoundingBox → Corner → Bool
fresh b c = fresh_by c.far (eqb c.number EMPTY) (no_corner b c.place)

abbrev pub bisects : Carrier → Bool
bisects (Bisector i j) = true
bisects (Along s) = false
bisects Infinity = false

module _ (b : BoundingBox) where
  -- a corner of the box is told
  pub corner_told : (p : Point) → (eq p.x b.left ≡ true) ⊎ (eq p.x b.right ≡ true) → (eq p.y b.top ≡ true) ⊎ (eq p.y b.bottom ≡ true) → no_corner b p ≡ false
  unfolding no_corner corner_number column_number
  corner_told p h v = go (eq p.x b.left) (eq p.x b.right) (eq p.y b.top) (eq p.y b.bottom) h v
    where
      go : (l r t m : Bool) → (l ≡ true) ⊎ (r ≡ true) → (t ≡ true) ⊎ (m ≡ true)
          → eqb (pick l (λ _. pick t (λ _. 0) (λ _. pick m (λ _. 1) (λ _. 4))) (λ _. pick r (λ _. pick t (λ _. 3) (λ _. pick m (λ _. 2) (λ _. 4))) (λ _. 4))) 4 ≡ false
      go true r true m h v = refl
      go true r false true h v = refl
      go true r false false h (inl q) = absurd (false≢true q)
      go true r false false h (inr q) = absurd (false≢true q)
      go false true true m h v = refl
      go false true false true h v = refl
      go false true false false h (inl q) = absurd (false≢true q)
      go false true false false h (inr q) = absurd (false≢true q)
      go false false t m (inl q) v = absurd (false≢true q)
      go false false t m (inr q) v = absurd (false≢true q)

  module _ (ordered : Ordered b) (x : Crossings) where
    abbrev l_l : eq b.left b.left ≡ true
    l_l = low_equal b.left b.right ordered.across

    abbrev r_r : eq b.right b.right ≡ true
    r_r = high_equal b.left b.right ordered.across

    abbrev t_t : eq b.top b.top ≡ true
    t_t = low_equal b.top b.bottom ordered.down

    abbrev b_b : eq b.bottom b.bottom ≡ true
    b_b = high_equal b.top b.bottom ordered.down

    -- at a corner of the box there is nothing fresh
    told : (t : Bool) → t ≡ false → fresh_by false (eqb EMPTY EMPTY) t ≡ true → false ≡ true
    told true e h = sym e
    told false e h = h

    abbrev Crosses : SideName → SideName → Corner → Corner → Type 0
    Crosses s o p q = within_of b s p ≡ within_of b s q → ⊥

    sides : (s o : SideName) (H : Point → Type 0) (p q : Corner) → FitsCarrier b H p q (Along o) → Crosses s o p q → fresh b (near (on_side b s (coordinate b o))) ≡ true → false ≡ true
    sides Left Left H p q f d h =
        let w = low_self b.left b.right ordered.across in
        absurd (d (within_left b ordered p b.left f.0.0 f.0.1 w ∙ sym (within_left b ordered q b.left f.1.0 f.1.1 w)))
    sides Left Top H p q f d h = told _ (corner_told (near (on_side b Left b.top)).place (inl l_l) (inl t_t)) h
    sides Left Right H p q f d h =
        let w = lt_le b.left b.right ordered.across in
        absurd (d (within_left b ordered p b.right f.0.0 f.0.1 w ∙ sym (within_left b ordered q b.right f.1.0 f.1.1 w)))
    sides Left Bottom H p q f d h = told _ (corner_told (near (on_side b Left b.bottom)).place (inl l_l) (inr b_b)) h
    sides Top Left H p q f d h = told _ (corner_told (near (on_side b Top b.left)).place (inl l_l) (inl t_t)) h
    sides Top Top H p q f d h =
        let w = low_self b.top b.bottom ordered.down in
        absurd (d (within_top b ordered p b.top f.0.0 f.0.1 w ∙ sym (within_top b ordered q b.top f.1.0 f.1.1 w)))
    sides Top Right H p q f d h = told _ (corner_told (near (on_side b Top b.right)).place (inr r_r) (inl t_t)) h
    sides Top Bottom H p q f d h =
        let w = lt_le b.top b.bottom ordered.down in
        absurd (d (within_top b ordered p b.bottom f.0.0 f.0.1 w ∙ sym (within_top b ordered q b.bottom f.1.0 f.1.1 w)))
    sides Right Left H p q f d h =
        let w = lt_le b.left b.right ordered.across in
        absurd (d (within_right b ordered p b.left f.0.0 f.0.1 w ∙ sym (within_right b ordered q b.left f.1.0 f.1.1 w)))
    sides Right Top H p q f d h = told _ (corner_told (near (on_side b Right b.top)).place (inr r_r) (inl t_t)) h
    sides Right Right H p q f d h =
        let w = high_self b.left b.right ordered.across in
        absurd (d (within_right b ordered p b.right f.0.0 f.0.1 w ∙ sym (within_right b ordered q b.right f.1.0 f.1.1 w)))
    sides Right Bottom H p q f d h = told _ (corner_told (near (on_side b Right b.bottom)).place (inr r_r) (inr b_b)) h
    sides Bottom Left H p q f d h = told _ (corner_told (near (on_side b Bottom b.left)).place (inl l_l) (inr b_b)) h
    sides Bottom Top H p q f d h =
        let w = lt_le b.top b.bottom ordered.down in
        absurd (d (within_bottom b ordered p b.top f.0.0 f.0.1 w ∙ sym (within_bottom b ordered q b.top f.1.0 f.1.1 w)))
    sides Bottom Right H p q f d h = told _ (corner_told (near (on_side b Bottom b.right)).place (inr r_r) (inr b_b)) h
    sides Bottom Bottom H p q f d h =
        let w = high_self b.top b.bottom ordered.down in
        absurd (d (within_bottom b ordered p b.bottom f.0.0 f.0.1 w ∙ sym (within_bottom b ordered q b.bottom f.1.0 f.1.1 w)))

    -- at infinity there is nothing fresh either
    far_old : (s : SideName) (p q : Corner) → fresh b (meet_of b x s p q Infinity) ≡ true → false ≡ true
    far_old Left p q h = go (x.upward p q) h
      where
        go : (t : Bool) → fresh b (cond t (upper_end b) (corner_of b Left Infinity)) ≡ true → false ≡ true
        go true h = h
        go false h = h
    far_old Top p q h = h
    far_old Right p q h = h
    far_old Bottom p q h = h

    pub side_fresh : (s : SideName) (H : Point → Type 0) → FreshBy (fresh b) bisects (side_of b x s) (HeadedEdge b H)
    side_fresh s H = record { meets = meets; beside = refl }
      where
        meets : (p q : Corner) (k : Carrier) → HeadedEdge b H p q k → (within_of b s p ≡ within_of b s q → ⊥) → fresh b (meet_of b x s p q k) ≡ true → bisects k ≡ true
        meets p q (Bisector i j) f d h = refl
        meets p q (Along o) f d h = sides s o H p q f.0 d h
        meets p q Infinity f d h = far_old s p q h
