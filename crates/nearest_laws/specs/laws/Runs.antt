-- A closed way whose edges run upward, turning left, and then downward, turning left, is convex: by as many tests as it has edges.
use Rattle.std.specs.Prelude.{◌≡◌, ℕ, zero, suc, ◌+◌, ◌-◌, ◌*◌, ◌≤◌, ◌<◌}
use Rattle.std.proofs.Common.{sym, subst, inl, inr, ⊎_elim, arith}
use Rattle.base.specs.common.laws.Decide.{lt_or_ge, eq_or_ne}
use Rattle.nearest_laws.specs.laws.Area.{◌⊕◌, ◌⊖◌, ◌⊗◌, Null, more, ways}
use Rattle.grid.specs.Raised.{area_of}
use Rattle.grid.specs.declared.Raised.{Raised}
use Rattle.grid.specs.declared.Signed.{Signed}
use Rattle.nearest_laws.specs.laws.Signs.{Pos, Neg, NonNeg, NonPos, nn, pp, on, pn}

-- numbers only
middle : (fx fy fz yz xz xy : Signed) → Null (fx ⊗ yz ⊖ fy ⊗ xz ⊕ fz ⊗ xy) → Pos fx → Pos fy → Pos fz → NonNeg yz → NonNeg xy → NonNeg xz
middle fx fy fz yz xz xy q hx hy hz k l =
    ⊎_elim
    (λ h. absurd (omega (arith, q, nn fx yz (omega arith) k, pn fy xz hy h, nn fz xy (omega arith) l)))
    (λ h. h)
    (lt_or_ge xz.plus xz.minus)

np : (s t : Signed) → Neg s → Neg t → Pos (s ⊗ t)
np s t h k = omega (arith, pp (record { plus = s.minus; minus = s.plus }) (record { plus = t.minus; minus = t.plus }) h k)

neg_pos : (s t : Signed) → Neg s → Pos t → Neg (s ⊗ t)
neg_pos s t h k = omega (arith, pn t s k h)

middle' : (fx fy fz yz xz xy : Signed) → Null (fx ⊗ yz ⊖ fy ⊗ xz ⊕ fz ⊗ xy) → Neg fx → Neg fy → Neg fz → NonNeg yz → NonNeg xy → NonNeg xz
middle' fx fy fz yz xz xy q hx hy hz k l =
    ⊎_elim
    (λ h. absurd (omega (arith, q, on fx yz (omega arith) k, np fy xz hy h, on fz xy (omega arith) l)))
    (λ h. h)
    (lt_or_ge xz.plus xz.minus)

-- w against the upward direction, from two edges x before y of one run
module _ (ow xy fx wy fy wx : Signed) (q : Null (ow ⊗ xy ⊖ fx ⊗ wy ⊕ fy ⊗ wx)) (left : NonNeg xy) where
  up_fall : Pos fx → Pos fy → Pos wx → Neg wy → Neg ow
  up_fall h k i j = ⊎_elim (λ z. z) (λ z. absurd (omega (arith, q, pn fx wy h j, pp fy wx k i, nn ow xy z left))) (lt_or_ge ow.plus ow.minus)

  up_rise : Pos fx → Pos fy → Neg wx → Pos wy → Pos ow
  up_rise h k i j = ⊎_elim (λ z. z) (λ z. absurd (omega (arith, q, pp fx wy h j, pn fy wx k i, on ow xy z left))) (lt_or_ge ow.minus ow.plus)

  down_fall : Neg fx → Neg fy → Pos wx → Neg wy → Pos ow
  down_fall h k i j = ⊎_elim (λ z. z) (λ z. absurd (omega (arith, q, np fx wy h j, neg_pos fy wx k i, on ow xy z left))) (lt_or_ge ow.minus ow.plus)

  down_rise : Neg fx → Neg fy → Neg wx → Pos wy → Neg ow
  down_rise h k i j = ⊎_elim (λ z. z) (λ z. absurd (omega (arith, q, neg_pos fx wy h j, np fy wx k i, nn ow xy z left))) (lt_or_ge ow.plus ow.minus)

-- what falls from i to j falls at a step between
step_down : (s : ℕ → Signed) (i d : ℕ) → Neg (s (i + d) ⊖ s i) → (l : ℕ) × (i ≤ l) × (l < i + d) × Neg (s (suc l) ⊖ s l)
step_down s i zero h = let q : i + 0 ≡ i = omega arith in absurd (flat (s i) (subst (λ k. Neg (s k ⊖ s i)) q h))
  where
    flat : (u : Signed) → Neg (u ⊖ u) → ⊥
    flat u h = omega arith
step_down s i (suc d) h =
    let q : i + suc d ≡ suc (i + d) = omega arith in
    ⊎_elim
    (λ k. (i + d, omega arith, omega arith, k))
    (λ k. let r = step_down s i d (part (s i) (s (i + d)) (s (suc (i + d))) (subst (λ z. Neg (s z ⊖ s i)) q h) k) in (r.0, r.1, omega (arith, r.2), r.3))
    (⊎_elim inl inr (lt_or_ge (s (suc (i + d)) ⊖ s (i + d)).plus (s (suc (i + d)) ⊖ s (i + d)).minus))
  where
    part : (u v w : Signed) → Neg (w ⊖ u) → NonNeg (w ⊖ v) → Neg (v ⊖ u)
    part u v w h k = omega arith

step_up : (s : ℕ → Signed) (i d : ℕ) → Pos (s (i + d) ⊖ s i) → (l : ℕ) × (i ≤ l) × (l < i + d) × Pos (s (suc l) ⊖ s l)
step_up s i d h = step_down (λ k. record { plus = (s k).minus; minus = (s k).plus }) i d (turn (s i) (s (i + d)) h)
  where
    turn : (u v : Signed) → Pos (v ⊖ u) → v.minus + u.plus < v.plus + u.minus
    turn u v h = omega arith

module _ (H m : ℕ) (p : ℕ → Raised) (closed : p H ≡ p 0) (O Q : Raised)
    (ups : (l : ℕ) → l < m → Pos (more O Q (p l) (p (suc l))))
    (downs : (l : ℕ) → m ≤ l → l < H → Neg (more O Q (p l) (p (suc l))))
    (turn_up : (l : ℕ) → suc l < m → NonNeg (more (p l) (p (suc l)) (p (suc l)) (p (suc (suc l)))))
    (turn_down : (l : ℕ) → m ≤ l → suc l < H → NonNeg (more (p l) (p (suc l)) (p (suc l)) (p (suc (suc l)))))
  where
    abbrev F : ℕ → Signed
    F l = more O Q (p l) (p (suc l))

    abbrev C : ℕ → ℕ → Signed
    C i j = more (p i) (p (suc i)) (p j) (p (suc j))

    three : (x y z : ℕ) → Null (F x ⊗ C y z ⊖ F y ⊗ C x z ⊕ F z ⊗ C x y)
    three x y z = ways O Q (p x) (p (suc x)) (p y) (p (suc y)) (p z) (p (suc z))

    sorted_up : (i j : ℕ) → i < j → j < m → NonNeg (C i j)
    sorted_up i zero h k = absurd (omega arith)
    sorted_up i (suc j) h k =
        ⊎_elim
        (λ q. subst (λ z. NonNeg (C z (suc j))) (sym q) (turn_up j k))
        (λ q. middle (F i) (F j) (F (suc j)) (C j (suc j)) (C i (suc j)) (C i j) (three i j (suc j)) (ups i (omega arith)) (ups j (omega arith)) (ups (suc j) k) (turn_up j k)
        (sorted_up i j (omega arith) (omega arith)))
        (eq_or_ne i j)

    sorted_down : (i j : ℕ) → m ≤ i → i < j → j < H → NonNeg (C i j)
    sorted_down i zero g h k = absurd (omega arith)
    sorted_down i (suc j) g h k =
        ⊎_elim
        (λ q. subst (λ z. NonNeg (C z (suc j))) (sym q) (turn_down j (omega arith) k))
        (λ q. middle' (F i) (F j) (F (suc j)) (C j (suc j)) (C i (suc j)) (C i j) (three i j (suc j)) (downs i g (omega arith)) (downs j (omega arith) (omega arith))
        (downs (suc j) (omega arith) k) (turn_down j (omega arith) k) (sorted_down i j g (omega arith) (omega arith)))
        (eq_or_ne i j)

    clash : (s : Signed) → Pos s → Neg s → ⊥
    clash s h k = omega arith

    -- the line from A to B, and the way it rises or falls along an edge
    module _ (A B : Raised) where
      abbrev W : ℕ → Signed
      W l = more A B (p l) (p (suc l))

      abbrev s : ℕ → Signed
      s l = area_of A B (p l)

      ow : Signed
      ow = more O Q A B

      pair : (x y : ℕ) → Null (more O Q A B ⊗ C x y ⊖ F x ⊗ W y ⊕ F y ⊗ W x)
      pair x y = ways O Q A B (p x) (p (suc x)) (p y) (p (suc y))

      uf : (x y : ℕ) → x < y → y < m → Pos (W x) → Neg (W y) → Neg (more O Q A B)
      uf x y l k = up_fall (more O Q A B) (C x y) (F x) (W y) (F y) (W x) (pair x y) (sorted_up x y l k) (ups x (omega arith)) (ups y k)

      ur : (x y : ℕ) → x < y → y < m → Neg (W x) → Pos (W y) → Pos (more O Q A B)
      ur x y l k = up_rise (more O Q A B) (C x y) (F x) (W y) (F y) (W x) (pair x y) (sorted_up x y l k) (ups x (omega arith)) (ups y k)

      df : (x y : ℕ) → m ≤ x → x < y → y < H → Pos (W x) → Neg (W y) → Pos (more O Q A B)
      df x y g l k = down_fall (more O Q A B) (C x y) (F x) (W y) (F y) (W x) (pair x y) (sorted_down x y g l k) (downs x g (omega arith)) (downs y (omega arith) k)

      dr : (x y : ℕ) → m ≤ x → x < y → y < H → Neg (W x) → Pos (W y) → Neg (more O Q A B)
      dr x y g l k = down_rise (more O Q A B) (C x y) (F x) (W y) (F y) (W x) (pair x y) (sorted_down x y g l k) (downs x g (omega arith)) (downs y (omega arith) k)

      no_four : (a b c d : ℕ) → a < b → b < c → c < d → d < H → Pos (W a) → Neg (W b) → Pos (W c) → Neg (W d) → ⊥
      no_four a b c d h₁ h₂ h₃ h₄ wa wb wc wd =
          ⊎_elim
          (λ k. clash _ (ur b c h₂ k wb wc) (uf a b h₁ (omega arith) wa wb))
          (λ k. ⊎_elim
          (λ i. clash _ (df c d k h₃ h₄ wc wd) (uf a b h₁ i wa wb))
          (λ i. clash _ (df c d k h₃ h₄ wc wd) (dr b c i h₂ (omega arith) wb wc))
          (lt_or_ge b m))
          (lt_or_ge c m)

      no_four' : (a b c d : ℕ) → a < b → b < c → c < d → d < H → Neg (W a) → Pos (W b) → Neg (W c) → Pos (W d) → ⊥
      no_four' a b c d h₁ h₂ h₃ h₄ wa wb wc wd =
          ⊎_elim
          (λ k. clash _ (ur a b h₁ (omega arith) wa wb) (uf b c h₂ k wb wc))
          (λ k. ⊎_elim
          (λ i. clash _ (ur a b h₁ i wa wb) (dr c d k h₃ h₄ wc wd))
          (λ i. clash _ (df b c i h₂ (omega arith) wb wc) (dr c d k h₃ h₄ wc wd))
          (lt_or_ge b m))
          (lt_or_ge c m)

      at_sum : (i j : ℕ) → i ≤ j → i + (j - i) ≡ j
      at_sum i j h = omega arith

      falls : (i j : ℕ) → i ≤ j → Neg (s j ⊖ s i) → (l : ℕ) × (i ≤ l) × (l < j) × Neg (W l)
      falls i j h k =
          let q = at_sum i j h in
          let r = step_down s i (j - i) (subst (λ z. Neg (s z ⊖ s i)) (sym q) k) in
          (r.0, r.1, omega (arith, r.2, q), r.3)

      rises : (i j : ℕ) → i ≤ j → Pos (s j ⊖ s i) → (l : ℕ) × (i ≤ l) × (l < j) × Pos (W l)
      rises i j h k =
          let q = at_sum i j h in
          let r = step_up s i (j - i) (subst (λ z. Pos (s z ⊖ s i)) (sym q) k) in
          (r.0, r.1, omega (arith, r.2, q), r.3)

      drop : (u w : Signed) → Pos u → NonPos w → Neg (w ⊖ u)
      drop u w h k = omega arith

      lift_of' : (u w : Signed) → NonPos u → Pos w → Pos (w ⊖ u)
      lift_of' u w h k = omega arith

      -- a line leaves the way at one edge at most
      pub one_leaves : (i j : ℕ) → i < j → j < H → NonPos (s i) → Pos (s (suc i)) → NonPos (s j) → Pos (s (suc j)) → ⊥
      one_leaves i j l k h₁ h₂ h₃ h₄ =
          let x = falls (suc i) j l (drop (s (suc i)) (s j) h₂ h₃) in
          let wi = lift_of' (s i) (s (suc i)) h₁ h₂ in
          let wj = lift_of' (s j) (s (suc j)) h₃ h₄ in
          ⊎_elim
          (λ z.
          let y = falls 0 i (omega arith) (drop (s 0) (s i) (subst (λ q. Pos (area_of A B q)) closed z) h₁) in
          no_four' y.0 i x.0 j y.2 x.1 x.2 k y.3 wi x.3 wj)
          (λ z.
          let y = falls (suc j) H k (drop (s (suc j)) (s H) h₄ z) in
          no_four i x.0 j y.0 x.1 x.2 y.1 y.2 wi x.3 wj y.3)
          (lt_or_ge (s H).minus (s H).plus)

    -- each place of the way lies left of or on the line of its edge i
    module _ (i : ℕ) (li : i < H) where
      abbrev s' : ℕ → Signed
      s' l = area_of (p i) (p (suc i)) (p l)

      swap : (a b c d : Raised) → Null (more a b c d ⊕ more c d a b)
      swap a b c d = go a.x a.y b.x b.y c.x c.y d.x d.y
        where
          go : (ax ay bx by cx cy dx dy : ℕ) → ay * bx + by * dx + dy * ax + (ax * by + bx * cy + cx * ay) +
              (cy * dx + dy * bx + by * cx + (cx * dy + dx * ay + ax * cy)) ≡ ax * by + bx * dy + dx * ay + (ay * bx + by * cx + cy * ax) +
              (cx * dy + dx * by + bx * cy + (cy * dx + dy * ax + ay * cx))
          go ax ay bx by cx cy dx dy = omega arith

      back : (u v : Signed) → Null (u ⊕ v) → NonNeg v → Pos u → ⊥
      back u v q h k = omega arith

      off : (u : Signed) → NonNeg u → Neg u → ⊥
      off u h k = omega arith

      -- a falling edge after i and a rising one before it are not of i's run
      no_fall_after : (x : ℕ) → i < x → x < H → Neg (C i x) → (i < m) × (m ≤ x)
      no_fall_after x l k h =
          ⊎_elim
          (λ u. ⊎_elim (λ z. absurd (off (C i x) (sorted_up i x l z) h)) (λ z. (u, z)) (lt_or_ge x m))
          (λ u. absurd (off (C i x) (sorted_down i x u l k) h))
          (lt_or_ge i m)

      no_rise_before : (y : ℕ) → y < i → Pos (C i y) → (m ≤ i) × (y < m)
      no_rise_before y l h =
          ⊎_elim
          (λ u. absurd (back (C i y) (C y i) (swap (p i) (p (suc i)) (p y) (p (suc y))) (sorted_up y i l u) h))
          (λ u. ⊎_elim (λ z. (u, z)) (λ z. absurd (back (C i y) (C y i) (swap (p i) (p (suc i)) (p y) (p (suc y))) (sorted_down y i z l li) h)) (lt_or_ge y m))
          (lt_or_ge i m)

      start_null : Null (s' i)
      start_null = flat (p i) (p (suc i))
        where
          flat : (a b : Raised) → Null (area_of a b a)
          flat a b = omega arith

      end_null : Null (s' (suc i))
      end_null = flat (p i) (p (suc i))
        where
          flat : (a b : Raised) → Null (area_of a b b)
          flat a b = omega arith

      down_from : (u w : Signed) → Null u → Neg w → Neg (w ⊖ u)
      down_from u w q h = omega arith

      up_to : (u w : Signed) → Neg u → Null w → Pos (w ⊖ u)
      up_to u w h q = omega arith

      down_from' : (u w : Signed) → NonNeg u → Neg w → Neg (w ⊖ u)
      down_from' u w q h = omega arith

      after_case : (j : ℕ) → i < j → j < H → Neg (s' j) → ⊥
      after_case j l k h =
          let x = falls (p i) (p (suc i)) (suc i) j l (down_from (s' (suc i)) (s' j) end_null h) in
          let r = no_fall_after x.0 x.1 (omega (arith, x.2)) x.3 in
          ⊎_elim
          (λ z.
          let y = rises (p i) (p (suc i)) j H (omega arith) z in
          clash (F i) (ups i r.0) (dr (p i) (p (suc i)) x.0 y.0 r.1 (omega (arith, x.2, y.1)) y.2 x.3 y.3))
          (λ z.
          let low : Neg (s' 0) = subst (λ q. Neg (area_of (p i) (p (suc i)) q)) closed (below (s' j) (s' H) h z) in
          let y = rises (p i) (p (suc i)) 0 i (omega arith) (up_to (s' 0) (s' i) low start_null) in
          let t = no_rise_before y.0 y.2 y.3 in
          omega (arith, r.0, t.0))
          (lt_or_ge (s' H ⊖ s' j).minus (s' H ⊖ s' j).plus)
        where
          below : (u w : Signed) → Neg u → NonPos (w ⊖ u) → Neg w
          below u w h k = omega arith

      before_case : (j : ℕ) → j < i → Neg (s' j) → ⊥
      before_case j l h =
          let y = rises (p i) (p (suc i)) j i (omega arith) (up_to (s' j) (s' i) h start_null) in
          let t = no_rise_before y.0 y.2 y.3 in
          ⊎_elim
          (λ z.
          let x = falls (p i) (p (suc i)) (suc i) H li (down_from (s' (suc i)) (s' H) end_null z) in
          let r = no_fall_after x.0 x.1 x.2 x.3 in
          omega (arith, r.0, t.0))
          (λ z.
          let high : NonNeg (s' 0) = subst (λ q. NonNeg (area_of (p i) (p (suc i)) q)) closed z in
          let x = falls (p i) (p (suc i)) 0 j (omega arith) (down_from' (s' 0) (s' j) high h) in
          clash (F i) (ur (p i) (p (suc i)) x.0 y.0 (omega (arith, x.2, y.1)) t.1 x.3 y.3) (downs i t.0 li))
          (lt_or_ge (s' H).plus (s' H).minus)

      pub way_left : (j : ℕ) → j < H → NonNeg (s' j)
      way_left j k =
          ⊎_elim
          (λ h. ⊎_elim
          (λ l. absurd (after_case j l k h))
          (λ l. ⊎_elim
          (λ q. absurd (flat (s' i) start_null (subst (λ z. Neg (s' z)) q h)))
          (λ q. absurd (before_case j (omega arith) h))
          (eq_or_ne j i))
          (lt_or_ge i j))
          (λ h. h)
          (lt_or_ge (s' j).plus (s' j).minus)
        where
          flat : (u : Signed) → Null u → Neg u → ⊥
          flat u q h = omega arith
