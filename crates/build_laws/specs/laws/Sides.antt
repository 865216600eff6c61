-- A clipped vertex lies on a side: a crossing has one coordinate of the box's own, and a vertex taken again for it is within tolerance of that one. So does a corner.
use Rattle.std.specs.Prelude.{◌≡◌, refl, Bool, true, false, not, ◌&&◌, cond, List, [], ◌∷◌, ◌++◌, ◌⊎◌, T, ltb, length, get_or, drop, Float}
use Rattle.std.proofs.Common.{sym, ap, ◌∙◌, subst, inl, inr, ⊎_elim, arith, mul-pos, zero-mul, lit≤, length-drop, get_or-drop, get_or-append-add, pow_pos, ltb-true, ltb-false, le-ltb}
use Rattle.std.specs.Bool.{beq}
use Prim.{tt}
use Prim.Native.Nat.{ℕ, zero, suc, ◌+◌, ◌-◌, ◌*◌, ◌^◌, ◌≤◌, ◌<◌}
use Rattle.std.proofs.lemmas.List.{get_or_at}
use Rattle.std.specs.Float.{nan, inf, fin, binary64}
use Rattle.std.specs.Float.Ieee.{low, up, down, round, neg, sum, add, sub, lt, of_bits}
use Rattle.std.specs.Float.Ieee.Exact.{HasValue, round_exact}
use Rattle.std.specs.Float.Ieee.Order.{le_of_values}
use Rattle.std.specs.Float.Ieee.Fits.{down_pos}
use Rattle.base.specs.common.Pick.{pick}
use Rattle.base.specs.common.Binary64.{◌⊟◌}
use Rattle.base.specs.numbers.Numbers.{tolerance}
use Rattle.root.specs.Bounded.{Bounded}
use Rattle.plane.specs.points.Plane.{at, near_of}
use Rattle.plane.specs.declared.points.Point.{Point}
use Rattle.plane.specs.boxes.Box.{corners_of}
use Rattle.plane.specs.sides.Sides.{which_of, first_side}
use Rattle.plane.specs.boxes.Finite.{BoundedBox}
use Rattle.plane.specs.declared.boxes.BoundingBox.{BoundingBox}
use Rattle.plane.specs.lines.OnBox.{OnEdge}
use Rattle.vertices.specs.Add.{near_pt, find_near, add_vertex}
use Rattle.definition.specs.Cell.{vertex_at}
use Rattle.definition.specs.Sides.{Sided, SidedCorners}
use Rattle.build_laws.specs.laws.Grown.{Grown, find_bounds}

-- ---- a finite number is near itself

no_less : (a : ℕ) → ltb a a ≡ false
no_less a = le-ltb a a (omega arith)

none_left : (c : ℕ) → 0 < c → HasValue (round binary64 false 0 c) false 0 c
none_left c h = round_exact binary64 false 0 c 0 0 h (lit≤ tt) (lit≤ tt) (zero-mul (2 ^ low binary64) ∙ sym (zero-mul c))

nothing : (s : Bool) (a c : ℕ) → 0 < c → HasValue (sum binary64 s a (not s) a c) false 0 c
unfolding sum
nothing s a c h = by s (ltb a a) (no_less a) (a - a) (omega arith)
  where
    by : (s t : Bool) → t ≡ false → (d : ℕ) → d ≡ 0
        → HasValue (cond (beq s (not s)) (round binary64 s (a + a) c) (cond t (round binary64 (not s) d c) (round binary64 (s && t) d c))) false 0 c
    by true t e d q = rw (e, q) (none_left c h)
    by false t e d q = rw (e, q) (none_left c h)

same : (t : Bool) (x : Float) → cond t x x ≡ x
same true x = refl
same false x = refl

is_true : (b : Bool) → T b → b ≡ true
is_true true h = refl
is_true false h = absurd h

pub near_self : (x : Float) (k : ℕ) → Bounded k x → near_of x x ≡ true
unfolding near_of sub add neg of_bits
near_self nan k h = absurd h
near_self (inf s) k h = absurd h
near_self (fin s m e) k h =
    let square = mul-pos (down_pos e) (down_pos e) in
    rw (same (lt (fin s m e) (fin s m e)) (fin s m e ⊟ fin s m e))
    (is_true _ (le_of_values (fin s m e ⊟ fin s m e) tolerance 0 (down e * down e) 1 (2 ^ 50) square (pow_pos 50)
    (nothing s (m * up e * down e) (down e * down e) square) (refl, omega arith) (omega arith)))

-- ---- sides

-- the first of four tests that holds names a side
side_of_lem : (t m r l : Bool) → (t ≡ true) ⊎ ((m ≡ true) ⊎ ((r ≡ true) ⊎ (l ≡ true))) → first_side t m r l < 4
unfolding first_side
side_of_lem true m r l h = omega arith
side_of_lem false true r l h = omega arith
side_of_lem false false true l h = omega arith
side_of_lem false false false true h = omega arith
side_of_lem false false false false h = ⊎_elim no (⊎_elim no (⊎_elim no no)) h
  where
    no : false ≡ true → first_side false false false false < 4
    no e = let z : ◌≡◌ {A = ℕ} 0 1 = cc in absurd (omega arith)

module _ (b : BoundingBox) (box : BoundedBox 101 b) where
  -- a point near a point of the box's border is on a side
  pub near_sided : (v : Point) (x y : Float) → OnEdge b x y → near_of v.x x ≡ true → near_of v.y y ≡ true → which_of b v < 4
  unfolding which_of
  near_sided v x y (inl (inl e, w)) h g = side_of_lem _ _ _ _ (inr (inr (inr (rw e at h))))
  near_sided v x y (inl (inr e, w)) h g = side_of_lem _ _ _ _ (inr (inr (inl (rw e at h))))
  near_sided v x y (inr (inl e, w)) h g = side_of_lem _ _ _ _ (inl (rw e at g))
  near_sided v x y (inr (inr e, w)) h g = side_of_lem _ _ _ _ (inr (inl (rw e at g)))

  -- so is that point itself
  pub edge_sided : (x y : Float) → OnEdge b x y → which_of b (at x y) < 4
  unfolding which_of
  edge_sided x y (inl (inl e, w)) = side_of_lem _ _ _ _ (inr (inr (inr (rw e (near_self b.left 101 box.left)))))
  edge_sided x y (inl (inr e, w)) = side_of_lem _ _ _ _ (inr (inr (inl (rw e (near_self b.right 101 box.right)))))
  edge_sided x y (inr (inl e, w)) = side_of_lem _ _ _ _ (inl (rw e (near_self b.top 101 box.top)))
  edge_sided x y (inr (inr e, w)) = side_of_lem _ _ _ _ (inr (inl (rw e (near_self b.bottom 101 box.bottom))))

-- ---- a vertex found is near the point

found_near : (p : Point) (vs : List Point) (n j : ℕ) → find_near p vs n ≡ n + j → j < length vs → near_pt (get_or vs j (at nan nan)) p ≡ true
unfolding find_near
found_near p [] n j e l = absurd (omega arith)
found_near p (v ∷ vs) n j e l = by (near_pt v p) refl j (λ i. found_near p vs (suc n) i) e l
  where
    by : (t : Bool) → near_pt v p ≡ t → (j : ℕ) → ((i : ℕ) → find_near p vs (suc n) ≡ suc n + i → i < length vs → near_pt (get_or vs i (at nan nan)) p ≡ true)
        → pick t (λ _. n) (λ _. find_near p vs (suc n)) ≡ n + j → j < suc (length vs) → near_pt (get_or (v ∷ vs) j (at nan nan)) p ≡ true
    by true q zero k e l = q
    by true q (suc j) k e l = absurd (omega (arith, e))
    by false q zero k e l = absurd (omega (arith, e, find_bounds p vs (suc n)))
    by false q (suc j) k e l = k j (omega (arith, e)) (omega arith)

near_both : (v p : Point) → near_pt v p ≡ true → (near_of v.x p.x ≡ true) × (near_of v.y p.y ≡ true)
unfolding near_pt
near_both v p h = by (near_of v.x p.x) refl h
  where
    by : (t : Bool) → near_of v.x p.x ≡ t → pick t (λ _. near_of v.y p.y) (λ _. false) ≡ true → (near_of v.x p.x ≡ true) × (near_of v.y p.y ≡ true)
    by true e g = (e, g)
    by false e g = let z : ◌≡◌ {A = ℕ} 0 1 = cc in absurd (omega arith)

-- a crossing's vertex, added or taken again, is on a side
pub add_sided : (b : BoundingBox) → BoundedBox 101 b → (nc : ℕ) (vs : List Point) (x y : Float) → nc ≤ length vs → OnEdge b x y
    → Sided b (add_vertex nc vs (at x y)).verts (add_vertex nc vs (at x y)).at
unfolding add_vertex
add_sided b box nc vs x y h o = by (ltb i (length vs)) refl
  where
    i : ℕ
    i = find_near (at x y) (drop nc vs) nc

    low : nc ≤ i
    low = (find_bounds (at x y) (drop nc vs) nc).0

    by : (t : Bool) → ltb i (length vs) ≡ t → which_of b (vertex_at (pick t (λ _. vs) (λ _. vs ++ at x y ∷ [])) i) < 4
    by true e =
        let l = ltb-true i (length vs) e in
        let j : i ≡ nc + (i - nc) = omega (arith, low) in
        let g : near_pt (get_or (drop nc vs) (i - nc) (at nan nan)) (at x y) ≡ true = found_near (at x y) (drop nc vs) nc (i - nc) j (omega (arith, low, l, length-drop nc vs)) in
        let q : get_or (drop nc vs) (i - nc) (at nan nan) ≡ vertex_at vs i = get_or-drop nc vs (i - nc) (at nan nan) ∙ ap (λ (k : ℕ). get_or vs k (at nan nan)) (sym j) in
        let w = near_both (vertex_at vs i) (at x y) (rw q at g) in
        near_sided b box (vertex_at vs i) x y o w.0 w.1
    by false e =
        let same_end : i ≡ length vs = omega (arith, ltb-false i (length vs) e, find_bounds (at x y) (drop nc vs) nc, length-drop nc vs) in
        rw (get_or_at vs (at x y) [] (at nan nan) i (sym same_end)) (edge_sided b box x y o)

-- ---- corners

module _ (b : BoundingBox) (box : BoundedBox 101 b) where
  top_sided : (x : Float) → which_of b (at x b.top) < 4
  unfolding which_of
  top_sided x = side_of_lem _ _ _ _ (inl (near_self b.top 101 box.top))

  bottom_sided : (x : Float) → which_of b (at x b.bottom) < 4
  unfolding which_of
  bottom_sided x = side_of_lem _ _ _ _ (inr (inl (near_self b.bottom 101 box.bottom)))

  four_sided : (c : ℕ) → c < 4 → Sided b (corners_of b) c
  unfolding corners_of
  four_sided zero h = top_sided b.left
  four_sided (suc zero) h = bottom_sided b.left
  four_sided (suc (suc zero)) h = bottom_sided b.right
  four_sided (suc (suc (suc zero))) h = top_sided b.right
  four_sided (suc (suc (suc (suc c)))) h = absurd (omega arith)

  -- they stand after the circumcenters
  pub corners_sided : (nc : ℕ) (cs : List Point) → length cs ≡ nc → SidedCorners b nc (cs ++ corners_of b)
  corners_sided nc cs e = record {
    box = box;
    corner = λ c l. rw (← e) (subst (λ (p : Point). which_of b p < 4) (sym (get_or-append-add cs (corners_of b) c (at nan nan))) (four_sided c l));
  }

-- a vertex stays on its side as vertices are added, and so do the corners
pub sided_kept : (b : BoundingBox) (vs ws : List Point) (m v : ℕ) → Grown vs m ws → v < length vs → Sided b vs v → Sided b ws v
sided_kept b vs ws m v g l h = subst (λ (z : Point). which_of b z < 4) (sym (g.kept v l)) h

pub corners_kept : (b : BoundingBox) (nc : ℕ) (vs ws : List Point) (m : ℕ) → Grown vs m ws → nc + 4 ≤ length vs → SidedCorners b nc vs → SidedCorners b nc ws
corners_kept b nc vs ws m g l h = record { box = h.box; corner = λ c q. sided_kept b vs ws m (nc + c) g (omega arith) (h.corner c q) }
