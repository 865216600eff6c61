-- Laws on points in a list of numbers, and of the search for a near one.
use Rattle.std.specs.Prelude.{ℕ, zero, suc, ◌+◌, ◌-◌, ◌*◌, ◌≤◌, ◌<◌, ◌≡◌, refl, true, false, List, [], ◌∷◌, ◌++◌, length, get_or, drop, take, set, Float}
use Rattle.std.proofs.Common.{sym, ap, ◌∙◌, arith, take-append-drop, length-append, length-drop, drop-cons, get_or-drop, drop-drop, lt-ltb, le-ltb, add-zero, zero-add}
use Rattle.std.proofs.Math.Numerals.{add-one}
use Rattle.std.proofs.lemmas.List.Edits.{sets-eq}
use Rattle.std.proofs.Math.Seq.{drop-append-add}
use Rattle.std.proofs.Math.Nat.{sub-zero}
use Rattle.std.specs.Float.{nan}
use Rattle.plane.specs.declared.points.Point.{Point}
use Rattle.vertices.specs.Add.{near_pt, find_near, add_vertex}
use Rattle.plane.specs.points.Flat.{point_at, points_from, points, flat, pour}

pub points_more : (l : List Float) (i n : ℕ) → i < n → points_from l i (n - i) ≡ point_at l i ∷ points_from l (i + 1) (n - (i + 1))
unfolding points_from
points_more l i n h =
    let e : n - i ≡ suc (n - (i + 1)) = omega arith in
    rw (e, add-one i)

pub points_none : (l : List Float) (i n : ℕ) → n ≤ i → points_from l i (n - i) ≡ []
unfolding points_from
points_none l i n h =
    let e : n - i ≡ 0 = omega arith in
    rw e

at_drop : (l : List Float) (i : ℕ) (a : Float) (r : List Float) → drop i l ≡ a ∷ r → get_or l i nan ≡ a
at_drop l i a r e = rw (← add-zero i, ← get_or-drop i l 0 nan, e)

rest_drop : (l : List Float) (i : ℕ) (a : Float) (r : List Float) → drop i l ≡ a ∷ r → drop (suc i) l ≡ r
rest_drop l i a r e = rw (← add-one i, ← drop-drop 1 i l, e)

module _ (l : List Float) (p : Point) (i n : ℕ) where
  pub near_hit : i < n → near_pt (point_at l i) p ≡ true → find_near p (points_from l i (n - i)) i ≡ i
  unfolding find_near
  near_hit h e = rw (points_more l i n h, e)

  pub near_miss :
      i < n
      → near_pt (point_at l i) p ≡ false
      → find_near p (points_from l i (n - i)) i ≡ find_near p (points_from l (i + 1) (n - (i + 1))) (i + 1)
  unfolding find_near
  near_miss h e = rw (points_more l i n h, e, add-one i)

  pub near_end : n ≤ i → find_near p (points_from l i (n - i)) i ≡ i
  unfolding find_near
  near_end h = rw (points_none l i n h)

-- ---- a list of points over a list of numbers

pub length_points : (l : List Float) (i n : ℕ) → length (points_from l i n) ≡ n
unfolding points_from
length_points l i zero = refl
length_points l i (suc n) = ap suc (length_points l (suc i) n)

pub drop_points : (l : List Float) (k i n : ℕ) → k ≤ n → drop k (points_from l i n) ≡ points_from l (i + k) (n - k)
unfolding points_from
drop_points l zero i n h = rw (add-zero i, sub-zero n)
drop_points l (suc k) i zero h = let z : ⊥ = omega arith in absurd z
drop_points l (suc k) i (suc n) h =
    let e : suc i + k ≡ i + suc k = omega arith in
    let f : n - k ≡ suc n - suc k = omega arith in
    rw (← e, ← f) (drop_points l k (suc i) n (omega arith))

pub flat_points : (l : List Float) (i n : ℕ) → 2 * (i + n) ≤ length l → flat (points_from l i n) ≡ take (2 * n) (drop (2 * i) l)
unfolding points_from flat
flat_points l i zero h = refl
flat_points l i (suc n) h =
    let e : 2 * suc n ≡ suc (suc (2 * n)) = omega arith in
    let f : suc (suc (2 * i)) ≡ 2 * suc i = omega arith in
    rw (e, drop-cons l (2 * i) nan (omega arith), drop-cons l (suc (2 * i)) nan (omega arith), f, add-one (2 * i), flat_points l (suc i) n (omega arith))

pub length_flat : (ps : List Point) → length (flat ps) ≡ 2 * length ps
unfolding flat
length_flat [] = refl
length_flat (p ∷ ps) = let h = length_flat ps in omega arith

pub flat_append : (ps qs : List Point) → flat (ps ++ qs) ≡ flat ps ++ flat qs
unfolding flat
flat_append [] qs = refl
flat_append (p ∷ ps) qs = rw (flat_append ps qs)

-- what is there already changes nothing
pub pour_points : (l : List Float) (n : ℕ) → 2 * n ≤ length l → pour (points n l) l ≡ l
unfolding pour
pour_points l n h = rw (length_points l 0 n, flat_points l 0 n (omega arith)) (take-append-drop (2 * n) l)

-- one point more
pub pour_snoc : (l : List Float) (n : ℕ) (p : Point) → 2 * n + 2 ≤ length l → pour (points n l ++ p ∷ []) l ≡ set (set l (2 * n) p.x) (2 * n + 1) p.y
unfolding pour flat
pour_snoc l n p h =
    let e : 2 * (n + 1) ≡ 2 * n + 2 = omega arith in
    rw (length-append (points n l) (p ∷ []), length_points l 0 n, e, flat_append (points n l) (p ∷ []), flat_points l 0 n (omega arith), add-one (2 * n))
    (sym (sets-eq (p.x ∷ p.y ∷ []) l (2 * n) h))

-- ---- for callers: what a poured list holds, twice poured, its length

pub length_pour : (vs : List Point) (l : List Float) → 2 * length vs ≤ length l → length (pour vs l) ≡ length l
unfolding pour
length_pour vs l h = rw (length-append (flat vs) (drop (2 * length vs) l), length_flat vs, length-drop (2 * length vs) l) (omega arith)

points_of_lem : (vs : List Point) (r : List Float) (l : List Float) (i : ℕ) → drop (2 * i) l ≡ flat vs ++ r → points_from l i (length vs) ≡ vs
unfolding points_from flat
points_of_lem [] r l i e = refl
points_of_lem (v ∷ vs) r l i e =
    let e₀ : get_or l (2 * i) nan ≡ v.x = at_drop l (2 * i) _ _ e in
    let e₁ : drop (suc (2 * i)) l ≡ v.y ∷ flat vs ++ r = rest_drop l (2 * i) _ _ e in
    let e₂ : get_or l (suc (2 * i)) nan ≡ v.y = at_drop l (suc (2 * i)) _ _ e₁ in
    let e₃ : drop (suc (suc (2 * i))) l ≡ flat vs ++ r = rest_drop l (suc (2 * i)) _ _ e₁ in
    let f : suc (suc (2 * i)) ≡ 2 * suc i = omega arith in
    rw (add-one (2 * i), e₀, e₂, points_of_lem vs r l (suc i) (rw (← f) e₃))

pub points_pour : (vs : List Point) (l : List Float) → points (length vs) (pour vs l) ≡ vs
unfolding pour
points_pour vs l = points_of_lem vs (drop (2 * length vs) l) (pour vs l) 0 refl

pub pour_pour : (vs ws : List Point) (l : List Float) → length vs ≤ length ws → 2 * length vs ≤ length l → pour ws (pour vs l) ≡ pour ws l
unfolding pour
pour_pour vs ws l h g =
    let n = 2 * length vs in
    let e : 2 * length ws ≡ length (flat vs) + (2 * length ws - n) = rw (length_flat vs) (omega arith) in
    let f : n + (2 * length ws - n) ≡ 2 * length ws = omega arith in
    ap (λ (r : List Float). flat ws ++ r)
    (ap (λ (k : ℕ). drop k (flat vs ++ drop n l)) e
    ∙ drop-append-add (flat vs) (drop n l) (2 * length ws - n)
    ∙ drop-drop (2 * length ws - n) n l
    ∙ ap (λ (k : ℕ). drop k l) f)

-- ---- addVertex

pub add_old :
    (l : List Float) (nc n i : ℕ) (p : Point)
    → nc ≤ n → i < n → i ≡ find_near p (points_from l nc (n - nc)) nc
    → add_vertex nc (points n l) p ≡ record { at = i; verts = points n l; fresh = false }
unfolding add_vertex
add_old l nc n i p h k e = rw (drop_points l nc 0 n h, zero-add nc, ← e, length_points l 0 n, lt-ltb i n k)

pub add_new :
    (l : List Float) (nc n i : ℕ) (p : Point)
    → nc ≤ n → i ≡ n → i ≡ find_near p (points_from l nc (n - nc)) nc
    → add_vertex nc (points n l) p ≡ record { at = n; verts = points n l ++ p ∷ []; fresh = true }
unfolding add_vertex
add_new l nc n i p h k e = rw (drop_points l nc 0 n h, zero-add nc, ← e, length_points l 0 n, k, le-ltb n n (omega arith))

get_d_from : (l : List Float) (n j i : ℕ) (d : Point) → i < n → get_or (points_from l j n) i d ≡ point_at l (j + i)
unfolding points_from
get_d_from l zero j i d h = let z : ⊥ = omega arith in absurd z
get_d_from l (suc n) j zero d h = rw (add-zero j)
get_d_from l (suc n) j (suc i) d h =
    let e : suc j + i ≡ j + suc i = omega arith in
    rw (← e) (get_d_from l n (suc j) i d (omega arith))

pub get_d_points : (l : List Float) (n i : ℕ) (d : Point) → i < n → get_or (points n l) i d ≡ point_at l i
get_d_points l n i d h = get_d_from l n 0 i d h ∙ ap (λ (k : ℕ). point_at l k) (zero-add i)
