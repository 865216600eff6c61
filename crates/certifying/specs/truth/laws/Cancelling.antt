-- Where no side has a surplus in floats, none has on whole numbers.
use Rattle.std.specs.Prelude.{◌≡◌, Bool, ◌&&◌, List, ℕ, zero, suc, ◌-◌, ◌*◌, ◌≤◌, ◌<◌, eqb, Float, length, get_or}
use Rattle.std.proofs.Math.Path.{refl, sym}
use Rattle.std.proofs.Common.{ap, ◌∙◌, subst, ⊎_elim, arith}
use Rattle.std.proofs.Math.Bool.{true, false}
use borrow.Author.Tests.{eq-eqb, eqb-true, ltb-false}
use Rattle.base.specs.common.Count.{sum_to}
use Rattle.base.specs.common.Pick.{pick}
use Rattle.base.specs.common.laws.And.{and_left, and_right}
use Rattle.base.specs.common.laws.Count.{sum_same}
use Rattle.base.specs.common.laws.Decide.{lt_or_ge}
use Rattle.ring_area.specs.lowest.laws.Loops.{no_both}
use Rattle.plane.specs.points.Flat.{point_at}
use Rattle.plane.specs.declared.points.Point.{Point}
use Rattle.plane.specs.declared.boxes.BoundingBox.{BoundingBox}
use Rattle.walks.specs.shared.Cells.{Cells}
use Rattle.certifying.specs.cover.Sums.{WholePlace}
use Rattle.certifying.specs.cover.Counts.{one_where, times_in, one_same, one_other}
use Rattle.certifying.specs.cover.Kinds as K
use Rattle.certifying.specs.cover.Kinds.{WholeSide, way_back, told, along_edge, off_all, NoSurplus, times_sum}
use Rattle.auditing.specs.places.Places.{same_of}
use Rattle.audit_truth.specs.Held.{HeldPoint, HeldBox}
use Rattle.certifying.specs.sides.Sides.{ends_of, side_count, one_for, how_many, runs_at, along_of, more_of, surplus_of, surplus_at}
use Rattle.certifying.specs.truth.Places.{raised_units, lifted_place, vertex_place, rings_from}
use Rattle.certifying.specs.truth.laws.Boxed.{same_is, along_is}
use Rattle.certifying.specs.truth.laws.Flat.{flat_sum}

-- both ends of n sides are coordinates that binary64 holds
pub record HeldSides (v : List Float) (ix to : List ℕ) (n : ℕ) : Type 0 where
  pub starts : (k : ℕ) → k < n → HeldPoint (point_at v (get_or ix k 0))
  pub ends : (k : ℕ) → k < n → HeldPoint (point_at v (get_or to k 0))

-- a sum above 0 has a number that is
some_above : (u : ℕ → ℕ) (n : ℕ) → 0 < sum_to u n → (k : ℕ) × (k < n) × (0 < u k)
some_above u zero h = absurd (omega arith)
some_above u (suc n) h = ⊎_elim (λ g. (n, omega arith, g)) (λ g. let r = some_above u n (omega arith) in (r.0, omega (arith, r.1), r.2)) (lt_or_ge 0 (u n))

abbrev side_of : WholePlace → WholePlace → WholeSide
side_of p q = record { from = p; to = q }

-- along either way
pub and_comm : (a b : Bool) → a && b ≡ b && a
and_comm true true = refl
and_comm true false = refl
and_comm false true = refl
and_comm false false = refl

pub along_back : (l t r b : ℕ) (p q : WholePlace) → along_edge l t r b p q ≡ along_edge l t r b q p
unfolding along_edge
along_back l t r b p q =
    rw (and_comm (eqb p.x l) (eqb q.x l), and_comm (eqb p.x r) (eqb q.x r), and_comm (eqb p.y t) (eqb q.y t), and_comm (eqb p.y b) (eqb q.y b)) refl

-- ---- one side is counted as the floats count it
same_place : (a d : WholePlace) → (eqb a.x d.x && eqb a.y d.y) ≡ true → a ≡ d
same_place a d h =
    ap (λ (n : ℕ). record { x = n; y = a.y }) (eqb-true a.x d.x (and_left (eqb a.x d.x) (eqb a.y d.y) h))
    ∙ ap (λ (n : ℕ). record { x = d.x; y = n }) (eqb-true a.y d.y (and_right (eqb a.x d.x) (eqb a.y d.y) h))

place_same : (a d : WholePlace) → a ≡ d → (eqb a.x d.x && eqb a.y d.y) ≡ true
place_same a d e = rw (eq-eqb a.x d.x (ap (λ (p : WholePlace). p.x) e), eq-eqb a.y d.y (ap (λ (p : WholePlace). p.y) e)) refl

one_side : (a b d e : WholePlace) (t u : Bool) → t ≡ (eqb a.x d.x && eqb a.y d.y) → u ≡ (eqb b.x e.x && eqb b.y e.y)
    → one_where told (side_of a b) (side_of d e) ≡ one_for (t && u)
unfolding one_for
one_side a b d e true true f g =
    one_same told (side_of a b) (side_of d e) (ap (λ (p : WholePlace). side_of p b) (same_place a d (sym f)) ∙ ap (λ (p : WholePlace). side_of d p) (same_place b e (sym g)))
one_side a b d e false u f g = one_other told (side_of a b) (side_of d e) (λ q. no_both (sym (place_same a d (ap (λ (s : WholeSide). s.from) q)) ∙ sym f))
one_side a b d e true false f g = one_other told (side_of a b) (side_of d e) (λ q. no_both (sym (place_same b e (ap (λ (s : WholeSide). s.to) q)) ∙ sym g))

-- what counts is the side itself, and not along an edge
side_counts : (t : Bool) (s w : WholeSide) → 0 < pick t (λ _. 0) (λ _. one_where told s w) → (t ≡ false) × (s ≡ w)
side_counts true s w h = absurd (omega arith)
side_counts false s w h = (refl, ⊎_elim (λ e. e) (λ n. absurd (none (one_other told s w n) h)) (told s w))
  where
    none : {n : ℕ} → n ≡ 0 → 0 < n → ⊥
    none e h = omega arith

module _ (c : ℕ) (pos : 0 < c) (b : BoundingBox) (box : HeldBox b) (v : List Float) (off ix : List ℕ) (cut : Cells off (length ix)) (held : HeldSides v ix (ends_of off ix) (side_count off)) where
  abbrev from : ℕ → Point
  from k = point_at v (get_or ix k 0)

  abbrev to : ℕ → Point
  to k = point_at v (get_or (ends_of off ix) k 0)

  abbrev along : WholePlace → WholePlace → Bool
  along = along_edge (c * raised_units b.left) (c * raised_units b.top) (c * raised_units b.right) (c * raised_units b.bottom)

  abbrev rings : List (List WholePlace)
  rings = rings_from (vertex_place c v) off ix 0 (length off - 1)

  module _ (p q : Point) (hp : HeldPoint p) (hq : HeldPoint q) (clear : along (lifted_place c p) (lifted_place c q) ≡ false) where
    abbrev one : ℕ → ℕ
    one k = one_where told (side_of (lifted_place c p) (lifted_place c q)) (side_of (lifted_place c (from k)) (lifted_place c (to k)))

    counted : (k : ℕ) → k < side_count off → pick (along (lifted_place c (from k)) (lifted_place c (to k))) (λ _. 0) (λ _. one k) ≡ one_for (runs_at v ix (ends_of off ix) p q k)
    unfolding runs_at
    counted k h =
        go (along (lifted_place c (from k)) (lifted_place c (to k))) refl
        ∙ one_side (lifted_place c p) (lifted_place c q) (lifted_place c (from k)) (lifted_place c (to k)) (same_of p (from k)) (same_of q (to k))
        (same_is c pos p (from k) hp (held.starts k h)) (same_is c pos q (to k) hq (held.ends k h))
      where
        go : (t : Bool) → along (lifted_place c (from k)) (lifted_place c (to k)) ≡ t → pick t (λ _. 0) (λ _. one k) ≡ one k
        go false e = refl
        go true e =
            sym (one_other told (side_of (lifted_place c p) (lifted_place c q)) (side_of (lifted_place c (from k)) (lifted_place c (to k)))
            (λ z. no_both (sym e ∙ sym (ap (λ (s : WholeSide). along s.from s.to) z) ∙ clear)))

    pub comes_so_often : times_in told (side_of (lifted_place c p) (lifted_place c q)) (off_all along rings) ≡ how_many (runs_at v ix (ends_of off ix) p q) (side_count off)
    comes_so_often =
        times_sum along (side_of (lifted_place c p) (lifted_place c q)) rings
        ∙ flat_sum (vertex_place c v) (K.off along (λ d e. one_where told (side_of (lifted_place c p) (lifted_place c q)) (side_of d e))) off ix cut
        ∙ sum_same _ _ (side_count off) counted

  module _ (none : (k : ℕ) → k < side_count off → surplus_at b v ix (ends_of off ix) (side_count off) k ≡ false) where
    not_more : (k : ℕ) → k < side_count off → along (lifted_place c (from k)) (lifted_place c (to k)) ≡ false
        → how_many (runs_at v ix (ends_of off ix) (from k) (to k)) (side_count off) ≤ how_many (runs_at v ix (ends_of off ix) (to k) (from k)) (side_count off)
    unfolding surplus_of more_of
    not_more k h e =
        let f : along_of b (from k) (to k) ≡ false = along_is c pos b box (from k) (to k) (held.starts k h) (held.ends k h) ∙ e in
        ltb-false (how_many (runs_at v ix (ends_of off ix) (to k) (from k)) (side_count off)) (how_many (runs_at v ix (ends_of off ix) (from k) (to k)) (side_count off)) (rw f at (none k h))

    pub no_surplus : NoSurplus along rings
    no_surplus s = ⊎_elim some (λ g. few _ _ g) (lt_or_ge 0 (times_in told s (off_all along rings)))
      where
        few : (m n : ℕ) → m ≤ 0 → m ≤ n
        few m n g = omega arith

        -- some side runs so
        some : 0 < times_in told s (off_all along rings) → times_in told s (off_all along rings) ≤ times_in told (way_back s) (off_all along rings)
        some g =
            let q = times_sum along s rings ∙ flat_sum (vertex_place c v) (K.off along (λ d e. one_where told s (side_of d e))) off ix cut in
            let r = some_above _ (side_count off) (subst (λ (n : ℕ). 0 < n) q g) in
            let k = r.0 in
            let w = side_counts (along (lifted_place c (from k)) (lifted_place c (to k))) s (side_of (lifted_place c (from k)) (lifted_place c (to k))) r.2 in
            let clear = w.0 in
            let hf = held.starts k r.1 in
            let ht = held.ends k r.1 in
            rw (w.1, comes_so_often (from k) (to k) hf ht clear, comes_so_often (to k) (from k) ht hf (along_back _ _ _ _ (lifted_place c (to k)) (lifted_place c (from k)) ∙ clear))
            (not_more k r.1 clear)
