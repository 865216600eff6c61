-- On an accepted mesh that turns the right way, is convex over each inner edge and has a convex border, a site with no lower neighbour is a lowest site in use.
use Rattle.std.specs.Prelude.{◌≡◌, List, ◌≢◌, ℕ, zero, suc, ◌-◌, ◌*◌, ◌≤◌, ◌<◌, length, get_or}
use Rattle.std.proofs.Common.{sym, ap, ◌∙◌, subst, ⊎_elim, arith}
use Rattle.base.specs.common.laws.Decide.{lt_or_ge, eq_or_ne}
use Rattle.base.specs.common.Count.{sum_to}
use Rattle.base.specs.numbers.Numbers.{EMPTY}
use Rattle.mesh.specs.Mesh.{next_of, start_of, end_of, pair_of, Used}
use Rattle.mesh.specs.Hull.{next_place, next_site, OnHull}
use Rattle.mesh.specs.Accepted.{Topology}
use Rattle.mesh.specs.laws.Border.{after_cases, after_lt, hull_border, open_one}
use Rattle.mesh.specs.laws.Facts.{paired, used_end}
use Rattle.mesh.specs.laws.Next.{next_lt, next_thrice}
use Rattle.nearest_laws.specs.laws.Area.{◌⊕◌, ◌⊖◌, ◌▹◌, Null}
use Rattle.grid.specs.Raised.{area_of, lift_of}
use Rattle.grid.specs.declared.Raised.{Raised}
use Rattle.grid.specs.declared.Signed.{Signed}
use Rattle.nearest_laws.specs.laws.Signs.{Pos, Neg, NonNeg, NonPos, rect, rect<}
use Rattle.nearest_laws.specs.laws.Strip.{Exit}
use Rattle.grid.specs.scan.Judged.{apex_of}
use Rattle.nearest_laws.specs.laws.Meet.{above_from, above_to}
use Rattle.nearest_laws.specs.laws.Sides.{Apart, left_all}
use Rattle.nearest_laws.specs.laws.Outside.{Outside, outside_left, one_exit, not_opposed}
use Rattle.nearest_laws.specs.laws.Ready.{Bad, Ahead, Behind, ahead_or_bad, behind_or_bad}

-- numbers only: t is a mean of u, v and s with weights of which those of u and v are not negative, and not below the plane
mean : (zu zv zs zt : ℕ) (u v w k : Signed) → Null (k ⊖ u ⊖ v ⊖ w) → NonPos (zu ▹ u ⊕ zv ▹ v ⊕ zs ▹ w ⊖ zt ▹ k) → NonNeg u → NonNeg v → Pos k
    → zs ≤ zu → zs ≤ zv
    → zs ≤ zt
mean zu zv zs zt u v w k sum low hu hv hk lu lv =
    ⊎_elim
    (λ h. absurd (omega (arith, low, ap (λ n. zs * n) sum, rect zs zu u.minus u.plus lu hu, rect zs zv v.minus v.plus lv hv, rect< zt zs k.minus k.plus h hk)))
    (λ h. h)
    (lt_or_ge zt zs)

-- s is the third of the triangle, or the first
mean₃ : (a b s t : Raised) → Pos (area_of a b s) → NonPos (lift_of a b s t) → NonPos (area_of s t a) → Pos (area_of s t b) → s.z ≤ a.z → s.z ≤ b.z → s.z ≤ t.z
mean₃ a b s t h low ha hb la lb =
    mean a.z b.z s.z t.z (area_of b s t) (area_of s a t) (area_of a b t) (area_of a b s) (omega arith) low (omega arith) (omega arith) h la lb

mean₁ : (s b c t : Raised) → Pos (area_of s b c) → NonPos (lift_of s b c t) → Pos (area_of t s b) → NonPos (area_of t s c) → s.z ≤ b.z → s.z ≤ c.z → s.z ≤ t.z
mean₁ s b c t h low hb hc lb lc =
    mean b.z c.z s.z t.z (area_of c s t) (area_of s b t) (area_of b c t) (area_of s b c) (omega arith)
    (order (s.z ▹ area_of b c t) (b.z ▹ area_of c s t) (c.z ▹ area_of s b t) (t.z ▹ area_of s b c) low) (omega arith) (omega arith) h lb lc
  where
    order : (x y z w : Signed) → NonPos (x ⊕ y ⊕ z ⊖ w) → NonPos (y ⊕ z ⊕ x ⊖ w)
    order x y z w h = omega arith

summed : (u : ℕ → ℕ) (n k : ℕ) → k < n → u k ≤ sum_to u n
summed u zero k l = absurd (omega arith)
summed u (suc n) k l = ⊎_elim (λ q. rw q (omega arith)) (λ q. omega (arith, summed u n k (omega arith))) (eq_or_ne k n)

-- a convex hull: each of its sites lies left of or on each of its edges, and a line leaves it at one edge at most
pub record Convex (hull : List ℕ) (P : ℕ → Raised) : Type 0 where
  pub left : (i j : ℕ) → i < length hull → j < length hull → NonNeg (area_of (P (get_or hull i 0)) (P (next_site hull i)) (P (get_or hull j 0)))
  pub once : (A B : Raised) (i j : ℕ) → i < length hull → j < length hull → i ≢ j → NonPos (area_of A B (P (get_or hull i 0))) → Pos (area_of A B (P (next_site hull i))) → NonPos
      (area_of A B (P (get_or hull j 0))) → Pos (area_of A B (P (next_site hull j))) → ⊥

-- by all pairs: each hull site lies left of each hull edge that it is no end of, or on its line beyond its ends
module _ (hull : List ℕ) (P : ℕ → Raised) (round : (i j : ℕ) → i < length hull → j < length hull → j ≢ i → j ≢ next_place (length hull) i → Outside
    (P (get_or hull i 0)) (P (next_site hull i))
    (P (get_or hull j 0))) where
  flat₁ : (a b : Raised) → NonNeg (area_of a b a)
  flat₁ a b = omega arith

  flat₂ : (a b : Raised) → NonNeg (area_of a b b)
  flat₂ a b = omega arith

  -- the hull's sites and each hull edge
  hull_left : (i j : ℕ) → i < length hull → j < length hull → NonNeg (area_of (P (get_or hull i 0)) (P (next_site hull i)) (P (get_or hull j 0)))
  hull_left i j li lj =
      ⊎_elim
      (λ q. subst (λ k. NonNeg (area_of (P (get_or hull i 0)) (P (next_site hull i)) (P (get_or hull k 0)))) (sym q) (flat₁ (P (get_or hull i 0)) (P (next_site hull i))))
      (λ n. ⊎_elim
      (λ q. subst (λ k. NonNeg (area_of (P (get_or hull i 0)) (P (next_site hull i)) (P (get_or hull k 0)))) (sym q) (flat₂ (P (get_or hull i 0)) (P (next_site hull i))))
      (λ m. outside_left (P (get_or hull i 0)) (P (next_site hull i)) (P (get_or hull j 0)) (round i j li lj n m))
      (eq_or_ne j (next_place (length hull) i)))
      (eq_or_ne j i)

  clash : (s : Signed) → Pos s → NonPos s → ⊥
  clash s h k = omega arith

  pub by_pairs : Convex hull P
  by_pairs = record {
    left = hull_left;
    once = λ A B i j li lj q a-right b-left c-right d-left.
        one_exit (P (get_or hull i 0)) (P (next_site hull i)) (P (get_or hull j 0)) (P (next_site hull j)) A B a-right b-left c-right d-left
        (round i j li lj (λ z. q (sym z)) (λ z. clash _ b-left (subst (λ k. NonPos (area_of A B (P (get_or hull k 0)))) z c-right)))
        (hull_left i (next_place (length hull) j) li (after_lt (length hull) j lj))
        (round j i lj li q (λ z. clash _ d-left (subst (λ k. NonPos (area_of A B (P (get_or hull k 0)))) z a-right)))
        (hull_left j (next_place (length hull) i) lj (after_lt (length hull) i li));
  }

module _ {tri he hull : List ℕ} {sites : ℕ} (ok : Topology tri he hull sites) (P : ℕ → Raised)
    -- each triangle turns the right way
    (ccw : (e : ℕ) → e < length he → Pos (area_of (P (start_of tri e)) (P (end_of tri e)) (P (apex_of tri e))))
    -- over each paired half-edge the far site is not below the triangle's plane
    (convex : (e : ℕ) → e < length he → pair_of he e ≢ EMPTY → NonPos (lift_of (P (start_of tri e)) (P (end_of tri e)) (P (apex_of tri e)) (P (apex_of tri (pair_of he e)))))
    (round : Convex hull P)
  where
    on_hull_lem : (e : ℕ) → e < length he → pair_of he e ≡ EMPTY → OnHull tri hull e
    on_hull_lem e l u = (hull_border tri he hull sites ok.border e l u).0

    border : (e d : ℕ) → e < length he → pair_of he e ≡ EMPTY → d < length he → pair_of he d ≡ EMPTY → NonNeg (area_of (P (start_of tri e)) (P (end_of tri e)) (P (start_of tri d)))
    border e d le ue ld ud =
        let p = on_hull_lem e le ue in
        let r = on_hull_lem d ld ud in
        rw (p.2, p.3, r.2) (round.left p.0 r.0 p.1 r.1)

    lefts : (d n : ℕ) → d < length he → pair_of he d ≡ EMPTY → n < length he → NonNeg (area_of (P (start_of tri d)) (P (end_of tri d)) (P (start_of tri n)))
    lefts d n ld ud ln =
        let u : ℕ → ℕ = λ k. (area_of (P (start_of tri d)) (P (end_of tri d)) (P (start_of tri k))).minus in
        left_all tri he (paired ok) P ccw (sum_to u (length he)) d ld (λ k lk. summed u (length he) k lk) (λ k lk uk. border d k ld ud lk uk) n ln

    -- the place before
    before : (i : ℕ) → i < length hull → (j : ℕ) × (j < length hull) × (next_place (length hull) j ≡ i)
    before zero l = (length hull - 1, omega arith, ⊎_elim (λ w. w.1) (λ w. absurd (w.0 (omega arith))) (after_cases (length hull) (length hull - 1)))
    before (suc i) l = (i, omega arith, ⊎_elim (λ w. absurd (omega (arith, w.0))) (λ w. omega (arith, w.1)) (after_cases (length hull) i))

    incoming : (d : ℕ) → d < length he → pair_of he d ≡ EMPTY → (e : ℕ) × (e < length he) × (pair_of he e ≡ EMPTY) × (end_of tri e ≡ start_of tri d)
    incoming d l u =
        let p = on_hull_lem d l u in
        let b = before p.0 p.1 in
        let o = ok.border.edges b.0 b.1 in
        (o.0, o.1, o.2, o.4 ∙ ap (λ k. get_or hull k 0) b.2 ∙ sym p.2)

    -- a line leaves the border in one place only
    one_way : (A B : Raised) (d e : ℕ) → Exit tri he (paired ok) P A B d → Exit tri he (paired ok) P A B e → pair_of he d ≡ EMPTY → pair_of he e ≡ EMPTY → d ≡ e
    one_way A B d e xd xe ud ue =
        let p = on_hull_lem d xd.0 ud in
        let r = on_hull_lem e xe.0 ue in
        ⊎_elim
        (λ q. open_one tri he hull sites ok.border d e xd.0 xe.0 ud ue (p.3 ∙ ap (next_site hull) q ∙ sym r.3))
        (λ q.
        let a-right : NonPos (area_of A B (P (get_or hull p.0 0))) = rw p.2 at xd.1 in
        let b-left : Pos (area_of A B (P (next_site hull p.0))) = rw p.3 at xd.2 in
        let c-right : NonPos (area_of A B (P (get_or hull r.0 0))) = rw r.2 at xe.1 in
        let d-left : Pos (area_of A B (P (next_site hull r.0))) = rw r.3 at xe.2 in
        absurd (round.once A B p.0 r.0 p.1 r.1 q a-right b-left c-right d-left))
        (eq_or_ne p.0 r.0)

    -- no border edge runs along the line with the mesh on its right if one runs with the mesh on its left
    module _ (s t : ℕ) (es et : ℕ) (les : es < length he) (let' : et < length he) (qs : end_of tri es ≡ s) (qt : end_of tri et ≡ t) (apart : Apart (P s) (P t)) where
      abbrev there : Apart (P t) (P s)
      there p q = apart (sym p) (sym q)

      abbrev BadST : Type 0
      BadST = Bad tri he (paired ok) P ccw lefts incoming s t apart es et les let' qs qt

      abbrev BadTS : Type 0
      BadTS = Bad tri he (paired ok) P ccw lefts incoming t s there et es let' les qt qs

      not_bad : BadST → BadTS → ⊥
      not_bad g h =
          not_opposed (P (start_of tri g.way)) (P (end_of tri g.way)) (P (apex_of tri g.way)) (P (apex_of tri h.way)) (P s) (P t) g.from g.to g.right
          (flip (P s) (P t) (P (apex_of tri h.way)) h.right) (lefts g.way (next_of (next_of h.way)) g.inside g.open'
          (next_lt (paired ok).threes (next_lt (paired ok).threes h.inside))) (ccw g.way g.inside)
        where
          flip : (a b n : Raised) → Neg (area_of b a n) → Pos (area_of a b n)
          flip a b n k = omega arith

      -- no neighbour of s is lower
      module _ (ins : (e : ℕ) → e < length he → end_of tri e ≡ s → (P s).z ≤ (P (start_of tri e)).z)
          (outs : (e : ℕ) → e < length he → start_of tri e ≡ s → (P s).z ≤ (P (end_of tri e)).z) where
        by_st : Ahead tri he (paired ok) P ccw lefts incoming s t apart es et les let' qs qt → Behind tri he (paired ok) P ccw lefts incoming s t apart es et les let' qs qt → (P s).z ≤ (P t).z
        by_st a b =
            let x = a.x in
            let low = above_from tri he (paired ok) P s t ccw convex (one_way (P s) (P t)) x b.y a.exit b.exit a.apex b.start b.back in
            let l = a.exit.0 in
            let l₁ = next_lt (paired ok).threes l in
            let l₂ = next_lt (paired ok).threes l₁ in
            mean₃ (P (start_of tri x)) (P (end_of tri x)) (P s) (P t) (subst (λ v. Pos (area_of (P (start_of tri x)) (P (end_of tri x)) (P v))) a.apex (ccw x l))
            (subst (λ v. NonPos (lift_of (P (start_of tri x)) (P (end_of tri x)) (P v) (P t))) a.apex low) a.exit.1 a.exit.2
            (subst (λ v. (P s).z ≤ (P v).z) (ap (start_of tri) (next_thrice x)) (outs (next_of (next_of x)) l₂ a.apex)) (ins (next_of x) l₁ a.apex)

        by_ts : Ahead tri he (paired ok) P ccw lefts incoming t s there et es let' les qt qs → Behind tri he (paired ok) P ccw lefts incoming t s there et es let' les qt qs → (P s).z ≤ (P t).z
        by_ts a b =
            let y = b.y in
            let low = above_to tri he (paired ok) P t s ccw convex (one_way (P t) (P s)) a.x y a.exit b.exit a.apex b.start b.back in
            let l = b.exit.0 in
            let l₂ = next_lt (paired ok).threes (next_lt (paired ok).threes l) in
            mean₁ (P s) (P (end_of tri y)) (P (apex_of tri y)) (P t) (subst (λ v. Pos (area_of (P v) (P (end_of tri y)) (P (apex_of tri y)))) b.start (ccw y l))
            (subst (λ v. NonPos (lift_of (P v) (P (end_of tri y)) (P (apex_of tri y)) (P t))) b.start low) b.exit.2 b.back (outs y l b.start)
            (ins (next_of (next_of y)) l₂ (ap (start_of tri) (next_thrice y) ∙ b.start))

        least_apart : (P s).z ≤ (P t).z
        least_apart =
            ⊎_elim
            (λ a. ⊎_elim (by_st a) other (behind_or_bad tri he (paired ok) P ccw lefts incoming s t apart es et les let' qs qt))
            other
            (ahead_or_bad tri he (paired ok) P ccw lefts incoming s t apart es et les let' qs qt)
          where
            other : BadST → (P s).z ≤ (P t).z
            other g =
                ⊎_elim
                (λ a. ⊎_elim (by_ts a) (λ h. absurd (not_bad g h)) (behind_or_bad tri he (paired ok) P ccw lefts incoming t s there et es let' les qt qs))
                (λ h. absurd (not_bad g h))
                (ahead_or_bad tri he (paired ok) P ccw lefts incoming t s there et es let' les qt qs)

    -- a site that has no lower neighbour is a lowest one of all in use; the height is one of the place alone
    pub least : (s t : ℕ) → Used tri s → Used tri t → ((P s).x ≡ (P t).x → (P s).y ≡ (P t).y → (P s).z ≤ (P t).z) →
        ((e : ℕ) → e < length he → end_of tri e ≡ s → (P s).z ≤ (P (start_of tri e)).z) →
        ((e : ℕ) → e < length he → start_of tri e ≡ s → (P s).z ≤ (P (end_of tri e)).z) → (P s).z ≤ (P t).z
    least s t us ut same ins outs =
        let a = used_end ok us in
        let b = used_end ok ut in
        ⊎_elim
        (λ p. ⊎_elim
        (λ q. same p q)
        (λ q. least_apart s t a.0 b.0 a.1 b.1 a.2 b.2 (λ i j. q j) ins outs)
        (eq_or_ne (P s).y (P t).y))
        (λ p. least_apart s t a.0 b.0 a.1 b.1 a.2 b.2 (λ i j. p i) ins outs)
        (eq_or_ne (P s).x (P t).x)
