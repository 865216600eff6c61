-- Rule 10 after a flip. Each half-edge is reached from what stands in for the old table's entry. The new entry is that one where it is unpaired; else no
-- half-edge at the site is unpaired, and the fan may be begun anywhere.
use Rattle.std.specs.Prelude.{◌≡◌, refl, List, ◌≢◌, ℕ, ◌<◌, length, get_or}
use Rattle.std.proofs.Common.{sym, ap, ◌∙◌, subst, inl, inr, ⊎_elim, arith}
use Rattle.base.specs.common.laws.Decide.{eq_or_ne}
use Rattle.base.specs.numbers.Numbers.{EMPTY}
use Rattle.mesh.specs.Mesh.{next_of, start_of, end_of, pair_of, Reached, here, onward, Paired, leftmost_of, Leftmost, Fan}
use Rattle.mesh.specs.Accepted.{Topology}
use Rattle.mesh.specs.laws.Next.{next_lt}
use Rattle.mesh.specs.laws.Table.{table_leftmost}
use Rattle.mesh.specs.laws.Border.{closed_fan}
use Rattle.mesh.specs.laws.Facts.{paired, end_site, tab_some, leftmost_unpaired}
use Rattle.flipping.specs.Flip.{turned_sites, relinked}
use Rattle.flipping.specs.laws.Quad.{Quad, quad_turn}
use Rattle.flipping.specs.laws.Sites.{turned_length, turned_turn, end_kept, now_r, now_l}
use Rattle.flipping.specs.laws.Pairs.{relinked_length, relinked_turn, end_r, end_l}
use Rattle.flipping.specs.laws.Rule8.{paired_again}
use Rattle.flipping.specs.laws.Rule9.{stand_in, stood, stands_a, stands_b, stands_else, hull_again}
use Rattle.mesh.specs.laws.Closed.{ClosedAt, reached_on, reached_end, reached_back}
use Rattle.flipping.specs.laws.Reach.{lost_reached, gained_reached, else_reached}

-- what is reached in the mesh is reached from within it
reached_from : (he : List ℕ) {t v : ℕ} → Reached he t v → v < length he → t < length he
reached_from he here h = h
reached_from he (onward l r) h = reached_from he r l

module _ {tri he hull : List ℕ} {sites : ℕ} (ok : Topology tri he hull sites) {a b r l : ℕ} (q : Quad tri he a b r l) where
  abbrev tri' : List ℕ
  tri' = turned_sites tri a b r l

  abbrev he' : List ℕ
  he' = relinked he a b r l

  abbrev same : length he ≡ length tri
  same = ok.same

  long : length he' ≡ length he
  long = relinked_length he a b r l

  now : Paired tri' he'
  now = paired_again same (paired ok) q

  -- what the old table holds of a site, and what stands in for it
  abbrev entry : ℕ → ℕ
  entry s = get_or (leftmost_of tri he sites) s 0

  module _ (s : ℕ) (some : (entry s < length he) × (end_of tri (entry s) ≡ s)) where
    all : (e : ℕ) → e < length he → end_of tri e ≡ s → Reached he (entry s) e
    all e h z = subst (λ k. Reached he (entry k) e) z (ok.fan e h)

    at_p : s ≡ start_of tri a → (e : ℕ) → e < length he → end_of tri' e ≡ s → Reached he' (stand_in a b r l (entry s)) e
    at_p is =
        lost_reached same (paired ok) q (entry s) s some.1 is (stand_in a b r l (entry s)) (⊎_elim
        (λ z. inr (z, ap (stand_in a b r l) z ∙ stands_b same (paired ok) q))
        (λ n. inl (n, stands_else same (paired ok) q (entry s) n (λ z. q.pq (sym is ∙ sym some.1 ∙ ap (end_of tri) z ∙ end_l (paired ok) q))))
        (eq_or_ne (entry s) r)) all

    at_q : s ≡ start_of tri b → (e : ℕ) → e < length he → end_of tri' e ≡ s → Reached he' (stand_in a b r l (entry s)) e
    at_q is e h z =
        subst (λ k. Reached k (stand_in a b r l (entry s)) e) (sym (relinked_turn (paired ok) q)) (
        lost_reached same (paired ok) (quad_turn q) (entry s) s some.1 is (stand_in a b r l (entry s)) (⊎_elim
        (λ y. inr (y, ap (stand_in a b r l) y ∙ stands_a same (paired ok) q))
        (λ n. inl (n, stands_else same (paired ok) q (entry s) (λ y. q.pq (sym (end_r (paired ok) q) ∙ ap (end_of tri) (sym y) ∙ some.1 ∙ is)) n))
        (eq_or_ne (entry s) l)) all e h (ap (λ k. end_of k e) (sym (turned_turn same q)) ∙ z))

    -- elsewhere the entry stands for itself
    itself : s ≢ start_of tri a → s ≢ start_of tri b → stand_in a b r l (entry s) ≡ entry s
    itself np nq =
        stands_else same (paired ok) q (entry s) (λ y. np (sym some.1 ∙ ap (end_of tri) y ∙ end_r (paired ok) q)) (λ y. nq (sym some.1 ∙ ap (end_of tri) y ∙ end_l (paired ok) q))

    from_it : (e : ℕ) → e < length he → end_of tri' e ≡ s → Reached he' (stand_in a b r l (entry s)) e
    from_it e h z =
        ⊎_elim (λ is. at_p is e h z) (λ np.
        ⊎_elim (λ is. at_q is e h z) (λ nq.
        subst (λ k. Reached he' k e) (sym (itself np nq)) (
        ⊎_elim (λ is. gained_reached same (paired ok) q (entry s) s some.1 is all e h z) (λ nx.
        ⊎_elim (λ is. subst (λ k. Reached k (entry s) e) (sym (relinked_turn (paired ok) q))
        (gained_reached same (paired ok) (quad_turn q) (entry s) s some.1 is all e h (ap (λ k. end_of k e) (sym (turned_turn same q)) ∙ z))) (λ ny.
        else_reached same (paired ok) q (entry s) s some.1 np nq nx ny all e h z)
        (eq_or_ne s (start_of tri l))) (eq_or_ne s (start_of tri r))))
        (eq_or_ne s (start_of tri b))) (eq_or_ne s (start_of tri a))

  -- where a half-edge ends now, one ended before
  ended : (e : ℕ) → e < length he → (d : ℕ) × (d < length he) × (end_of tri d ≡ end_of tri' e)
  ended e h =
      ⊎_elim
      (λ z. (next_of b, next_lt (paired ok).threes q.b_in, ap (start_of tri) q.before_b ∙ sym (ap (end_of tri') z ∙ now_r same q)))
      (λ nr. ⊎_elim
      (λ z. (next_of a, next_lt (paired ok).threes q.a_in, ap (start_of tri) q.before_a ∙ sym (ap (end_of tri') z ∙ now_l same q)))
      (λ nl. (e, h, sym (end_kept same q nr nl)))
      (eq_or_ne e l))
      (eq_or_ne e r)

  pub site_again : (e : ℕ) → e < length he → end_of tri' e < sites
  site_again e h = let d = ended e h in subst (λ k. k < sites) d.2 (end_site ok d.0 d.1)

  -- the new table
  pub leftmost_again : (s : ℕ) → s < sites → Leftmost tri' he' (length tri') s (get_or (leftmost_of tri' he' sites) s 0)
  leftmost_again s h =
      table_leftmost tri' he' sites (length tri') s (omega (arith, turned_length tri a b r l, ok.small))
      (λ e k. site_again e (omega (arith, turned_length tri a b r l, ok.same))) h

  module _ (e : ℕ) (h : e < length he) where
    abbrev s : ℕ
    s = end_of tri' e

    abbrev t : ℕ
    t = get_or (leftmost_of tri' he' sites) s 0

    some_old : (entry s < length he) × (end_of tri (entry s) ≡ s)
    some_old = let d = ended e h in tab_some ok s (site_again e h) d.0 d.1 d.2

    is_left : Leftmost tri' he' (length tri') s t
    is_left = leftmost_again s (site_again e h)

    in_new : {k : ℕ} → k < length he → k < length tri'
    in_new g = omega (arith, turned_length tri a b r l, ok.same)

    in_old : {k : ℕ} → k < length tri' → k < length he
    in_old g = omega (arith, turned_length tri a b r l, ok.same)

    some_new : (t < length he) × (end_of tri' t ≡ s)
    some_new =
        ⊎_elim
        (λ z. absurd (is_left.none z e (in_new h) refl))
        (λ n. let w = is_left.some n in (in_old w.0, w.1))
        (eq_or_ne t EMPTY)

    -- an unpaired entry is what stands in for the old one
    unpaired : pair_of he' t ≡ EMPTY → stand_in a b r l (entry s) ≡ t
    unpaired u =
        let w = stood same (paired ok) q t some_new.0 u in
        ap (stand_in a b r l) (leftmost_unpaired ok s (site_again e h) w.was w.was_in (w.was_to ∙ some_new.1) w.was_open) ∙ w.is

    closed : pair_of he' t ≢ EMPTY → ClosedAt tri' he' s
    closed n = closed_fan tri' he' hull sites s now (hull_again same (paired ok) q hull sites ok.border) (λ d k z u. n (is_left.last d (in_new (rw long at k)) z u).1)

    reaches : Reached he' t e
    reaches =
        let base = from_it s some_old in
        ⊎_elim
        (λ u. subst (λ k. Reached he' k e) (unpaired u) (base e h refl))
        (λ n.
        let g = base t some_new.0 some_new.1 in
        let i : stand_in a b r l (entry s) < length he' = reached_from he' g (rw long some_new.0) in
        let j : end_of tri' (stand_in a b r l (entry s)) ≡ s = sym (reached_end tri' he' now (base e h refl) (rw long h)) in
        reached_on (reached_back tri' he' now s (closed n) i j g) (base e h refl))
        (eq_or_ne (pair_of he' t) EMPTY)

  pub fan_again : Fan tri' he' (leftmost_of tri' he' sites)
  fan_again e h = reaches e (rw long at h)
