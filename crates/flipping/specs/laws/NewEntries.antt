-- The leftmost half-edge of each site after a flip: p has lost r, x has gained l, the other two from the other side, and elsewhere it stays.
use Rattle.std.specs.Prelude.{◌≡◌, refl, List, ◌∷◌, ◌⊎◌, ◌≢◌, ℕ, ◌+◌, ◌≤◌, ◌<◌, get_or}
use Rattle.std.proofs.Math.Path.{sym, subst}
use Rattle.std.proofs.Common.{ap, ◌∙◌, arith}
use Rattle.std.proofs.Math.Logic.{⊎_elim}
use Rattle.std.proofs.Math.ListN.{length}
use Rattle.base.specs.common.Count.{same, occ}
use Rattle.base.specs.common.laws.Count.{same_cases}
use Rattle.base.specs.common.laws.Decide.{eq_or_ne}
use Rattle.base.specs.numbers.Numbers.{EMPTY}
use Rattle.mesh.specs.Mesh.{next_of, start_of, end_of, pair_of, turn_of, walk_of, whole_of, leftmost_of, Leftmost}
use Rattle.mesh.specs.Accepted.{Topology}
use Rattle.mesh.specs.laws.Next.{next_lt}
use Rattle.mesh.specs.laws.Border.{open_one}
use Rattle.mesh.specs.laws.WalkSteps.{walk_go}
use Rattle.mesh.specs.laws.Walks.{turn_cases, walk_ends, walk_whole}
use Rattle.mesh.specs.laws.Facts.{paired, walk_each}
use Rattle.flipping.specs.Flip.{turned_sites, relinked}
use Rattle.flipping.specs.Entries.{lesser, gain_of, least_round, loss_of}
use Rattle.flipping.specs.laws.Quad.{Quad}
use Rattle.flipping.specs.laws.Sites.{end_kept, now_r, now_l, r_b, l_b}
use Rattle.flipping.specs.laws.Pairs.{
  Among,
  at_a,
  at_b,
  at_r,
  at_l,
  outer_of_l,
  outer_of_r,
  elsewhere,
  place,
  pair_kept,
  pair_b,
  pair_l,
  pair_outer_l,
  pair_outer_r,
  end_r,
  end_l,
  outer_l,
  outer_r,
}
use Rattle.flipping.specs.laws.Least.{lesser_cases, least_below, least_there, gain_cases, loss_other, loss_open, loss_round}

module _ {tri he hull : List ℕ} {sites : ℕ} (ok : Topology tri he hull sites) {a b r l : ℕ} (q : Quad tri he a b r l) where
  abbrev tri' : List ℕ
  tri' = turned_sites tri a b r l

  abbrev he' : List ℕ
  he' = relinked he a b r l

  abbrev n : ℕ
  n = length tri

  in_he : {e : ℕ} → e < n → e < length he
  in_he h = omega (arith, ok.same)

  in_tri : {e : ℕ} → e < length he → e < n
  in_tri h = omega (arith, ok.same)

  there : {e : ℕ} → e < length he → e ≢ EMPTY
  there h z = omega (arith, ok.small, ok.same)

  -- but for the four a half-edge is unpaired where it was
  still : {e : ℕ} → e < length he → e ≢ r → e ≢ l → pair_of he e ≡ EMPTY → pair_of he' e ≡ EMPTY
  still {e} h nr nl u =
      pair_kept he a b r l
      (λ z. there q.b_in (sym q.ab ∙ ap (pair_of he) (sym z) ∙ u))
      (λ z. there q.a_in (sym q.ba ∙ ap (pair_of he) (sym z) ∙ u))
      nr
      nl
      (λ z. there q.l_in (sym (outer_l (paired ok) q (λ w. there h (z ∙ w))).back ∙ ap (pair_of he) (sym z) ∙ u))
      (λ z. there q.r_in (sym (outer_r (paired ok) q (λ w. there h (z ∙ w))).back ∙ ap (pair_of he) (sym z) ∙ u)) ∙ u

  already : {e : ℕ} → e < length he → e ≢ a → e ≢ b → e ≢ r → e ≢ l → pair_of he' e ≡ EMPTY → pair_of he e ≡ EMPTY
  already {e} h na nb nr nl u =
      sym (pair_kept he a b r l na nb nr nl
      (λ z. there q.a_in (sym (pair_outer_l (paired ok) q (λ w. there h (z ∙ w))) ∙ ap (pair_of he') (sym z) ∙ u))
      (λ z. there q.b_in (sym (pair_outer_r (paired ok) q (λ w. there h (z ∙ w))) ∙ ap (pair_of he') (sym z) ∙ u))) ∙ u

  module _ (s t : ℕ) (g : Leftmost tri he n s t) where
    -- ---- a site that is none of the four
    module _ (np : s ≢ start_of tri a) (nq : s ≢ start_of tri b) (nx : s ≢ start_of tri r) (ny : s ≢ start_of tri l) where
      old_end : (e : ℕ) → end_of tri' e ≡ s → end_of tri e ≡ s
      old_end e z =
          sym (end_kept ok.same q (λ y. ny (sym z ∙ ap (end_of tri') y ∙ now_r ok.same q)) (λ y. nx (sym z ∙ ap (end_of tri') y ∙ now_l ok.same q))) ∙ z

      not_r : {e : ℕ} → end_of tri e ≡ s → e ≢ r
      not_r z y = np (sym z ∙ ap (end_of tri) y ∙ end_r (paired ok) q)

      not_l : {e : ℕ} → end_of tri e ≡ s → e ≢ l
      not_l z y = nq (sym z ∙ ap (end_of tri) y ∙ end_l (paired ok) q)

      was : {e : ℕ} → e < n → end_of tri e ≡ s → pair_of he' e ≡ EMPTY → pair_of he e ≡ EMPTY
      was h z = already (in_he h) (λ y. nq (sym z ∙ ap (end_of tri) y ∙ q.end_a)) (λ y. np (sym z ∙ ap (end_of tri) y ∙ q.end_b)) (not_r z) (not_l z)

      pub left_else : Leftmost tri' he' n s t
      left_else = record {
        none = λ z e h y. g.none z e h (old_end e y);
        some = λ z. let w = g.some z in (w.0, end_kept ok.same q (not_r w.1) (not_l w.1) ∙ w.1);
        last = λ e h z u.
            let w = g.last e h (old_end e z) (was h (old_end e z) u) in
            let i = g.some (λ y. g.none y e h (old_end e z)) in
            (w.0, still (in_he i.0) (not_r i.1) (not_l i.1) w.1);
        lowest = λ z e h y.
            let i = g.some (λ w. g.none w e h (old_end e y)) in
            g.lowest (λ w. z (still (in_he i.0) (not_r i.1) (not_l i.1) w)) e h (old_end e y);
      }

    -- ---- the site x has gained l, which has a pair
    module _ (is : s ≡ start_of tri r) where
      c_in : next_of a < n
      c_in = in_tri (next_lt (paired ok).threes q.a_in)

      some_x : (t < n) × (end_of tri t ≡ s)
      some_x = g.some (λ z. g.none z (next_of a) c_in (ap (start_of tri) q.before_a ∙ sym is))

      r_not : {e : ℕ} → end_of tri e ≡ s → e ≢ r
      r_not z y = q.xp (sym is ∙ sym z ∙ ap (end_of tri) y ∙ end_r (paired ok) q)

      l_not : {e : ℕ} → end_of tri e ≡ s → e ≢ l
      l_not z y = q.qx (sym (end_l (paired ok) q) ∙ ap (end_of tri) (sym y) ∙ z ∙ is)

      x_end : {e : ℕ} → e ≢ l → end_of tri' e ≡ s → end_of tri e ≡ s
      x_end nl z = sym (end_kept ok.same q (λ y. q.xy (sym is ∙ sym z ∙ ap (end_of tri') y ∙ now_r ok.same q)) nl) ∙ z

      x_now : (e : ℕ) → end_of tri e ≡ s → end_of tri' e ≡ s
      x_now e z = end_kept ok.same q (r_not z) (l_not z) ∙ z

      x_was : {e : ℕ} → e < n → end_of tri e ≡ s → pair_of he' e ≡ EMPTY → pair_of he e ≡ EMPTY
      x_was h z =
          already (in_he h) (λ y. q.qx (sym q.end_a ∙ ap (end_of tri) (sym y) ∙ z ∙ is)) (λ y. q.xp (sym is ∙ sym z ∙ ap (end_of tri) y ∙ q.end_b)) (r_not z) (l_not z)

      l_pair : {e : ℕ} → pair_of he' e ≡ EMPTY → e ≢ l
      l_pair u y = there q.r_in (sym (pair_l (paired ok) q) ∙ ap (pair_of he') (sym y) ∙ u)

      -- an unpaired one in the new mesh was unpaired there
      x_last : (e : ℕ) → e < n → end_of tri' e ≡ s → pair_of he' e ≡ EMPTY → (e ≤ t) × (pair_of he t ≡ EMPTY)
      x_last e h z u = let y = x_end (l_pair u) z in g.last e h y (x_was h y u)

      x_open : pair_of he t ≡ EMPTY → Leftmost tri' he' n s t
      x_open o =
          let o' = still (in_he some_x.0) (r_not some_x.1) (l_not some_x.1) o in
          record {
            none = λ z. absurd (there (in_he some_x.0) z);
            some = λ _. (some_x.0, x_now t some_x.1);
            last = λ e h z u. ((x_last e h z u).0, o');
            lowest = λ z. absurd (z o');
          }

      x_paired : pair_of he t ≢ EMPTY → (m : ℕ) → ((l < t) × (m ≡ l)) ⊎ ((t ≤ l) × (m ≡ t)) → Leftmost tri' he' n s m
      x_paired o m w =
          let some : (m < n) × (end_of tri' m ≡ s) = ⊎_elim
          (λ y. (omega (arith, in_tri q.l_in), ap (end_of tri') y.1 ∙ now_l ok.same q ∙ sym is))
          (λ y. (omega (arith, some_x.0), ap (end_of tri') y.1 ∙ x_now t some_x.1)) w in
          let le_l : m ≤ l = ⊎_elim (λ y. omega arith) (λ y. omega arith) w in
          let le-t : m ≤ t = ⊎_elim (λ y. omega arith) (λ y. omega arith) w in
          record {
            none = λ z. absurd (there (in_he some.0) z);
            some = λ _. some;
            last = λ e h z u. absurd (o (x_last e h z u).1);
            lowest = λ z e h y. ⊎_elim (λ v. omega arith) (λ v. omega (arith, g.lowest o e h (x_end v y))) (eq_or_ne e l);
          }

      pub left_gained : Leftmost tri' he' n s (gain_of he t l)
      left_gained =
          ⊎_elim
          (λ w. subst (Leftmost tri' he' n s) (sym w.1) (x_open w.0))
          (λ w. subst (Leftmost tri' he' n s) (sym w.1) (x_paired w.0 (lesser l t) (lesser_cases l t)))
          (gain_cases he t l)

    -- ---- the site p has lost r, and b has its pair
    module _ (is : s ≡ start_of tri a) where
      r_ends : end_of tri r ≡ s
      r_ends = end_r (paired ok) q ∙ sym is

      some_p : (t < n) × (end_of tri t ≡ s)
      some_p = g.some (λ z. g.none z r (in_tri q.r_in) r_ends)

      not_now_r : {e : ℕ} → end_of tri' e ≡ s → e ≢ r
      not_now_r z y = q.py (sym is ∙ sym z ∙ ap (end_of tri') y ∙ now_r ok.same q)

      not_now_l : {e : ℕ} → end_of tri' e ≡ s → e ≢ l
      not_now_l z y = q.xp (sym (now_l ok.same q) ∙ ap (end_of tri') (sym y) ∙ z ∙ is)

      p_end : (e : ℕ) → end_of tri' e ≡ s → end_of tri e ≡ s
      p_end e z = sym (end_kept ok.same q (not_now_r z) (not_now_l z)) ∙ z

      p_l : {e : ℕ} → end_of tri e ≡ s → e ≢ l
      p_l z y = q.pq (sym is ∙ sym z ∙ ap (end_of tri) y ∙ end_l (paired ok) q)

      p_now : {e : ℕ} → e ≢ r → end_of tri e ≡ s → end_of tri' e ≡ s
      p_now nr z = end_kept ok.same q nr (p_l z) ∙ z

      p_was : {e : ℕ} → e < n → e ≢ b → end_of tri' e ≡ s → pair_of he' e ≡ EMPTY → pair_of he e ≡ EMPTY
      p_was {e} h nb z = already (in_he h) (λ y. q.pq (sym is ∙ sym (p_end e z) ∙ ap (end_of tri) y ∙ q.end_a)) nb (not_now_r z) (not_now_l z)

      b_now : end_of tri' b ≡ s
      b_now = end_kept ok.same q (λ z. r_b ok.same q (sym z)) (λ z. l_b ok.same q (sym z)) ∙ q.end_b ∙ sym is

      -- it was not the entry: then it was paired
      module _ (nt : t ≢ r) where
        r_paired : pair_of he r ≢ EMPTY
        r_paired u =
            let w = g.last r (in_tri q.r_in) r_ends u in
            nt (open_one tri he hull sites ok.border t r (in_he some_p.0) q.r_in w.1 u (some_p.1 ∙ sym r_ends))

        b_paired : {e : ℕ} → pair_of he' e ≡ EMPTY → e ≢ b
        b_paired u y = r_paired (sym (pair_b (paired ok) q) ∙ ap (pair_of he') (sym y) ∙ u)

        left_stays : Leftmost tri' he' n s t
        left_stays = record {
          none = λ z. absurd (there (in_he some_p.0) z);
          some = λ _. (some_p.0, p_now nt some_p.1);
          last = λ e h z u.
              let w = g.last e h (p_end e z) (p_was h (b_paired u) z u) in
              (w.0, still (in_he some_p.0) nt (p_l some_p.1) w.1);
          lowest = λ z e h y. g.lowest (λ w. z (still (in_he some_p.0) nt (p_l some_p.1) w)) e h (p_end e y);
        }

      -- it was the entry, unpaired: b is unpaired now, and alone
      left_open : pair_of he r ≡ EMPTY → Leftmost tri' he' n s b
      left_open u =
          let v : pair_of he' b ≡ EMPTY = pair_b (paired ok) q ∙ u in
          record {
            none = λ z. absurd (there q.b_in z);
            some = λ _. (in_tri q.b_in, b_now);
            last = λ e h z w. (
              ⊎_elim
                  (λ y. omega arith)
                  (λ y. absurd (not_now_r z (open_one tri he hull sites ok.border e r (in_he h) q.r_in (p_was h y z w) u (p_end e z ∙ sym r_ends))))
                  (eq_or_ne e b),
              v,
            );
            lowest = λ z. absurd (z v);
          }

      -- it was the entry, and paired: all are, and the least of the others is found on the way round
      module _ (el : s < sites) (at : get_or (leftmost_of tri he sites) s 0 ≡ t) (z : t ≡ r) (o : pair_of he r ≢ EMPTY) where
        abbrev way : List ℕ
        way = walk_of he r (length he) b

        opened : whole_of he r ≡ r ∷ way
        opened =
            let w : turn_of he r r ≡ b = ⊎_elim
            (λ y. absurd (r_b ok.same q (sym y.0 ∙ ap (pair_of he) q.after_r ∙ q.ab)))
            (λ y. y.1 ∙ ap (pair_of he) q.after_r ∙ q.ab) (turn_cases he r r) in
            sym (walk_whole tri he (paired ok) r q.r_in) ∙ walk_go he r (length he) r q.r_in ∙ ap (λ k. r ∷ walk_of he r (length he) k) w

        counted : (e : ℕ) → e < length he → end_of tri e ≡ s → same e r + occ e way ≡ 1
        counted e h y = ap (occ e) (sym opened) ∙ ap (λ k. occ e (whole_of he k)) (sym z ∙ sym at) ∙ walk_each ok s el e h y

        others : (e : ℕ) → e < length he → end_of tri e ≡ s → e ≢ r → 0 < occ e way
        others e h y nr = ⊎_elim (λ w. absurd (nr w.0)) (λ w. omega (arith, counted e h y)) (same_cases e r)

        r_off : occ r way ≡ 0
        r_off = ⊎_elim (λ w. omega (arith, counted r q.r_in r_ends)) (λ w. absurd (w.0 refl)) (same_cases r r)

        on_way : (e : ℕ) → 0 < occ e way → (e < length he) × (end_of tri e ≡ s) × (e ≢ r)
        on_way e h =
            let w = walk_ends tri he (paired ok) r (length he) b e h in
            (w.0, w.1 ∙ q.end_b ∙ sym is, λ y. omega (arith, r_off, subst (λ k. 0 < occ k way) y h))

        least : ℕ
        least = least_round he r b

        it : (least < length he) × (end_of tri least ≡ s) × (least ≢ r)
        unfolding least
        it =
            ⊎_elim
            (λ y. subst (λ k. (k < length he) × (end_of tri k ≡ s) × (k ≢ r)) (sym y) (q.b_in, q.end_b ∙ sym is, λ w. r_b ok.same q (sym w)))
            (λ y. on_way (least_round he r b) y)
            (least_there b way)

        none_open : (e : ℕ) → e < n → end_of tri' e ≡ s → pair_of he' e ≢ EMPTY
        none_open e h y u =
            let nb : e ≢ b = λ w. o (sym (pair_b (paired ok) q) ∙ ap (pair_of he') (sym w) ∙ u) in
            o (ap (pair_of he) (sym z) ∙ (g.last e h (p_end e y) (p_was h nb y u)).1)

        left_round : Leftmost tri' he' n s (least_round he r b)
        unfolding least
        left_round = record {
          none = λ y. absurd (there it.0 y);
          some = λ _. (in_tri it.0, p_now it.2 it.1);
          last = λ e h y u. absurd (none_open e h y u);
          lowest = λ y e h w. least_below b way e (others e (in_he h) (p_end e w) (not_now_r w));
        }

      pub left_lost : s < sites → get_or (leftmost_of tri he sites) s 0 ≡ t → Leftmost tri' he' n s (loss_of he t r b)
      left_lost el at =
          ⊎_elim
          (λ z. ⊎_elim
          (λ u. subst (Leftmost tri' he' n s) (sym (loss_open he t r b z u)) (left_open u))
          (λ u. subst (Leftmost tri' he' n s) (sym (loss_round he t r b z u)) (left_round el at z u))
          (eq_or_ne (pair_of he r) EMPTY))
          (λ nt. subst (Leftmost tri' he' n s) (sym (loss_other he t r b nt)) (left_stays nt))
          (eq_or_ne t r)
