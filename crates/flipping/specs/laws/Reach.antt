-- What is reached round a site after a flip, from what the table held there, or from what stands in for it: p and q have lost a half-edge, x and y have
-- gained one, at all others the steps are the same.
use Rattle.std.specs.Prelude.{◌≡◌, List, ◌⊎◌, ◌≢◌, ℕ, ◌<◌, length}
use Rattle.std.proofs.Common.{sym, ap, ◌∙◌, subst, ⊎_elim}
use Rattle.base.specs.common.laws.Decide.{eq_or_ne}
use Rattle.mesh.specs.Mesh.{next_of, start_of, end_of, pair_of, around, Mates, Reached, here, onward, Paired}
use Rattle.mesh.specs.laws.Next.{next_lt, next_inj}
use Rattle.flipping.specs.Flip.{turned_sites, relinked}
use Rattle.flipping.specs.laws.Quad.{Quad}
use Rattle.flipping.specs.laws.Sites.{end_kept, now_r, now_l}
use Rattle.flipping.specs.laws.Pairs.{there, pair_kept, pair_r, pair_b, pair_outer_r, relinked_length, outer_r, starts_l, starts_r}
use Rattle.mesh.specs.laws.Closed.{reached_end}
use Rattle.flipping.specs.laws.Rewired.{taken_out, put_in, put_there}

-- the same steps reach the same
same_steps : (he he' : List ℕ) → length he' ≡ length he → (t : ℕ) → ((e : ℕ) → Reached he t e → e < length he → around he' e ≡ around he e)
    → {e : ℕ} → Reached he t e → Reached he' t e
same_steps he he' long t kept here = here
same_steps he he' long t kept (onward {e} h r) = subst (Reached he' t) (kept e r h) (onward (rw long h) (same_steps he he' long t kept r))

module _ {tri he : List ℕ} (same : length he ≡ length tri) (ok : Paired tri he) {a b r l : ℕ} (q : Quad tri he a b r l) where
  abbrev tri' : List ℕ
  tri' = turned_sites tri a b r l

  abbrev he' : List ℕ
  he' = relinked he a b r l

  long : length he' ≡ length he
  long = relinked_length he a b r l

  -- a half-edge of the mesh that starts at another site than the two outer pairs
  not_outer_l : {k : ℕ} → k < length he → start_of tri k ≢ start_of tri b → k ≢ pair_of he l
  not_outer_l h n z = n (ap (start_of tri) z ∙ starts_l ok q (λ y. there ok h (z ∙ y)))

  not_outer_r : {k : ℕ} → k < length he → start_of tri k ≢ start_of tri a → k ≢ pair_of he r
  not_outer_r h n z = n (ap (start_of tri) z ∙ starts_r ok q (λ y. there ok h (z ∙ y)))

  on : {e : ℕ} → e < length he → next_of e < length he
  on h = next_lt ok.threes h

  module _ (t s : ℕ) (at : end_of tri t ≡ s) where
    -- what is reached starts on at the site
    ends : {e : ℕ} → Reached he t e → e < length he → start_of tri (next_of e) ≡ s
    ends p h = reached_end tri he ok p h ∙ at

    -- the site p, where r ended: b is what followed r
    module _ (is : s ≡ start_of tri a) (t' : ℕ) (start : ((t ≢ r) × (t' ≡ t)) ⊎ ((t ≡ r) × (t' ≡ b))) where
      led : (e : ℕ) → Reached he t e → e < length he → e ≢ r → around he e ≡ r → around he' e ≡ b
      led e p h n z =
          let m : Mates tri he (next_of e) (around he e) = ⊎_elim (λ y. absurd (there ok q.r_in (sym z ∙ y))) (λ y. y) (ok.pairs (next_of e) (on h)) in
          let k : next_of e ≡ pair_of he r = sym m.back ∙ ap (pair_of he) z in
          ap (pair_of he') k ∙ pair_outer_r ok q (λ y. there ok (on h) (k ∙ y))

      kept : (e : ℕ) → Reached he t e → e < length he → e ≢ r → around he e ≢ r → around he' e ≡ around he e
      kept e p h n m =
          let w : start_of tri (next_of e) ≡ start_of tri a = ends p h ∙ is in
          pair_kept he a b r l
          (λ z. n (next_inj (z ∙ sym q.after_r)))
          (λ z. q.pq (sym w ∙ ap (start_of tri) z))
          (λ z. q.xp (sym (sym w ∙ ap (start_of tri) z)))
          (λ z. q.py (sym w ∙ ap (start_of tri) z))
          (not_outer_l (on h) (λ z. q.pq (sym w ∙ z)))
          (λ z. m (ap (pair_of he) z ∙ (outer_r ok q (λ y. there ok (on h) (z ∙ y))).back))

      b_r : b ≢ r
      b_r z = q.qx (ap (start_of tri) z)

      out : around he r ≡ b
      out = ap (pair_of he) q.after_r ∙ q.ab

      pub lost_reached : ((e : ℕ) → e < length he → end_of tri e ≡ s → Reached he t e) → (e : ℕ) → e < length he → end_of tri' e ≡ s → Reached he' t' e
      lost_reached all e h z =
          let nr : e ≢ r = λ y. q.py (sym (sym (now_r same q) ∙ ap (end_of tri') (sym y) ∙ z ∙ is)) in
          let nl : e ≢ l = λ y. q.xp (sym (now_l same q) ∙ ap (end_of tri') (sym y) ∙ z ∙ is) in
          ⊎_elim
          (λ w. w.1)
          (λ w. absurd (nr w.0))
          (taken_out he he' long t t' r b b_r out led kept start (all e h (sym (end_kept same q nr nl) ∙ z)))

    -- the site x, where l ends now, after the half-edge that follows a
    module _ (is : s ≡ start_of tri r) where
      abbrev c : ℕ
      c = next_of a

      to : around he' c ≡ l
      to = ap (pair_of he') q.before_a ∙ pair_r ok q

      follows : around he' l ≡ around he c
      follows = ap (pair_of he') q.after_l ∙ pair_b ok q ∙ ap (pair_of he) (sym q.before_a)

      kept_x : (e : ℕ) → Reached he t e → e < length he → e ≢ c → around he' e ≡ around he e
      kept_x e p h n =
          let w : start_of tri (next_of e) ≡ start_of tri r = ends p h ∙ is in
          pair_kept he a b r l
          (λ z. q.xp (sym w ∙ ap (start_of tri) z))
          (λ z. q.qx (sym (sym w ∙ ap (start_of tri) z)))
          (λ z. n (next_inj (z ∙ sym q.before_a)))
          (λ z. q.xy (sym w ∙ ap (start_of tri) z))
          (not_outer_l (on h) (λ z. q.qx (sym (sym w ∙ z))))
          (not_outer_r (on h) (λ z. q.xp (sym w ∙ z)))

      pub gained_reached : ((e : ℕ) → e < length he → end_of tri e ≡ s → Reached he t e) → (e : ℕ) → e < length he → end_of tri' e ≡ s → Reached he' t e
      gained_reached all e h z =
          ⊎_elim
          (λ y. rw y (put_there he he' long t l c q.l_in to follows kept_x (on q.a_in) (all c (on q.a_in) (ap (start_of tri) q.before_a ∙ sym is))))
          (λ nl.
          let nr : e ≢ r = λ y. q.xy (sym (sym (now_r same q) ∙ ap (end_of tri') (sym y) ∙ z ∙ is)) in
          put_in he he' long t l c q.l_in to follows kept_x (all e h (sym (end_kept same q nr nl) ∙ z)))
          (eq_or_ne e l)

    -- a site that is none of the four
    module _ (np : s ≢ start_of tri a) (nq : s ≢ start_of tri b) (nx : s ≢ start_of tri r) (ny : s ≢ start_of tri l) where
      kept_else : (e : ℕ) → Reached he t e → e < length he → around he' e ≡ around he e
      kept_else e p h =
          let w : start_of tri (next_of e) ≡ s = ends p h in
          pair_kept he a b r l
          (λ z. np (sym w ∙ ap (start_of tri) z))
          (λ z. nq (sym w ∙ ap (start_of tri) z))
          (λ z. nx (sym w ∙ ap (start_of tri) z))
          (λ z. ny (sym w ∙ ap (start_of tri) z))
          (not_outer_l (on h) (λ z. nq (sym w ∙ z)))
          (not_outer_r (on h) (λ z. np (sym w ∙ z)))

      pub else_reached : ((e : ℕ) → e < length he → end_of tri e ≡ s → Reached he t e) → (e : ℕ) → e < length he → end_of tri' e ≡ s → Reached he' t e
      else_reached all e h z =
          let nr : e ≢ r = λ y. ny (sym z ∙ ap (end_of tri') y ∙ now_r same q) in
          let nl : e ≢ l = λ y. nx (sym z ∙ ap (end_of tri') y ∙ now_l same q) in
          same_steps he he' long t kept_else (all e h (sym (end_kept same q nr nl) ∙ z))
