-- The pairs after a flip, half-edge by half-edge; what is told of a is told of b by the same law from the other side (`relinked_turn`).
use Rattle.std.specs.Prelude.{◌≡◌, List, ◌⊎◌, ◌≢◌, ℕ, ◌<◌, length, set}
use Rattle.std.proofs.Common.{sym, ap, ◌∙◌, inl, inr, ⊎_elim, arith, length-set, get_or-set_same, get_or-set_other, ext_get_or, eq-eqb, ne_eqb}
use Rattle.base.specs.common.laws.Decide.{eq_or_ne}
use Rattle.base.specs.numbers.Numbers.{EMPTY}
use Rattle.mesh.specs.Mesh.{start_of, end_of, pair_of, Mates, Paired}
use Rattle.flipping.specs.Flip.{naming, crossed, relinked}
use Rattle.flipping.specs.laws.Quad.{Quad, quad_turn}

-- ---- naming back
pub naming_length : (he : List ℕ) (p e : ℕ) → length (naming he p e) ≡ length he
unfolding naming
naming_length he p e = ⊎_elim (λ z. rw (eq-eqb p EMPTY z)) (λ z. rw (ne_eqb p EMPTY z) (length-set he p e)) (eq_or_ne p EMPTY)

naming_there : (he : List ℕ) (p e : ℕ) → p ≢ EMPTY → p < length he → pair_of (naming he p e) p ≡ e
unfolding naming
naming_there he p e n l = rw (ne_eqb p EMPTY n) (get_or-set_same he p e 0 l)

naming_other : (he : List ℕ) (p e d : ℕ) → d ≢ p → pair_of (naming he p e) d ≡ pair_of he d
unfolding naming
naming_other he p e d n = ⊎_elim (λ z. rw (eq-eqb p EMPTY z)) (λ z. rw (ne_eqb p EMPTY z) (get_or-set_other he p d e 0 n)) (eq_or_ne p EMPTY)

-- ---- the four stores, one after the other
module _ (he : List ℕ) (a b r l : ℕ) where
  abbrev one : List ℕ
  one = set he a (pair_of he l)

  abbrev two : List ℕ
  two = set one b (pair_of he r)

  abbrev three : List ℕ
  three = set two r l

  one_length : length one ≡ length he
  one_length = length-set he a (pair_of he l)

  two_length : length two ≡ length he
  two_length = length-set one b (pair_of he r) ∙ one_length

  three_length : length three ≡ length he
  three_length = length-set two r l ∙ two_length

  pub crossed_length : length (crossed he a b r l) ≡ length he
  crossed_length = length-set three l r ∙ three_length

  stored_l : l < length he → pair_of (crossed he a b r l) l ≡ r
  stored_l h = get_or-set_same three l r 0 (rw three_length h)

  stored_r : r < length he → r ≢ l → pair_of (crossed he a b r l) r ≡ l
  stored_r h n = get_or-set_other three l r r 0 n ∙ get_or-set_same two r l 0 (rw two_length h)

  stored_b : b < length he → b ≢ l → b ≢ r → pair_of (crossed he a b r l) b ≡ pair_of he r
  stored_b h n m = get_or-set_other three l b r 0 n ∙ get_or-set_other two r b l 0 m ∙ get_or-set_same one b (pair_of he r) 0 (rw one_length h)

  stored_a : a < length he → a ≢ l → a ≢ r → a ≢ b → pair_of (crossed he a b r l) a ≡ pair_of he l
  stored_a h n m k =
      get_or-set_other three l a r 0 n
      ∙ get_or-set_other two r a l 0 m
      ∙ get_or-set_other one b a (pair_of he r) 0 k
      ∙ get_or-set_same he a (pair_of he l) 0 h

  stored_none : {e : ℕ} → e ≢ l → e ≢ r → e ≢ b → e ≢ a → pair_of (crossed he a b r l) e ≡ pair_of he e
  stored_none {e} n m k j =
      get_or-set_other three l e r 0 n
      ∙ get_or-set_other two r e l 0 m
      ∙ get_or-set_other one b e (pair_of he r) 0 k
      ∙ get_or-set_other he a e (pair_of he l) 0 j

pub relinked_length : (he : List ℕ) (a b r l : ℕ) → length (relinked he a b r l) ≡ length he
relinked_length he a b r l =
    naming_length (naming (crossed he a b r l) (pair_of he l) a) (pair_of he r) b
    ∙ naming_length (crossed he a b r l) (pair_of he l) a
    ∙ crossed_length he a b r l

-- a half-edge of the mesh is not EMPTY
pub there : {tri he : List ℕ} → Paired tri he → {e : ℕ} → e < length he → e ≢ EMPTY
there ok l z = omega (arith, ok.small)

-- half-edges that differ in where they start or end are different
differ : (f : ℕ → ℕ) {e d : ℕ} → f e ≢ f d → e ≢ d
differ f n z = n (ap f z)

module _ {tri he : List ℕ} (ok : Paired tri he) {a b r l : ℕ} (q : Quad tri he a b r l) where
  -- where r and l end, and the outer pairs
  pub end_r : end_of tri r ≡ start_of tri a
  end_r = ap (start_of tri) q.after_r

  pub end_l : end_of tri l ≡ start_of tri b
  end_l = ap (start_of tri) q.after_l

  pub outer_l : pair_of he l ≢ EMPTY → Mates tri he l (pair_of he l)
  outer_l n = ⊎_elim (λ z. absurd (n z)) (λ z. z) (ok.pairs l q.l_in)

  pub outer_r : pair_of he r ≢ EMPTY → Mates tri he r (pair_of he r)
  outer_r n = ⊎_elim (λ z. absurd (n z)) (λ z. z) (ok.pairs r q.r_in)

  -- they start at q and at p, and end at y and at x
  pub starts_l : pair_of he l ≢ EMPTY → start_of tri (pair_of he l) ≡ start_of tri b
  starts_l n = (outer_l n).from ∙ end_l

  pub starts_r : pair_of he r ≢ EMPTY → start_of tri (pair_of he r) ≡ start_of tri a
  starts_r n = (outer_r n).from ∙ end_r

  -- a half-edge that is told by another start or end from the pair of l, which may be none
  not_l : {e : ℕ} → e < length he → (start_of tri e ≢ start_of tri b) ⊎ (end_of tri e ≢ start_of tri l) → e ≢ pair_of he l
  not_l l w z =
      let n : pair_of he _ ≢ EMPTY = λ y. there ok l (z ∙ y) in
      ⊎_elim (λ h. h (ap (start_of tri) z ∙ starts_l n)) (λ h. h (ap (end_of tri) z ∙ (outer_l n).to)) w

  not_r : {e : ℕ} → e < length he → (start_of tri e ≢ start_of tri a) ⊎ (end_of tri e ≢ start_of tri r) → e ≢ pair_of he r
  not_r l w z =
      let n : pair_of he _ ≢ EMPTY = λ y. there ok l (z ∙ y) in
      ⊎_elim (λ h. h (ap (start_of tri) z ∙ starts_r n)) (λ h. h (ap (end_of tri) z ∙ (outer_r n).to)) w

  -- ---- the pairs after it
  past : (e : ℕ) → e ≢ pair_of he l → e ≢ pair_of he r → pair_of (relinked he a b r l) e ≡ pair_of (crossed he a b r l) e
  past e nl nr = naming_other (naming (crossed he a b r l) (pair_of he l) a) (pair_of he r) b e nr ∙ naming_other (crossed he a b r l) (pair_of he l) a e nl

  pub pair_a : pair_of (relinked he a b r l) a ≡ pair_of he l
  pair_a =
      past a (not_l q.a_in (inl q.pq)) (not_r q.a_in (inr (λ z. q.qx (sym q.end_a ∙ z))))
      ∙ stored_a he a b r l q.a_in (differ (start_of tri) q.py) (differ (start_of tri) (λ z. q.xp (sym z))) (differ (start_of tri) q.pq)

  pub pair_b : pair_of (relinked he a b r l) b ≡ pair_of he r
  pair_b =
      past b (not_l q.b_in (inr (λ z. q.py (sym q.end_b ∙ z)))) (not_r q.b_in (inl (λ z. q.pq (sym z))))
      ∙ stored_b he a b r l q.b_in (differ (start_of tri) (λ z. q.yq (sym z))) (differ (start_of tri) q.qx)

  pub pair_r : pair_of (relinked he a b r l) r ≡ l
  pair_r =
      past r (not_l q.r_in (inl (λ z. q.qx (sym z)))) (not_r q.r_in (inl q.xp))
      ∙ stored_r he a b r l q.r_in (differ (start_of tri) q.xy)

  pub pair_l : pair_of (relinked he a b r l) l ≡ r
  pair_l = past l (not_l q.l_in (inl q.yq)) (not_r q.l_in (inl (λ z. q.py (sym z)))) ∙ stored_l he a b r l q.l_in

  long_crossed : {e : ℕ} → e < length he → e < length (crossed he a b r l)
  long_crossed {e} h = rw (crossed_length he a b r l) h

  pub pair_outer_l : pair_of he l ≢ EMPTY → pair_of (relinked he a b r l) (pair_of he l) ≡ a
  pair_outer_l n =
      naming_other (naming (crossed he a b r l) (pair_of he l) a) (pair_of he r) b (pair_of he l) (not_r (outer_l n).inside (inl (λ z. q.pq (sym z ∙ starts_l n))))
      ∙ naming_there (crossed he a b r l) (pair_of he l) a n (long_crossed (outer_l n).inside)

  pub pair_outer_r : pair_of he r ≢ EMPTY → pair_of (relinked he a b r l) (pair_of he r) ≡ b
  pair_outer_r n =
      naming_there (naming (crossed he a b r l) (pair_of he l) a) (pair_of he r) b n (rw (naming_length (crossed he a b r l) (pair_of he l) a) (long_crossed (outer_r n).inside))

-- ---- every half-edge is one of the four, an outer pair that is there, or another, which keeps its pair
pub data Among (he : List ℕ) (a b r l e : ℕ) : Type 0 where
  at_a : e ≡ a → Among he a b r l e
  at_b : e ≡ b → Among he a b r l e
  at_r : e ≡ r → Among he a b r l e
  at_l : e ≡ l → Among he a b r l e
  outer_of_l : e ≡ pair_of he l → Among he a b r l e
  outer_of_r : e ≡ pair_of he r → Among he a b r l e
  elsewhere : e ≢ a → e ≢ b → e ≢ r → e ≢ l → e ≢ pair_of he l → e ≢ pair_of he r → Among he a b r l e

pub place : (he : List ℕ) (a b r l e : ℕ) → Among he a b r l e
place he a b r l e =
    ⊎_elim at_a (λ na. ⊎_elim at_b (λ nb. ⊎_elim at_r (λ nr. ⊎_elim at_l (λ nl. ⊎_elim outer_of_l (λ ol. ⊎_elim outer_of_r (λ or. elsewhere na nb nr nl ol or)
    (eq_or_ne e (pair_of he r))) (eq_or_ne e (pair_of he l))) (eq_or_ne e l)) (eq_or_ne e r)) (eq_or_ne e b)) (eq_or_ne e a)

pub pair_kept : (he : List ℕ) (a b r l : ℕ) {e : ℕ} → e ≢ a → e ≢ b → e ≢ r → e ≢ l → e ≢ pair_of he l → e ≢ pair_of he r
    → pair_of (relinked he a b r l) e ≡ pair_of he e
pair_kept he a b r l {e} na nb nr nl ol or =
    naming_other (naming (crossed he a b r l) (pair_of he l) a) (pair_of he r) b e or
    ∙ naming_other (crossed he a b r l) (pair_of he l) a e ol
    ∙ stored_none he a b r l nl nr nb na

-- flipped from the other side the pairs are the same
pub relinked_turn : {tri he : List ℕ} → Paired tri he → {a b r l : ℕ} → Quad tri he a b r l → relinked he a b r l ≡ relinked he b a l r
relinked_turn {tri} {he} ok {a} {b} {r} {l} q =
    ext_get_or 0 (relinked he a b r l) (relinked he b a l r) (relinked_length he a b r l ∙ sym (relinked_length he b a l r)) (λ e h. go e (rw (relinked_length he a b r l) at h) (place he a b r l e))
  where
    w : Quad tri he b a l r
    w = quad_turn q

    go : (e : ℕ) → e < length he → Among he a b r l e → pair_of (relinked he a b r l) e ≡ pair_of (relinked he b a l r) e
    go e h (at_a z) = rw z (pair_a ok q ∙ sym (pair_b ok w))
    go e h (at_b z) = rw z (pair_b ok q ∙ sym (pair_a ok w))
    go e h (at_r z) = rw z (pair_r ok q ∙ sym (pair_l ok w))
    go e h (at_l z) = rw z (pair_l ok q ∙ sym (pair_r ok w))
    go e h (outer_of_l z) =
        let n : pair_of he l ≢ EMPTY = λ y. omega (arith, ok.small) in
        rw z (pair_outer_l ok q n ∙ sym (pair_outer_r ok w n))
    go e h (outer_of_r z) =
        let n : pair_of he r ≢ EMPTY = λ y. omega (arith, ok.small) in
        rw z (pair_outer_r ok q n ∙ sym (pair_outer_l ok w n))
    go e h (elsewhere na nb nr nl ol or) = pair_kept he a b r l na nb nr nl ol or ∙ sym (pair_kept he b a l r nb na nl nr or ol)
