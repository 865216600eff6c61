-- Rule 8 after a flip: a and b name the outer pairs, which name them back, r and l name each other, and the others are as they were.
use Rattle.std.specs.Prelude.{◌≡◌, List, ◌≢◌, ℕ, ◌<◌, length}
use Rattle.std.proofs.Common.{sym, ap, ◌∙◌, subst, inl, inr, ⊎_elim, arith}
use Rattle.base.specs.common.laws.Decide.{eq_or_ne}
use Rattle.base.specs.numbers.Numbers.{EMPTY}
use Rattle.mesh.specs.Mesh.{start_of, end_of, pair_of, Mates, PairedAt, Paired}
use Rattle.flipping.specs.Flip.{turned_sites, relinked}
use Rattle.flipping.specs.laws.Quad.{Quad, quad_turn}
use Rattle.flipping.specs.laws.Sites.{start_kept, start_a, start_r, start_l, now_r, now_l, end_kept, r_a, l_a, turned_turn}
use Rattle.flipping.specs.laws.Pairs.{
  Among,
  at_a,
  at_b,
  at_r,
  at_l,
  outer_of_l,
  outer_of_r,
  elsewhere,
  place,
  pair_kept,
  pair_a,
  pair_r,
  pair_l,
  pair_outer_l,
  relinked_length,
  relinked_turn,
  end_l,
  outer_l,
  starts_l,
}

module _ {tri he : List ℕ} (same : length he ≡ length tri) (ok : Paired tri he) where
  module _ {a b r l : ℕ} (q : Quad tri he a b r l) where
    abbrev tri' : List ℕ
    tri' = turned_sites tri a b r l

    abbrev he' : List ℕ
    he' = relinked he a b r l

    inside : {e : ℕ} → e < length he → e < length he'
    inside h = rw (relinked_length he a b r l) h

    -- the pair of l, where there is one, is none of the four, and starts and ends where it did
    module _ (n : pair_of he l ≢ EMPTY) where
      outer_starts : start_of tri' (pair_of he l) ≡ start_of tri b
      outer_starts =
          start_kept tri a b r l (λ z. q.pq (sym (ap (start_of tri) z) ∙ starts_l ok q n)) (λ z. q.py (sym q.end_b ∙ sym (ap (end_of tri) z) ∙ (outer_l ok q n).to))
          ∙ starts_l ok q n

      outer_ends : end_of tri' (pair_of he l) ≡ start_of tri l
      outer_ends =
          end_kept same q (λ z. q.qx (sym (sym (ap (start_of tri) z) ∙ starts_l ok q n))) (λ z. q.yq (sym (ap (start_of tri) z) ∙ starts_l ok q n))
          ∙ (outer_l ok q n).to

      ends_a : end_of tri' a ≡ start_of tri b
      ends_a = end_kept same q (λ z. r_a same q (sym z)) (λ z. l_a same q (sym z)) ∙ q.end_a

      a_mates : Mates tri' he' a (pair_of he l)
      a_mates = record {
        inside = inside (outer_l ok q n).inside;
        back = pair_outer_l ok q n;
        from = outer_starts ∙ sym ends_a;
        to = outer_ends ∙ sym (start_a same q);
      }

      outer_mates : Mates tri' he' (pair_of he l) a
      outer_mates = record {
        inside = inside q.a_in;
        back = pair_a ok q;
        from = start_a same q ∙ sym outer_ends;
        to = ends_a ∙ sym outer_starts;
      }

    pub at_the_named : PairedAt tri' he' a
    at_the_named = ⊎_elim (λ z. inl (pair_a ok q ∙ z)) (λ n. inr (rw (pair_a ok q) (a_mates n))) (eq_or_ne (pair_of he l) EMPTY)

    pub at_the_outer : pair_of he l ≢ EMPTY → PairedAt tri' he' (pair_of he l)
    at_the_outer n = inr (rw (pair_outer_l ok q n) (outer_mates n))

    pub at_the_earlier : PairedAt tri' he' r
    at_the_earlier = inr (rw (pair_r ok q) (record {
      inside = inside q.l_in;
      back = pair_l ok q;
      from = start_l same q ∙ sym (now_r same q);
      to = now_l same q ∙ sym (start_r same q);
    }))

    -- another half-edge's pair is another too
    module _ (e : ℕ) (na : e ≢ a) (nb : e ≢ b) (nr : e ≢ r) (nl : e ≢ l) (ol : e ≢ pair_of he l) (or : e ≢ pair_of he r) where
      others_mates : Mates tri he e (pair_of he e) → Mates tri' he' e (pair_of he e)
      others_mates m =
          let d = pair_of he e in
          let b' : pair_of he d ≡ e = m.back in
          let da : d ≢ a = λ z. nb (sym b' ∙ ap (pair_of he) z ∙ q.ab) in
          let db : d ≢ b = λ z. na (sym b' ∙ ap (pair_of he) z ∙ q.ba) in
          let dr : d ≢ r = λ z. or (sym b' ∙ ap (pair_of he) z) in
          let dl : d ≢ l = λ z. ol (sym b' ∙ ap (pair_of he) z) in
          let dol : d ≢ pair_of he l = λ z. nl (sym b' ∙ ap (pair_of he) z ∙ (outer_l ok q (λ y. omega (arith, ok.small, m.inside))).back) in
          let dor : d ≢ pair_of he r = λ z. nr (sym b' ∙ ap (pair_of he) z ∙ (outer_l ok (quad_turn q) (λ y. omega (arith, ok.small, m.inside))).back) in
          record {
            inside = inside m.inside;
            back = pair_kept he a b r l da db dr dl dol dor ∙ b';
            from = start_kept tri a b r l da db ∙ m.from ∙ sym (end_kept same q nr nl);
            to = end_kept same q dr dl ∙ m.to ∙ sym (start_kept tri a b r l na nb);
          }

      pub at_another : e < length he → PairedAt tri' he' e
      at_another h =
          let k = pair_kept he a b r l na nb nr nl ol or in
          ⊎_elim (λ z. inl (k ∙ z)) (λ m. inr (rw k (others_mates m))) (ok.pairs e h)

  -- ---- all of them; b, l and the outer pair of r from the other side
  module _ {a b r l : ℕ} (q : Quad tri he a b r l) where
    turn_back : {e : ℕ} → PairedAt (turned_sites tri b a l r) (relinked he b a l r) e → PairedAt (turned_sites tri a b r l) (relinked he a b r l) e
    turn_back {e} p =
        subst (λ h. PairedAt (turned_sites tri a b r l) h e) (sym (relinked_turn ok q)) (subst (λ t. PairedAt t (relinked he b a l r) e) (sym (turned_turn same q)) p)

    pub pairs_again : (e : ℕ) → e < length he → PairedAt (turned_sites tri a b r l) (relinked he a b r l) e
    pairs_again e h = go (place he a b r l e)
      where
        go : Among he a b r l e → PairedAt (turned_sites tri a b r l) (relinked he a b r l) e
        go (at_a z) = rw z (at_the_named q)
        go (at_b z) = rw z (turn_back (at_the_named (quad_turn q)))
        go (at_r z) = rw z (at_the_earlier q)
        go (at_l z) = rw z (turn_back (at_the_earlier (quad_turn q)))
        go (outer_of_l z) = rw z (at_the_outer q (λ y. omega (arith, ok.small)))
        go (outer_of_r z) = rw z (turn_back (at_the_outer (quad_turn q) (λ y. omega (arith, ok.small))))
        go (elsewhere na nb nr nl ol or) = at_another q e na nb nr nl ol or h

    -- rule 8 as a mesh whose pairing is right
    pub paired_again : Paired (turned_sites tri a b r l) (relinked he a b r l)
    paired_again =
        let long = relinked_length he a b r l in
        record { threes = rw long ok.threes; small = rw long ok.small; pairs = λ e h. pairs_again e (rw long at h) }
