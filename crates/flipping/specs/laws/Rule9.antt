-- Rule 9 after a flip: a takes the place of l and b that of r on the border, between the same sites; the other unpaired half-edges stay.
use Rattle.std.specs.Prelude.{◌≡◌, refl, List, ◌≢◌, ℕ, ◌<◌, eqb, length, get_or}
use Rattle.std.proofs.Common.{sym, ap, ◌∙◌, ⊎_elim, arith}
use borrow.Author.Tests.{eq-eqb, ne_eqb}
use Rattle.base.specs.common.Pick.{pick}
use Rattle.base.specs.common.laws.Decide.{eq_or_ne}
use Rattle.base.specs.numbers.Numbers.{EMPTY}
use Rattle.mesh.specs.Mesh.{start_of, end_of, pair_of, Paired}
use Rattle.mesh.specs.Hull.{OpenEdge, next_site, BorderAt, Hull}
use Rattle.mesh.specs.laws.Border.{places_hull, hull_border, open_one}
use Rattle.flipping.specs.Flip.{turned_sites, relinked}
use Rattle.flipping.specs.laws.Quad.{Quad}
use Rattle.flipping.specs.laws.Sites.{start_kept, start_a, start_b, end_kept, r_a, l_a, r_b, l_b}
use Rattle.flipping.specs.laws.Pairs.{
  there,
  Among,
  at_a,
  at_b,
  at_r,
  at_l,
  outer_of_l,
  outer_of_r,
  elsewhere,
  place,
  pair_kept,
  pair_a,
  pair_b,
  pair_r,
  pair_l,
  pair_outer_l,
  pair_outer_r,
  relinked_length,
  end_l,
  end_r,
  outer_l,
  outer_r,
}

-- what takes the place of an unpaired half-edge
unfoldable pub stand_in : ℕ → ℕ → ℕ → ℕ → ℕ → ℕ
stand_in a b r l e = pick (eqb e l) (λ _. a) (λ _. pick (eqb e r) (λ _. b) (λ _. e))

module _ {tri he : List ℕ} (same : length he ≡ length tri) (ok : Paired tri he) {a b r l : ℕ} (q : Quad tri he a b r l) where
  abbrev tri' : List ℕ
  tri' = turned_sites tri a b r l

  abbrev he' : List ℕ
  he' = relinked he a b r l

  ends_a : end_of tri' a ≡ end_of tri l
  ends_a = end_kept same q (λ z. r_a same q (sym z)) (λ z. l_a same q (sym z)) ∙ q.end_a ∙ sym (end_l ok q)

  ends_b : end_of tri' b ≡ end_of tri r
  ends_b = end_kept same q (λ z. r_b same q (sym z)) (λ z. l_b same q (sym z)) ∙ q.end_b ∙ sym (end_r ok q)

  -- an unpaired half-edge is still there, or another between the same sites
  still_open : (n : ℕ) → n ≡ length he → (x y : ℕ) → OpenEdge tri he n x y → OpenEdge tri' he' n x y
  still_open n long x y (e, h, u, s, t) =
      let hn : e < length he = omega arith in
      ⊎_elim
      (λ z. (a, omega (arith, q.a_in), pair_a ok q ∙ ap (pair_of he) (sym z) ∙ u, start_a same q ∙ ap (start_of tri) (sym z) ∙ s, ends_a ∙ ap (end_of tri) (sym z) ∙ t))
      (λ nl. ⊎_elim
      (λ z. (b, omega (arith, q.b_in), pair_b ok q ∙ ap (pair_of he) (sym z) ∙ u, start_b same q ∙ ap (start_of tri) (sym z) ∙ s, ends_b ∙ ap (end_of tri) (sym z) ∙ t))
      (λ nr.
      let na : e ≢ a = λ z. there ok q.b_in (sym q.ab ∙ ap (pair_of he) (sym z) ∙ u) in
      let nb : e ≢ b = λ z. there ok q.a_in (sym q.ba ∙ ap (pair_of he) (sym z) ∙ u) in
      let ol : e ≢ pair_of he l = λ z. there ok q.l_in (sym (outer_l ok q (λ w. there ok hn (z ∙ w))).back ∙ ap (pair_of he) (sym z) ∙ u) in
      let or : e ≢ pair_of he r = λ z. there ok q.r_in (sym (outer_r ok q (λ w. there ok hn (z ∙ w))).back ∙ ap (pair_of he) (sym z) ∙ u) in
      (e, h, pair_kept he a b r l na nb nr nl ol or ∙ u, start_kept tri a b r l na nb ∙ s, end_kept same q nr nl ∙ t))
      (eq_or_ne e r))
      (eq_or_ne e l)

  -- an unpaired half-edge stands in for one that was unpaired between the same sites
  pub record Stood (e : ℕ) : Type 0 where
    pub was : ℕ
    pub was_in : was < length he
    pub was_open : pair_of he was ≡ EMPTY
    pub was_from : start_of tri was ≡ start_of tri' e
    pub was_to : end_of tri was ≡ end_of tri' e
    pub is : stand_in a b r l was ≡ e

  pub stands_a : stand_in a b r l l ≡ a
  unfolding stand_in
  stands_a = rw (eq-eqb l l refl)

  pub stands_b : stand_in a b r l r ≡ b
  unfolding stand_in
  stands_b = rw (ne_eqb r l (λ z. q.xy (ap (start_of tri) z)), eq-eqb r r refl)

  pub stands_else : (e : ℕ) → e ≢ r → e ≢ l → stand_in a b r l e ≡ e
  unfolding stand_in
  stands_else e nr nl = rw (ne_eqb e l nl, ne_eqb e r nr)

  pub stood : (e : ℕ) → e < length he → pair_of he' e ≡ EMPTY → Stood e
  stood e h u = go (place he a b r l e)
    where
      go : Among he a b r l e → Stood e
      go (at_a z) = record {
        was = l;
        was_in = q.l_in;
        was_open = sym (pair_a ok q) ∙ ap (pair_of he') (sym z) ∙ u;
        was_from = sym (start_a same q) ∙ ap (start_of tri') (sym z);
        was_to = sym ends_a ∙ ap (end_of tri') (sym z);
        is = stands_a ∙ sym z;
      }
      go (at_b z) = record {
        was = r;
        was_in = q.r_in;
        was_open = sym (pair_b ok q) ∙ ap (pair_of he') (sym z) ∙ u;
        was_from = sym (start_b same q) ∙ ap (start_of tri') (sym z);
        was_to = sym ends_b ∙ ap (end_of tri') (sym z);
        is = stands_b ∙ sym z;
      }
      go (at_r z) = absurd (there ok q.l_in (sym (pair_r ok q) ∙ ap (pair_of he') (sym z) ∙ u))
      go (at_l z) = absurd (there ok q.r_in (sym (pair_l ok q) ∙ ap (pair_of he') (sym z) ∙ u))
      go (outer_of_l z) = absurd (there ok q.a_in (sym (pair_outer_l ok q (λ w. there ok h (z ∙ w))) ∙ ap (pair_of he') (sym z) ∙ u))
      go (outer_of_r z) = absurd (there ok q.b_in (sym (pair_outer_r ok q (λ w. there ok h (z ∙ w))) ∙ ap (pair_of he') (sym z) ∙ u))
      go (elsewhere na nb nr nl ol or) = record {
        was = e;
        was_in = h;
        was_open = sym (pair_kept he a b r l na nb nr nl ol or) ∙ u;
        was_from = sym (start_kept tri a b r l na nb);
        was_to = sym (end_kept same q nr nl);
        is = stands_else e nr nl;
      }

  pub hull_again : (hull : List ℕ) (sites : ℕ) → Hull tri he hull sites → Hull tri' he' hull sites
  hull_again hull sites ok9 =
      places_hull tri' he' hull sites
      (λ i h. (ok9.fresh i h, still_open (length he') long (get_or hull i 0) (next_site hull i) (rw long (ok9.edges i h))))
      border
    where
      long : length he' ≡ length he
      long = relinked_length he a b r l

      border : (e : ℕ) → e < length he' → BorderAt tri' he' hull e
      border e h u =
          let hn : e < length he = rw long at h in
          let w = stood e hn u in
          let o = (hull_border tri he hull sites ok9 w.was w.was_in w.was_open).0 in (
            (o.0, o.1, sym w.was_from ∙ o.2, sym w.was_to ∙ o.3),
            λ d k v s t.
                let x = stood d (omega arith) v in
                let z = open_one tri he hull sites ok9 x.was w.was x.was_in w.was_in x.was_open w.was_open (x.was_to ∙ t ∙ sym w.was_to) in
                omega (arith, sym x.is ∙ ap (stand_in a b r l) z ∙ w.is),
          )
