-- The answers of the tests, and how they come together to rule 23.
use Rattle.std.specs.Prelude.{◌≡◌, refl, Bool, true, false, List, ◌≢◌, ℕ, ◌+◌, ◌≤◌, ◌<◌, eqb, length, get_or, take}
use Rattle.std.proofs.Common.{sym, ap, ◌∙◌, ⊎_elim, arith, add-one, take-suc, get_or-take, eqb-true}
use Rattle.std.proofs.lemmas.Bool.{eqb-false}
use Rattle.base.specs.common.Decide.{Says}
use Rattle.base.specs.common.laws.Decide.{eq_or_ne}
use Rattle.base.specs.numbers.Numbers.{EMPTY}
use Rattle.mesh.specs.Mesh.{pair_of}
use Rattle.flipping.specs.Flip.{opposite_of, JoinsAt, SitesJoined, Flippable}
use Rattle.flipping.specs.rule.Asked.{FlipAsked}

-- a half-edge from s to t
module _ (s t x y : ℕ) where
  pub starts_not : s ≢ x → Says false ((s ≡ x) × (t ≡ y))
  starts_not n w = n w.0

  pub ends_or_not : s ≡ x → Says (eqb t y) ((s ≡ x) × (t ≡ y))
  ends_or_not z = go (eqb t y) refl
    where
      go : (b : Bool) → eqb t y ≡ b → Says b ((s ≡ x) × (t ≡ y))
      go true h = (z, eqb-true t y h)
      go false h = λ w. eqb-false t y h w.1

-- none below e joins them
pub joins_more : (tri : List ℕ) (x y e : ℕ) → ((k : ℕ) → k < e → JoinsAt tri x y k → ⊥) → (JoinsAt tri x y e → ⊥) → (k : ℕ) → k < e + 1 → JoinsAt tri x y k → ⊥
joins_more tri x y e f n k h j = ⊎_elim (λ z. n (rw (← z) j)) (λ z. f k (omega arith) j) (eq_or_ne k e)

pub joins_none : (tri : List ℕ) (x y e : ℕ) → length tri ≤ e → ((k : ℕ) → k < e → JoinsAt tri x y k → ⊥) → Says false (SitesJoined tri x y)
joins_none tri x y e h f j = f j.0 (omega (arith, j.1)) j.2

-- the first entries, one by one
module _ (l m : List ℕ) (i : ℕ) where
  pub first_more : i < length l → i < length m → take i l ≡ take i m → get_or l i 0 ≡ get_or m i 0 → take (i + 1) l ≡ take (i + 1) m
  first_more h k p q = rw (add-one, take-suc l i 0 h, take-suc m i 0 k, p, q)

  pub first_differ : (n : ℕ) → i < n → get_or l i 0 ≢ get_or m i 0 → Says false (take n l ≡ take n m)
  first_differ n h z w = z (sym (get_or-take n l i 0 h) ∙ ap (λ k. get_or k i 0) w ∙ get_or-take n m i 0 h)

-- rule 23
module _ (tri he table work : List ℕ) (sites a : ℕ) where
  pub far : length he ≤ a → Says false (Flippable tri he sites table a)
  far h f = omega (arith, f.in_range)

  pub alone : pair_of he a ≡ EMPTY → Says false (Flippable tri he sites table a)
  alone h f = f.paired h

  module _ (b x y : ℕ) (is_b : b ≡ pair_of he a) (is_x : x ≡ opposite_of tri a) (is_y : y ≡ opposite_of tri b) where
    pub together : x ≡ y → Says false (Flippable tri he sites table a)
    together h f = f.apart (sym is_x ∙ h ∙ is_y ∙ ap (opposite_of tri) is_b)

    pub linked : SitesJoined tri x y → Says false (Flippable tri he sites table a)
    linked j f = f.unjoined (rw (is_x, is_y, is_b) at j)

    pub by_table : FlipAsked tri he table work sites → a < length he → pair_of he a ≢ EMPTY → x ≢ y → (SitesJoined tri x y → ⊥) → (r : Bool)
        → Says r (take sites table ≡ take sites work) → Says r (Flippable tri he sites table a)
    by_table k h p n j true s = record {
      in_range = h;
      paired = p;
      apart = λ z. n (is_x ∙ z ∙ ap (opposite_of tri) (sym is_b) ∙ sym is_y);
      unjoined = λ w. j (rw (is_x, is_y, is_b) w);
      right_table = s ∙ k.worked_out;
    }
    by_table k h p n j false s = λ f. s (f.right_table ∙ sym k.worked_out)
