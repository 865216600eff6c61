-- The loop that marks the half-edges of one site at their ends.
use Rattle.std.specs.Prelude.{◌≡◌, refl, Bool, true, false, List, ◌≢◌, ℕ, ◌+◌, ◌≤◌, ◌<◌, eqb, length, get_or, set}
use Rattle.std.proofs.Common.{sym, ap, ◌∙◌, ⊎_elim, arith, eqb-true, length-set, get_or-set_same, get_or-set_other}
use Rattle.std.proofs.lemmas.Bool.{false≢true, eqb-false}
use Rattle.base.specs.common.Decide.{Says}
use Rattle.base.specs.common.laws.Decide.{eq_or_ne}
use Rattle.base.specs.numbers.Numbers.{EMPTY}
use Rattle.mesh.specs.Mesh.{start_of, end_of}
use Rattle.mesh.specs.laws.Next.{next_lt}
use Rattle.mending.specs.pairs.Chains.{NamesSites, Before, Chained, FromSite, Stale, MarkAnswer}
use Rattle.mending.specs.pairs.laws.Chaining.{Past, past_start, past_in, past_all, past_step}

-- what an answer tells
pub said : {P : Type 0} (b : Bool) → b ≡ true → Says b P → P
said true h s = s
said false h s = absurd (false≢true h)

pub denied : {P : Type 0} (b : Bool) → b ≡ false → Says b P → P → ⊥
denied true h s p = false≢true (sym h)
denied false h s p = s p

-- the test whether a mark m names a half-edge of site a
pub from_says : (tri : List ℕ) (a m e x : ℕ) → e ≡ m → e < length tri → x ≡ get_or tri e 0 → Says (eqb x a) (FromSite tri a m)
from_says tri a m e x p l q = go (eqb x a) refl
  where
    go : (b : Bool) → eqb x a ≡ b → Says b (FromSite tri a m)
    go true h = rw (← p) (l, sym q ∙ eqb-true x a h)
    go false h = λ f. eqb-false x a h (q ∙ ap (start_of tri) p ∙ f.1)

-- half-edge e is marked at its end
abbrev pub MarkedAt : List ℕ → List ℕ → ℕ → Type 0
MarkedAt tri marks e = get_or marks (end_of tri e) 0 ≡ e

-- the half-edges of site a that come after x are marked at their ends, and a mark that names one of site a names one of these
pub record SiteMarking (tri : List ℕ) (a w : ℕ) (marks : List ℕ) (x : ℕ) : Type 0 where
  pub long : length marks ≡ w
  pub below : ℕ
  pub past : Past tri a (MarkedAt tri marks) below x
  pub ends : (b : ℕ) → b < w → FromSite tri a (get_or marks b 0) → (below ≤ get_or marks b 0) × (end_of tri (get_or marks b 0) ≡ b)
  pub stale : Stale tri (a + 1) marks

pub marking_start : (tri : List ℕ) (a : ℕ) (marks heads links : List ℕ) → Chained tri heads links → a < length heads → Stale tri a marks
    → SiteMarking tri a (length marks) marks (get_or heads a 0)
marking_start tri a marks heads links c l s = record {
  long = refl;
  below = length tri;
  past = past_start tri a (MarkedAt tri marks) (get_or heads a 0) (c.firsts a l);
  ends = λ b k f. absurd (s b a k (omega arith) f);
  stale = λ b t k h. s b t k (omega arith);
}

module _ (tri : List ℕ) (a w : ℕ) (marks : List ℕ) (x : ℕ) (g : SiteMarking tri a w marks x) (n : NamesSites tri w) (some : x ≢ EMPTY) where
  pub marking_here : (x < length tri) × (start_of tri x ≡ a)
  marking_here = past_in tri a (MarkedAt tri marks) g.below x g.past some

  end_in : end_of tri x < w
  end_in = n.named _ (next_lt n.threes marking_here.0)

  -- the mark at the end of x names a half-edge of site a already: two of them end there
  twice : FromSite tri a (get_or marks (end_of tri x) 0) → MarkAnswer tri a marks false
  twice f =
      let e = g.ends (end_of tri x) end_in f in
      record {
        marked = λ z. let y : ◌≡◌ {A = ℕ} 0 1 = cc in absurd (omega arith);
        twice = λ _ all. all (get_or marks (end_of tri x) 0) f.0 x (omega (arith, e.0, (g.past.at.some some).0)) (marking_here.1 ∙ sym f.1) (sym e.1);
        stale = g.stale;
      }

  module _ (f : FromSite tri a (get_or marks (end_of tri x) 0) → ⊥) (y : ℕ) (b : Before tri (start_of tri x) x y) where
    abbrev new : List ℕ
    new = set marks (end_of tri x) x

    at_end : get_or new (end_of tri x) 0 ≡ x
    at_end = get_or-set_same marks (end_of tri x) x 0 (rw g.long end_in)

    still : (e : ℕ) → e < length tri → start_of tri e ≡ a → MarkedAt tri marks e → MarkedAt tri new e
    still e l q m =
        ⊎_elim
        (λ z. let v : get_or marks (end_of tri x) 0 ≡ e = ap (λ k. get_or marks k 0) (sym z) ∙ m in absurd (f (rw v (l, q))))
        (λ z. get_or-set_other marks (end_of tri x) (end_of tri e) x 0 z ∙ m)
        (eq_or_ne (end_of tri e) (end_of tri x))

    step : SiteMarking tri a w new y
    step = record {
      long = length-set marks (end_of tri x) x ∙ g.long;
      below = x;
      past = past_step tri a (MarkedAt tri marks) g.below x g.past (MarkedAt tri new) some y b still at_end;
      ends = λ c k h.
          ⊎_elim
          (λ z. let v : get_or new c 0 ≡ x = ap (λ j. get_or new j 0) z ∙ at_end in rw v (omega arith, sym z))
          (λ z.
          let v = get_or-set_other marks (end_of tri x) c x 0 z in
          let o = g.ends c k (rw v at h) in
          rw v (omega (arith, o.0, (g.past.at.some some).0), o.1))
          (eq_or_ne c (end_of tri x));
      stale = λ c t k h m.
          ⊎_elim
          (λ z. let v : get_or new c 0 ≡ x = ap (λ j. get_or new j 0) z ∙ at_end in omega (arith, marking_here.1, (rw v at m).1))
          (λ z. g.stale c t (rw (length-set marks (end_of tri x) x) at k) h (rw (get_or-set_other marks (end_of tri x) c x 0 z) at m))
          (eq_or_ne c (end_of tri x));
    }

-- the same at b, which is where half-edge e ends, and e is x
module _ (tri : List ℕ) (a w : ℕ) (marks : List ℕ) (x : ℕ) (g : SiteMarking tri a w marks x) (n : NamesSites tri w) (some : x ≢ EMPTY) (e s b : ℕ)
    (p : e ≡ x) (q : s ≡ end_of tri e) (z : b ≡ s) where
  at_b : end_of tri x ≡ b
  at_b = sym (z ∙ q ∙ ap (end_of tri) p)

  pub marking_in : b < length marks
  marking_in = rw (← at_b, g.long) (end_in tri a w marks x g n some)

  pub marking_twice : (r : Bool) → r ≡ true → Says r (FromSite tri a (get_or marks b 0)) → MarkAnswer tri a marks false
  marking_twice r t s = twice tri a w marks x g n some (rw at_b (said r t s))

  pub marking_step : (r : Bool) → r ≡ false → Says r (FromSite tri a (get_or marks b 0)) → (y : ℕ) → Before tri (start_of tri e) e y → SiteMarking tri a w (set marks b x) y
  marking_step r t s y k = rw (← at_b) (step tri a w marks x g n some (rw at_b (denied r t s)) y (rw p at k))

pub marking_done : (tri : List ℕ) (a w : ℕ) (marks : List ℕ) (x : ℕ) → SiteMarking tri a w marks x → x ≡ EMPTY → MarkAnswer tri a marks true
marking_done tri a w marks x g z = record {
  marked = λ _. record { there = past_all tri a (MarkedAt tri marks) g.below x g.past z; ends = λ b l f. (g.ends b (rw (← g.long) l) f).1 };
  twice = λ y. let q : ◌≡◌ {A = ℕ} 0 1 = cc in absurd (omega arith);
  stale = g.stale;
}
