-- The chains: how they are laid, half-edge by half-edge, and how one is followed.
use Rattle.std.specs.Prelude.{◌≡◌, refl, List, ◌≢◌, ℕ, ◌+◌, ◌%◌, ◌≤◌, ◌<◌, length, get_or, set, replicate}
use Rattle.std.proofs.Common.{sym, ap, ◌∙◌, ⊎_elim, arith, length-set, get_or-set_same, get_or-set_other}
use Rattle.std.proofs.lemmas.List.{get_or-replicate}
use Rattle.base.specs.common.laws.Decide.{lt_or_ge, eq_or_ne}
use Rattle.base.specs.numbers.Numbers.{EMPTY}
use Rattle.mesh.specs.Mesh.{start_of}
use Rattle.mending.specs.pairs.Chains.{NamesSites, Before, Chained}

before_none : (tri : List ℕ) (a : ℕ) → Before tri a 0 EMPTY
before_none tri a = record { none = λ _ e l. absurd (omega arith); some = λ n. absurd (n refl); last = λ n. absurd (n refl) }

before_here : (tri : List ℕ) (a e : ℕ) → e < EMPTY → start_of tri e ≡ a → Before tri a (e + 1) e
before_here tri a e s q = record { none = λ z. absurd (omega arith); some = λ _. (omega arith, q); last = λ _ d l k. absurd (omega arith) }

before_skip : (tri : List ℕ) (a n x : ℕ) → start_of tri n ≢ a → Before tri a n x → Before tri a (n + 1) x
before_skip tri a n x h b = record {
  none = λ z e l q. ⊎_elim (λ w. h (ap (start_of tri) (sym w) ∙ q)) (λ w. b.none z e (omega arith) q) (eq_or_ne e n);
  some = λ z. (omega (arith, (b.some z).0), (b.some z).1);
  last = λ z e k l q. ⊎_elim (λ w. h (ap (start_of tri) (sym w) ∙ q)) (λ w. b.last z e k (omega arith) q) (eq_or_ne e n);
}

-- the loop that chains: the half-edges below e are chained
pub record Chaining (tri heads links : List ℕ) (w v e : ℕ) : Type 0 where
  pub room : e ≤ length tri
  pub wide : length heads ≡ w
  pub long : length links ≡ v
  pub firsts : (s : ℕ) → s < w → Before tri s e (get_or heads s 0)
  pub nexts : (d : ℕ) → d < e → Before tri (start_of tri d) d (get_or links d 0)

pub chaining_start : (tri heads links : List ℕ) (w : ℕ) → length heads ≡ w → heads ≡ replicate w EMPTY → Chaining tri heads links w (length links) 0
chaining_start tri heads links w q h = record {
  room = omega arith;
  wide = q;
  long = refl;
  firsts = λ s l. let z : get_or heads s 0 ≡ EMPTY = ap (λ k. get_or k s 0) h ∙ get_or-replicate w s EMPTY 0 l in rw z (before_none tri s);
  nexts = λ d l. absurd (omega arith);
}

module _ (tri heads links : List ℕ) (w v e s : ℕ) (g : Chaining tri heads links w v e) (l : e < length tri) (fits : length tri ≤ v)
    (q : s ≡ start_of tri e) (n : NamesSites tri w) where
  site : s < w
  site = rw q (n.named e l)

  pub chaining_in : s < length heads
  chaining_in = rw g.wide site

  pub chaining_step : Chaining tri (set heads s e) (set links e (get_or heads s 0)) w v (e + 1)
  chaining_step = record {
    room = omega arith;
    wide = length-set heads s e ∙ g.wide;
    long = length-set links e (get_or heads s 0) ∙ g.long;
    firsts = λ t k.
        ⊎_elim
        (λ z. rw (z, get_or-set_same heads s e 0 (omega (arith, site, g.wide))) (before_here tri s e (omega (arith, n.small)) (sym q)))
        (λ z. rw (get_or-set_other heads s t e 0 z) (before_skip tri t e (get_or heads t 0) (λ y. z (sym y ∙ sym q)) (g.firsts t k)))
        (eq_or_ne t s);
    nexts = λ d k.
        ⊎_elim
        (λ z. rw (z, get_or-set_same links e (get_or heads s 0) 0 (omega (arith, g.long)), ← q) (g.firsts s site))
        (λ z. rw (get_or-set_other links e d (get_or heads s 0) 0 z) (g.nexts d (omega arith)))
        (eq_or_ne d e);
  }

pub chaining_done : (tri heads links : List ℕ) (w v e : ℕ) → Chaining tri heads links w v e → length tri ≤ e → Chained tri heads links
chaining_done tri heads links w v e g l =
    let q : e ≡ length tri = omega (arith, g.room) in
    record { firsts = λ s k. rw (← q) (g.firsts s (rw (← g.wide) k)); nexts = λ d k. g.nexts d (omega arith) }

pub named_more : (tri : List ℕ) (n m : ℕ) → NamesSites tri n → n ≤ m → NamesSites tri m
named_more tri n m a l = record { threes = a.threes; small = a.small; named = λ k h. omega (arith, a.named k h) }

-- ---- a chain followed: of the half-edges that start at site a, those from `below` on are done, and x is the last before them
pub record Past (tri : List ℕ) (a : ℕ) (Done : ℕ → Type 0) (below x : ℕ) : Type 0 where
  pub at : Before tri a below x
  pub fits : below ≤ length tri
  pub done : (e : ℕ) → e < length tri → start_of tri e ≡ a → below ≤ e → Done e

module _ (tri : List ℕ) (a : ℕ) where
  pub past_start : (Done : ℕ → Type 0) (x : ℕ) → Before tri a (length tri) x → Past tri a Done (length tri) x
  past_start Done x b = record { at = b; fits = omega arith; done = λ e l q k. absurd (omega arith) }

  module _ (Done : ℕ → Type 0) (below x : ℕ) (p : Past tri a Done below x) where
    pub past_in : x ≢ EMPTY → (x < length tri) × (start_of tri x ≡ a)
    past_in n = let s = p.at.some n in (omega (arith, s.0, p.fits), s.1)

    pub past_all : x ≡ EMPTY → (e : ℕ) → e < length tri → start_of tri e ≡ a → Done e
    past_all z e l q = ⊎_elim (λ k. absurd (p.at.none z e k q)) (λ k. p.done e l q k) (lt_or_ge e below)

    -- one half-edge more
    pub past_step : (Next : ℕ → Type 0) → x ≢ EMPTY → (y : ℕ) → Before tri (start_of tri x) x y
        → ((e : ℕ) → e < length tri → start_of tri e ≡ a → Done e → Next e) → Next x → Past tri a Next x y
    past_step Next n y b more here =
        let s = p.at.some n in
        record {
          at = rw s.1 at b;
          fits = omega (arith, s.0, p.fits);
          done = λ e l q k.
              ⊎_elim
              (λ z. rw z here)
              (λ z. ⊎_elim (λ w. absurd (p.at.last n e (omega arith) w q)) (λ w. more e l q (p.done e l q w)) (lt_or_ge e below))
              (eq_or_ne e x);
        }

-- what comes next on a chain is lower, or none: the measure of a loop that follows one
abbrev pub left : ℕ → ℕ
left x = (x + 1) % 4294967296

pub left_falls : (tri : List ℕ) (a e x y : ℕ) → e ≡ x → Before tri a e y → x < EMPTY → y ≤ EMPTY → left y < left x
left_falls tri a e x y p b l h = ⊎_elim (λ z. omega arith) (λ z. omega (arith, (b.some z).0)) (eq_or_ne y EMPTY)
