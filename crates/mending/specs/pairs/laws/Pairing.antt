-- The loops that pair: the half-edges that end at one site, and those of all sites.
use Rattle.std.specs.Prelude.{◌≡◌, refl, Bool, true, false, List, ◌≢◌, ℕ, ◌+◌, ◌≤◌, ◌<◌, length, get_or, set, replicate}
use Rattle.std.proofs.Common.{sym, ap, ◌∙◌, ⊎_elim, arith, length-set, get_or-set_same, get_or-set_other}
use Rattle.std.proofs.lemmas.List.{length-replicate, get_or-replicate}
use Rattle.base.specs.common.laws.Decide.{eq_or_ne}
use Rattle.base.specs.common.laws.Stores.{sets_ext}
use Rattle.base.specs.numbers.Numbers.{EMPTY}
use Rattle.mesh.specs.Mesh.{next_of, start_of, end_of}
use Rattle.mesh.specs.laws.Next.{next_lt, next_thrice}
use Rattle.mending.specs.pairs.Pairs.{Reverse, mate_of, pairs_of, SingleAt}
use Rattle.mending.specs.pairs.Chains.{NamesSites, Before, Chained, FromSite, Stale, Marked, MarkAnswer, SitePaired, PairAnswer}
use Rattle.mending.specs.pairs.laws.Chaining.{Past, past_start, past_in, past_all, past_step}
use Rattle.mending.specs.pairs.laws.Mates.{mate_is, mate_none, pairs_length, pairs_at}

-- ---- the pair of half-edge d, which ends at site a
module _ (tri : List ℕ) (a : ℕ) (marks : List ℕ) (n : NamesSites tri (length marks)) (g : Marked tri a marks) (d : ℕ) (l : d < length tri) (q : end_of tri d ≡ a) where
  -- a half-edge that runs the other way is marked where d starts
  reverse_marked : (e : ℕ) → e < length tri → Reverse tri d e → get_or marks (start_of tri d) 0 ≡ e
  reverse_marked e k r = ap (λ b. get_or marks b 0) (sym r.1) ∙ g.there e k (r.0 ∙ q)

  pub mate_marked : (m : ℕ) → m ≡ get_or marks (start_of tri d) 0 → FromSite tri a m → m ≡ mate_of tri d
  mate_marked m z f =
      let h : FromSite tri a (get_or marks (start_of tri d) 0) = rw (← z) f in
      let r : Reverse tri d m = (f.1 ∙ sym q, ap (end_of tri) z ∙ g.ends (start_of tri d) (n.named d l) h) in
      sym (mate_is tri d m f.0 r (λ e k s. sym (reverse_marked e k s) ∙ sym z))

  pub mate_unmarked : (m : ℕ) → m ≡ get_or marks (start_of tri d) 0 → (FromSite tri a m → ⊥) → EMPTY ≡ mate_of tri d
  mate_unmarked m z f = sym (mate_none tri d (λ e k r. f (rw (z, reverse_marked e k r) (k, r.0 ∙ q))))

-- ---- the half-edges that end at site a: each comes before one that starts there
abbrev pub prev_of : ℕ → ℕ
prev_of e = next_of (next_of e)

abbrev pub PairedBefore : List ℕ → List ℕ → ℕ → Type 0
PairedBefore tri pairs e = get_or pairs (prev_of e) 0 ≡ mate_of tri (prev_of e)

pub record SitePairing (tri : List ℕ) (a : ℕ) (old new : List ℕ) (x : ℕ) : Type 0 where
  pub long : length new ≡ length old
  pub below : ℕ
  pub past : Past tri a (PairedBefore tri new) below x
  pub there : (d : ℕ) → (d < length tri → end_of tri d ≢ a) → get_or new d 0 ≡ get_or old d 0

pub site_start : (tri : List ℕ) (a : ℕ) (old heads links : List ℕ) → Chained tri heads links → a < length heads → SitePairing tri a old old (get_or heads a 0)
site_start tri a old heads links c l =
    record { long = refl; below = length tri; past = past_start tri a (PairedBefore tri old) (get_or heads a 0) (c.firsts a l); there = λ d h. refl }

module _ (tri : List ℕ) (a w : ℕ) (old new : List ℕ) (x : ℕ) (n : NamesSites tri w) (fits : length tri ≤ length old) (g : SitePairing tri a old new x) (some : x ≢ EMPTY) where
  pub site_here : (x < length tri) × (start_of tri x ≡ a)
  site_here = past_in tri a (PairedBefore tri new) g.below x g.past some

  prev_in : prev_of x < length tri
  prev_in = next_lt n.threes (next_lt n.threes site_here.0)

  prev_ends : end_of tri (prev_of x) ≡ a
  prev_ends = rw (next_thrice x) site_here.1

  step : (m y : ℕ) → m ≡ mate_of tri (prev_of x) → Before tri (start_of tri x) x y → SitePairing tri a old (set new (prev_of x) m) y
  step m y q b =
      let same : get_or (set new (prev_of x) m) (prev_of x) 0 ≡ m = get_or-set_same new (prev_of x) m 0 (omega (arith, prev_in, g.long)) in
      record {
        long = length-set new (prev_of x) m ∙ g.long;
        below = x;
        past = past_step tri a (PairedBefore tri new) g.below x g.past (PairedBefore tri (set new (prev_of x) m)) some y b
            (λ e l s p. ⊎_elim
            (λ z. rw z (same ∙ q))
            (λ z. get_or-set_other new (prev_of x) (prev_of e) m 0 z ∙ p)
            (eq_or_ne (prev_of e) (prev_of x))) (same ∙ q);
        there = λ d h. get_or-set_other new (prev_of x) d m 0 (λ z. h (rw z prev_in) (rw z prev_ends)) ∙ g.there d h;
      }

-- the same at d, which comes before half-edge e, and e is x
module _ (tri : List ℕ) (a w : ℕ) (old new : List ℕ) (x : ℕ) (n : NamesSites tri w) (fits : length tri ≤ length old) (g : SitePairing tri a old new x) (some : x ≢ EMPTY)
    (e f d : ℕ) (p : e ≡ x) (q : f ≡ next_of e) (z : d ≡ next_of f) where
  at_d : prev_of x ≡ d
  at_d = sym (z ∙ ap next_of (q ∙ ap next_of p))

  pub site_in : d < length tri
  site_in = rw (← at_d) (prev_in tri a w old new x n fits g some)

  pub site_ends : end_of tri d ≡ a
  site_ends = rw (← at_d) (prev_ends tri a w old new x n fits g some)

  pub site_step : (m y : ℕ) → m ≡ mate_of tri d → Before tri (start_of tri e) e y → SitePairing tri a old (set new d m) y
  site_step m y h b = rw (← at_d) (step tri a w old new x n fits g some m y (rw at_d h) (rw p at b))

pub site_done : (tri : List ℕ) (a w : ℕ) (old new : List ℕ) (x : ℕ) → NamesSites tri w → SitePairing tri a old new x → x ≡ EMPTY → SitePaired tri a old new
site_done tri a w old new x n g z = record {
  here = λ d l q.
      let p = past_all tri a (PairedBefore tri new) g.below x g.past z (next_of d) (next_lt n.threes l) q in
      rw (next_thrice d) at p;
  there = g.there;
}

-- ---- all sites: those below a are done
pub record Pairing (tri : List ℕ) (old new marks : List ℕ) (v a : ℕ) : Type 0 where
  pub long : length new ≡ length old
  pub wide : length marks ≡ v
  pub stale : Stale tri a marks
  pub single : (e : ℕ) → e < length tri → start_of tri e < a → SingleAt tri e
  pub done : (d : ℕ) → d < length tri → end_of tri d < a → get_or new d 0 ≡ mate_of tri d
  pub rest : (k : ℕ) → length tri ≤ k → get_or new k 0 ≡ get_or old k 0

pub pairing_start : (tri old marks : List ℕ) (v w : ℕ) → length tri < EMPTY → length marks ≡ v → marks ≡ replicate w EMPTY → Pairing tri old old marks v 0
pairing_start tri old marks v w small q h = record {
  long = refl;
  wide = q;
  stale = λ b s l k f. let z : get_or marks b 0 ≡ EMPTY = ap (λ m. get_or m b 0) h ∙ get_or-replicate w b EMPTY 0 (omega (arith, ap length h, length-replicate w EMPTY)) in omega (arith, f.0);
  single = λ e l k. absurd (omega arith);
  done = λ d l k. absurd (omega arith);
  rest = λ k l. refl;
}

module _ (tri old new marks : List ℕ) (v a : ℕ) (g : Pairing tri old new marks v a) where
  pub pairing_step : (marks' new' : List ℕ) (r : Bool) → length marks' ≡ length marks → length new' ≡ length new → r ≡ true → MarkAnswer tri a marks' r
      → SitePaired tri a new new' → Pairing tri old new' marks' v (a + 1)
  pairing_step marks' new' r lm ln t m s =
      let k = m.marked t in
      record {
        long = ln ∙ g.long;
        wide = lm ∙ g.wide;
        stale = m.stale;
        single = λ e l h.
            ⊎_elim
            (λ z d b p q. let y : d ≡ e = sym (k.there d (omega arith) (p ∙ z)) ∙ ap (λ j. get_or marks' j 0) q ∙ k.there e l z in omega arith)
            (λ z. g.single e l (omega arith))
            (eq_or_ne (start_of tri e) a);
        done = λ d l h. ⊎_elim (λ z. s.here d l z) (λ z. s.there d (λ _. z) ∙ g.done d l (omega arith)) (eq_or_ne (end_of tri d) a);
        rest = λ j l. s.there j (λ h. absurd (omega arith)) ∙ g.rest j l;
      }

  pub pairing_twice : (marks' : List ℕ) (r : Bool) → r ≡ false → MarkAnswer tri a marks' r → PairAnswer tri old new false
  pairing_twice marks' r t m = record { single = m.twice t; pairs = λ y. let q : ◌≡◌ {A = ℕ} 0 1 = cc in absurd (omega arith) }

  pub pairing_done : (sites : ℕ) → NamesSites tri sites → sites ≤ a → length tri ≤ length old → PairAnswer tri old new true
  pairing_done sites n l fits = record {
    single = λ e k. g.single e k (omega (arith, n.named e k));
    pairs = λ _.
        let m = pairs_length tri (length tri) in
        sets_ext 0 (pairs_of tri) old new 0 (omega arith) g.long (λ k h. absurd (omega arith))
        (λ k h.
        let q : k < length tri = omega arith in
        let z : 0 + k ≡ k = omega arith in
        rw z (g.done k q (omega (arith, n.named (next_of k) (next_lt n.threes q))) ∙ sym (pairs_at tri (length tri) k q)))
        (λ k h. g.rest k (omega arith));
  }
