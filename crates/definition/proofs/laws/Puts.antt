-- Laws on what a step puts into the cell of a site (specs/laws/Puts.antt), that only proofs use.
use Rattle.std.specs.Prelude.{◌≡◌, Bool, true, false, List, [], ◌∷◌, ◌++◌, ◌⊎◌, ◌≢◌, eqb, get_or, set}
use Rattle.std.proofs.Math.Path.{refl}
use Rattle.std.proofs.Common.{sym, ap, ◌∙◌, length-append, get_or-set_same, get_or-set_other, eqb-true}
use Rattle.std.proofs.Math.Logic.{inl, inr, ⊎_elim}
use Prim.Native.Nat.{ℕ, zero, suc, ◌+◌, ◌%◌, ◌≤◌, ◌<◌}
use native.Mathlib.Omega.{arith}
use Rattle.std.proofs.Math.ListN.{length, length-set, get_or-eq_default}
use Rattle.base.specs.common.Pick.{pick}
use Rattle.base.specs.common.laws.Decide.{eq_or_ne, lt_or_ge}
use Rattle.base.specs.common.Count.{same, occ}
use Rattle.base.specs.common.laws.Count.{same_cases, occ_append}
use Rattle.base.specs.numbers.Numbers.{EMPTY}
use Rattle.definition.specs.Cell.{Mark, plain, crossing, wrapped, Entry, entry, Ins, goes, wraps, with_corners}
use Rattle.definition.specs.Build.{if_wrapped, wrapped_in}
use Rattle.definition.specs.laws.Gives.{picked}
use Rattle.definition.specs.Measures.{ValidEntry, ValidEntries}
use Rattle.definition.specs.laws.Puts.{Struck, Puts}

-- ---- lists

front : (m : Mark) (v : ℕ) (l k r : List ℕ) → l ≡ k ++ r → if_wrapped m v ++ l ≡ (if_wrapped m v ++ k) ++ r
front plain v l k r e = e
front crossing v l k r e = e
front wrapped v l k r e = ap (λ (t : List ℕ). v ∷ t) e

pub wrapped_append : (es fs : List Entry) → wrapped_in (es ++ fs) ≡ wrapped_in es ++ wrapped_in fs
unfolding wrapped_in
wrapped_append [] fs = refl
wrapped_append (e ∷ es) fs = front e.mark e.at _ _ _ (wrapped_append es fs)

pub occ_set : (v : ℕ) (l : List ℕ) (i x : ℕ) → i < length l → occ v (set l i x) + same v (get_or l i 0) ≡ occ v l + same v x
occ_set v [] i x h = absurd (omega arith)
occ_set v (y ∷ l) zero x h = omega arith
occ_set v (y ∷ l) (suc i) x h = omega (arith, occ_set v l i x (omega arith))

pub same_self : (v : ℕ) → same v v ≡ 1
same_self v = ⊎_elim (λ w. w.1) (λ w. absurd (w.0 refl)) (same_cases v v)

pub same_other : (v w : ℕ) → v ≢ w → same v w ≡ 0
same_other v w h = ⊎_elim (λ q. absurd (h q.0)) (λ q. q.1) (same_cases v w)

-- a corner that is next is the site's
pub goes_own : (site stop c : ℕ) (os : List ℕ) → goes site stop c os ≡ true → get_or os c 0 ≡ site
goes_own site stop c os = by (eqb c stop)
  where
    by : (t : Bool) → pick t (λ _. false) (λ _. eqb (get_or os c 0) site) ≡ true → get_or os c 0 ≡ site
    by true h = let z : ◌≡◌ {A = ℕ} 0 1 = cc in absurd (omega arith)
    by false h = eqb-true _ _ h

pub placed_below : (P : ℕ → Type 0) (nc n : ℕ) (m : Mark) (v : ℕ) → nc + 4 ≤ n → ValidEntry P nc n m v → v < n
placed_below P nc n plain v room h = omega (arith, h.1)
placed_below P nc n crossing v room h = h.1
placed_below P nc n wrapped v room h = omega (arith, h.1)

module _ (P : ℕ → Type 0) (nc site : ℕ) where
  placed_append : (n : ℕ) (es fs : List Entry) → ValidEntries P nc n es → ValidEntries P nc n fs → ValidEntries P nc n (es ++ fs)
  placed_append n [] fs h g = g
  placed_append n (e ∷ es) fs h g = (h.0, placed_append n es fs h.1 g)

  placed_more : (n m : ℕ) → n ≤ m → (k : Mark) (v : ℕ) → ValidEntry P nc n k v → ValidEntry P nc m k v
  placed_more n m l plain v h = h
  placed_more n m l crossing v h = (h.0, omega (arith, h.1))
  placed_more n m l wrapped v h = h

  pub all_more : (n m : ℕ) → n ≤ m → (es : List Entry) → ValidEntries P nc n es → ValidEntries P nc m es
  all_more n m l [] h = tt
  all_more n m l (e ∷ es) h = (placed_more n m l e.mark e.at h.0, all_more n m l es h.1)

  pub all_turned : (Q : ℕ → Type 0) (n : ℕ) → ((v : ℕ) → P v → Q v) → (es : List Entry) → ValidEntries P nc n es → ValidEntries Q nc n es
  all_turned Q n f [] h = tt
  all_turned Q n f (e ∷ es) h = (by e.mark e.at h.0, all_turned Q n f es h.1)
    where
      by : (k : Mark) (v : ℕ) → ValidEntry P nc n k v → ValidEntry Q nc n k v
      by plain v g = (f v g.0, g.1)
      by crossing v g = g
      by wrapped v g = g

  -- ---- steps after each other

  pub puts_none : (n : ℕ) (os : List ℕ) → Puts P nc site n 0 os [] os
  unfolding wrapped_in
  puts_none n os = record { owners = refl; placed = tt; corner = λ c h. inl (refl, refl); counted = omega arith; struck = omega arith; others = λ s h. omega arith; rest = refl }

  pub puts_more : {n m k : ℕ} {os ws : List ℕ} {es : List Entry} → n ≤ m → Puts P nc site n k os es ws → Puts P nc site m k os es ws
  puts_more {n} {m} {es} l h = record { owners = h.owners; placed = all_more n m l es h.placed; corner = h.corner; counted = h.counted; struck = h.struck; others = h.others; rest = h.rest }

  module _ (real : site ≢ EMPTY) where
    struck_then : (c : ℕ) (es fs : List Entry) (o u w : ℕ) → Struck nc site c es o u → Struck nc site c fs u w → Struck nc site c (es ++ fs) o w
    struck_then c es fs o u w h g =
        let e : occ (nc + c) (wrapped_in (es ++ fs)) ≡ occ (nc + c) (wrapped_in es) + occ (nc + c) (wrapped_in fs) = ap (occ (nc + c))
        (wrapped_append es fs) ∙ occ_append (nc + c) (wrapped_in es) (wrapped_in fs) in
        ⊎_elim
        (λ x. ⊎_elim
        (λ y. inl (y.0 ∙ x.0, omega (arith, e, x.1, y.1)))
        (λ y. inr (sym x.0 ∙ y.0, y.1, omega (arith, e, x.1, y.2)))
        g)
        (λ x. ⊎_elim
        (λ y. inr (x.0, y.0 ∙ x.1, omega (arith, e, x.2, y.1)))
        (λ y. absurd (real (sym y.0 ∙ x.1)))
        g)
        h

    pub puts_then : {n k j : ℕ} {os us ws : List ℕ} {es fs : List Entry} → Puts P nc site n k os es us → Puts P nc site n j us fs ws → Puts P nc site n (k + j) os (es ++ fs) ws
    puts_then {n} {k} {j} {os} {us} {ws} {es} {fs} h g =
        let e : length (wrapped_in (es ++ fs)) ≡ length (wrapped_in es) + length (wrapped_in fs) = ap length (wrapped_append es fs) ∙ length-append (wrapped_in es) (wrapped_in fs) in
        record {
          owners = g.owners ∙ h.owners;
          placed = placed_append n es fs h.placed g.placed;
          corner = λ c l. struck_then c es fs _ _ _ (h.corner c l) (g.corner c l);
          counted = omega (arith, e, h.counted, g.counted);
          struck = omega (arith, e, h.struck, g.struck);
          others = λ s z. omega (arith, h.others s z, g.others s z);
          rest = omega (arith, e, length-append es fs, h.rest, g.rest);
        }

  -- ---- single entries

  pub puts_plain : (n v : ℕ) (os : List ℕ) → P v → v < nc → Puts P nc site n 1 os (entry plain v ∷ []) os
  unfolding wrapped_in
  puts_plain n v os h l = record { owners = refl; placed = ((h, l), tt); corner = λ c g. inl (refl, refl); counted = omega arith; struck = omega arith; others = λ s z. omega arith; rest = refl }

  pub puts_crossing : (n v : ℕ) (os : List ℕ) → nc ≤ v → v < n → Puts P nc site n 1 os (entry crossing v ∷ []) os
  unfolding wrapped_in
  puts_crossing n v os h l = record { owners = refl; placed = ((h, l), tt); corner = λ c g. inl (refl, refl); counted = omega arith; struck = omega arith; others = λ s z. omega arith; rest = refl }

  module _ (real : site ≢ EMPTY) (n : ℕ) where
    pub puts_corner : (c : ℕ) (os : List ℕ) → length os ≡ 4 → c < 4 → get_or os c 0 ≡ site → Puts P nc site n 0 os (entry wrapped (nc + c) ∷ []) (set os c EMPTY)
    unfolding wrapped_in
    puts_corner c os four h own =
        let l : c < length os = omega arith in
        record {
          owners = length-set os c EMPTY;
          placed = ((omega arith, omega arith), tt);
          corner = λ d k.
              ⊎_elim
              (λ q. inr (rw q own, rw q (get_or-set_same os c EMPTY 0 l), rw q (rw (same_self (nc + c)) (omega arith))))
              (λ q. inl (get_or-set_other os c d EMPTY 0 q, rw (same_other (nc + d) (nc + c) (omega arith)) (omega arith)))
              (eq_or_ne d c);
          counted =
              let e = occ_set site os c EMPTY l in
              let f : same site (get_or os c 0) ≡ 1 = rw own (same_self site) in
              let g = same_other site EMPTY real in
              omega arith;
          struck =
              let e = occ_set EMPTY os c EMPTY l in
              let f : same EMPTY (get_or os c 0) ≡ 0 = rw own (same_other EMPTY site (λ z. real (sym z))) in
              let g = same_self EMPTY in
              omega arith;
          others = λ s z. omega (arith, occ_set s os c EMPTY l, same_other s EMPTY z);
          rest = omega arith;
        }

    pub puts_wraps : (k stop c : ℕ) (os : List ℕ) → length os ≡ 4 → c < 4 → Puts P nc site n 0 os (wraps k nc site stop c os).new (wraps k nc site stop c os).owners
    unfolding wraps
    puts_wraps zero stop c os four h = puts_none n os
    puts_wraps (suc k) stop c os four h =
        picked (λ (i : Ins). Puts P nc site n 0 os i.new i.owners) (goes site stop c os) _ _
        (λ t. puts_then real (puts_corner c os four h (goes_own site stop c os t)) (puts_wraps k stop ((c + 1) % 4) (set os c EMPTY) (length-set os c EMPTY ∙ four) (omega arith)))
        (λ t. puts_none n os)

    -- a place whose owner is the site is a corner's
    own_corner : (c : ℕ) (os : List ℕ) → length os ≡ 4 → eqb (get_or os c EMPTY) site ≡ true → c < 4
    own_corner c os four e = ⊎_elim (λ l. l) (λ l. absurd (real (sym (eqb-true _ _ e) ∙ get_or-eq_default os EMPTY {n = c} (omega arith)))) (lt_or_ge c 4)

    pub puts_corners : (f s second : ℕ) (os : List ℕ) → length os ≡ 4 → nc ≤ second → second < n
        → Puts P nc site n 1 os (with_corners nc site f s second os).new (with_corners nc site f s second os).owners
    unfolding with_corners
    puts_corners f s second os four lo hi =
        picked (λ (i : Ins). Puts P nc site n 1 os i.new i.owners) (eqb (get_or os f EMPTY) site) _ _
        (λ t. puts_then real (puts_wraps 4 s f os four (own_corner f os four t)) (puts_crossing n second _ lo hi))
        (λ t. picked (λ (i : Ins). Puts P nc site n 1 os i.new i.owners) (eqb (get_or os s EMPTY) site) _ _
        (λ u. puts_then real (puts_crossing n second os lo hi) (puts_wraps 4 f s os four (own_corner s os four u)))
        (λ u. puts_crossing n second os lo hi))
