-- Theorem: the border has the edge at infinity of each half-edge on the hull exactly once (`border_once`).
use Rattle.std.specs.Prelude.{◌≡◌, refl, Bool, true, false, List, ◌≢◌, ℕ, zero, suc, ◌+◌, ◌≤◌, ◌<◌, eqb, length, get_or}
use Rattle.std.proofs.Common.{sym, ap, ◌∙◌, ⊎_elim, arith, eqb-true, eq-eqb}
use Rattle.base.specs.common.Count.{same}
use Rattle.base.specs.common.laws.Count.{same_cases}
use Rattle.base.specs.common.laws.Decide.{lt_or_ge, eq_or_ne}
use Rattle.base.specs.numbers.Numbers.{EMPTY}
use Rattle.mesh.specs.Mesh.{end_of, pair_of}
use Rattle.mesh.specs.Hull.{next_place}
use Rattle.mesh.specs.Accepted.{Topology}
use Rattle.mesh.specs.laws.Border.{after_lt, hull_border}
use Rattle.mesh.specs.laws.Facts.{start_used, tab_used, leftmost_unpaired}
use Rattle.cutting.specs.cuts.Pairs.{once_if, often}
use Rattle.cutting.specs.cuts.Named.{far, by_name}
use Rattle.cutting.specs.rings.Border.{arrives, border_names}

-- how often v stands at the first k places
abbrev at_places : List ℕ → ℕ → ℕ → ℕ
at_places hull v zero = 0
at_places hull v (suc k) = same v (get_or hull k 0) + at_places hull v k

at_none : (hull : List ℕ) (v k : ℕ) → ((i : ℕ) → i < k → v ≢ get_or hull i 0) → at_places hull v k ≡ 0
at_none hull v zero n = refl
at_none hull v (suc k) n =
    ⊎_elim (λ w. absurd (n k (omega arith) w.0)) (λ w. omega (arith, w.1, at_none hull v k (λ i l. n i (omega arith)))) (same_cases v (get_or hull k 0))

at_one : (hull : List ℕ) (v j k : ℕ) → j < k → v ≡ get_or hull j 0 → ((i : ℕ) → i < k → i ≢ j → v ≢ get_or hull i 0) → at_places hull v k ≡ 1
at_one hull v j zero l q n = absurd (omega arith)
at_one hull v j (suc k) l q n =
    ⊎_elim
    (λ e. ⊎_elim
    (λ w. omega (arith, w.1, at_none hull v k (λ i h. n i (omega arith) (λ z. omega (arith, z, e)))))
    (λ w. absurd (w.0 (q ∙ ap (λ (i : ℕ). get_or hull i 0) e)))
    (same_cases v (get_or hull k 0)))
    (λ e. ⊎_elim
    (λ w. absurd (n k (omega arith) (λ z. e (sym z)) w.0))
    (λ w. omega (arith, w.1, at_one hull v j k (omega (arith, e)) q (λ i h. n i (omega arith))))
    (same_cases v (get_or hull k 0)))
    (eq_or_ne j k)

module _ {tri he hull : List ℕ} {sites : ℕ} (ok : Topology tri he hull sites) where
  -- the half-edge that arrives at a place ends at its site
  arrives_there : (i : ℕ) → i < length hull → end_of tri (arrives ok i) ≡ get_or hull i 0
  arrives_there i l =
      let e = ok.border.edges i l in
      (tab_used ok (get_or hull i 0) (ok.border.fresh i l).0 (rw e.3 at (start_used ok e.0 e.1))).1

  -- o arrives at the place of the site where it ends, and nowhere else
  arrives_one : (o i : ℕ) → o < length he → pair_of he o ≡ EMPTY → i < length hull → once_if (eqb o (arrives ok i)) ≡ same (end_of tri o) (get_or hull i 0)
  arrives_one o i lo u l = ⊎_elim
      (λ w. (let q : arrives ok i ≡ o = leftmost_unpaired ok (get_or hull i 0) (ok.border.fresh i l).0 o lo w.0 u in ap once_if (eq-eqb o (arrives ok i) (sym q)) ∙ sym w.1))
      (λ w. go (eqb o (arrives ok i)) refl w)
      (same_cases (end_of tri o) (get_or hull i 0))
    where
      go : (b : Bool) → eqb o (arrives ok i) ≡ b → (end_of tri o ≢ get_or hull i 0) × (same (end_of tri o) (get_or hull i 0) ≡ 0) → once_if b ≡ same (end_of tri o) (get_or hull i 0)
      go true q w = absurd (w.0 (ap (end_of tri) (eqb-true o (arrives ok i) q) ∙ arrives_there i l))
      go false q w = sym w.1

  border_places : (o : ℕ) → o < length he → pair_of he o ≡ EMPTY → (k : ℕ) → k ≤ length hull → often by_name (far o) (border_names ok k) ≡ at_places hull (end_of tri o) k
  border_places o lo u zero l = refl
  border_places o lo u (suc k) l = omega (arith, arrives_one o k lo u l, border_places o lo u k (omega arith))

  pub border_once : (o : ℕ) → o < length he → pair_of he o ≡ EMPTY → often by_name (far o) (border_names ok (length hull)) ≡ 1
  border_once o lo u =
      let w = (hull_border tri he hull sites ok.border o lo u).0 in
      let j = next_place (length hull) w.0 in
      let lj = after_lt (length hull) w.0 w.1 in
      border_places o lo u (length hull) (omega arith) ∙ at_one hull (end_of tri o) j (length hull) lj w.3 (λ i l n q. apart i j l lj n (sym q ∙ w.3))
    where
      -- no site stands at two places
      apart : (i j : ℕ) → i < length hull → j < length hull → i ≢ j → get_or hull i 0 ≡ get_or hull j 0 → ⊥
      apart i j li lj n q =
          ⊎_elim (λ l. (ok.border.fresh j lj).1 i l q) (λ l. (ok.border.fresh i li).1 j (omega (arith, n)) (sym q)) (lt_or_ge i j)
