-- Round a site the neighbours do not stay on one side of a line: from one on the side the walk comes to one that is not, or to the border.
use Rattle.std.specs.Prelude.{◌≡◌, refl, List, ◌⊎◌, ◌≢◌, ℕ, suc, ◌<◌, length}
use Rattle.std.proofs.Common.{sym, ap, ◌∙◌, subst, inl, inr, ⊎_elim, arith}
use Rattle.base.specs.common.laws.Decide.{lt_or_ge, eq_or_ne}
use Rattle.base.specs.numbers.Numbers.{EMPTY}
use Rattle.mesh.specs.Mesh.{next_of, start_of, end_of, pair_of, around, Mates, Paired}
use Rattle.mesh.specs.laws.Next.{next_lt, next_inj}
use Rattle.nearest_laws.specs.laws.Area.{◌⊕◌, ◌⊖◌, ◌⊗◌, Null, more, fans}
use Rattle.grid.specs.Raised.{area_of}
use Rattle.grid.specs.declared.Raised.{Raised}
use Rattle.grid.specs.declared.Signed.{Signed}
use Rattle.nearest_laws.specs.laws.Signs.{Pos, NonNeg, nn, pp, no}
use Rattle.nearest_laws.specs.laws.Orbit.{Trail, stop, on, good, ends}
use Rattle.grid.specs.scan.Judged.{apex_of}

-- from the relation: the third lies left of the first as the second does
chain : (dx dy dz yz xz xy : Signed) → Null (dx ⊗ yz ⊖ dy ⊗ xz ⊕ dz ⊗ xy) → NonNeg dx → NonNeg dy → Pos dz → Pos yz → Pos xy → Pos xz
chain dx dy dz yz xz xy q hx hy hz kyz kxy =
    ⊎_elim
    (λ h. h)
    (λ h. absurd (omega (arith, q, nn dx yz hx (omega arith), no dy xz hy h, pp dz xy hz kxy)))
    (lt_or_ge xz.minus xz.plus)

module _ (tri he : List ℕ) (ok : Paired tri he) (P : ℕ → Raised)
    (ccw : (e : ℕ) → e < length he → Pos (area_of (P (start_of tri e)) (P (end_of tri e)) (P (apex_of tri e))))
    (v : ℕ) (a b : Raised) (Keep Leave : Signed → Type 0) (decide : (s : Signed) → Keep s ⊎ Leave s) (keeps : (s : Signed) → Keep s → NonNeg s)
  where
    abbrev pub D : ℕ → Signed
    D n = more a b (P v) (P n)

    abbrev pub G : ℕ → Type 0
    G e = (e < length he) × (end_of tri e ≡ v) × Keep (D (start_of tri e))

    pub mate : (e : ℕ) → e < length he → around he e ≢ EMPTY → Mates tri he (next_of e) (around he e)
    mate e l n = ⊎_elim (λ w. absurd (n w)) (λ w. w) (ok.pairs (next_of e) (next_lt ok.threes l))

    inj : (d e : ℕ) → G d → G e → G (around he d) → around he d ≡ around he e → d ≡ e
    inj d e gd ge g q =
        let n : around he d ≢ EMPTY = λ z. omega (arith, ok.small, g.0, z) in
        next_inj (sym (mate d gd.0 n).back ∙ ap (pair_of he) q ∙ (mate e ge.0 (λ z. n (q ∙ z))).back)

    -- the next neighbour is the third site of the triangle
    next_start : (e w : ℕ) → e < length he → w < length he → around he e ≡ w → start_of tri w ≡ apex_of tri e
    next_start e w l lw q = subst (λ k. start_of tri k ≡ apex_of tri e) q (mate e l (λ z. omega (arith, ok.small, q, z))).from

    module _ (e₀ : ℕ) (g₀ : G e₀) (strict : Pos (D (start_of tri e₀))) where
      one_turn_lem : (e w : ℕ) → G e → G w → around he e ≡ w → Pos (area_of (P v) (P (start_of tri w)) (P (start_of tri e)))
      one_turn_lem e w ge gw q =
          subst (λ k. Pos (area_of (P v) (P k) (P (start_of tri e)))) (sym (next_start e w ge.0 gw.0 q))
          (turn (P (start_of tri e)) (P v) (P (apex_of tri e)) (subst (λ k. Pos (area_of (P (start_of tri e)) (P k) (P (apex_of tri e)))) ge.1 (ccw e ge.0)))
        where
          turn : (x y z : Raised) → Pos (area_of x y z) → Pos (area_of y z x)
          turn x y z h = omega arith

      turned_on : {k e : ℕ} → Trail G (around he) e₀ k e → ((k ≡ 0) × (e₀ ≡ e)) ⊎ Pos (area_of (P v) (P (start_of tri e)) (P (start_of tri e₀)))
      turned_on stop = inl (refl, refl)
      turned_on (on {y = u} w t h q) =
          let gu = good G (around he) g₀ t in
          ⊎_elim
          (λ r. inr (one_turn_lem e₀ w g₀ h (ap (around he) r.1 ∙ q)))
          (λ r. inr (chain (D (start_of tri w)) (D (start_of tri u)) (D (start_of tri e₀)) (area_of (P v) (P (start_of tri u)) (P (start_of tri e₀)))
          (area_of (P v) (P (start_of tri w)) (P (start_of tri e₀))) (area_of (P v) (P (start_of tri w)) (P (start_of tri u)))
          (fans a b (P v) (P (start_of tri w)) (P (start_of tri u)) (P (start_of tri e₀)))
          (keeps _ h.2) (keeps _ gu.2) strict r (one_turn_lem u w gu h q)))
          (turned_on t)

      never : (k : ℕ) → Trail G (around he) e₀ (suc k) e₀ → ⊥
      never k t = ⊎_elim (λ r. absurd (omega (arith, r.0))) (flat (P v) (P (start_of tri e₀))) (turned_on t)
        where
          flat : (x y : Raised) → Pos (area_of x y y) → ⊥
          flat x y h = omega arith

      abbrev pub StopsAt : ℕ → Type 0
      StopsAt e = Leave (D (apex_of tri e)) ⊎ (pair_of he (next_of e) ≡ EMPTY)

      step : (e : ℕ) → G e → StopsAt e ⊎ G (around he e)
      step e g =
          ⊎_elim
          (λ z. inl (inr z))
          (λ n.
          let m = mate e g.0 n in
          ⊎_elim
          (λ k. inr (m.inside, m.to ∙ g.1, subst (λ i. Keep (D i)) (sym m.from) k))
          (λ k. inl (inl k))
          (decide (D (apex_of tri e))))
          (eq_or_ne (around he e) EMPTY)

      pub comes : (z : ℕ) × G z × StopsAt z
      comes =
          let r = ends G (around he) inj (length he) (λ e g. g.0) e₀ g₀ never StopsAt step in
          (r.1, good G (around he) g₀ r.2, r.3)
