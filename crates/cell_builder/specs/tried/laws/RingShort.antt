-- A triangle names a site at most once, so a site is named no more often than there are triangles, and a ring is no longer: the frame's stage has room for it by their number alone.
use Rattle.std.specs.Prelude.{◌≡◌, refl, List, ◌≢◌, ℕ, zero, suc, ◌+◌, ◌*◌, ◌/◌, ◌≤◌, length, get_or, take}
use Rattle.std.proofs.Common.{sym, ◌∙◌, ⊎_elim, arith}
use Rattle.std.proofs.lemmas.List.{length-map}
use Rattle.std.proofs.Math.Seq.{take-length}
use Rattle.base.specs.common.Count.{same, occ}
use Rattle.base.specs.common.laws.Count.{same_cases}
use Rattle.mesh.specs.Mesh.{end_of, whole_of, AllSound}
use Rattle.mesh.specs.Accepted.{TopologyWith}
use Rattle.mesh.specs.laws.Degree.{occ_next}
use Rattle.definition.specs.Build.{ring_from}
use Rattle.build_laws.specs.laws.AllCells.{ring_share}

-- of three that differ at most one is s
one_of : (s a b c : ℕ) → a ≢ b → b ≢ c → c ≢ a → same s a + same s b + same s c ≤ 1
one_of s a b c p q r =
    ⊎_elim
    (λ x. ⊎_elim
    (λ y. absurd (p (sym x.0 ∙ y.0)))
    (λ y. ⊎_elim (λ z. absurd (r (sym z.0 ∙ x.0))) (λ z. omega arith) (same_cases s c))
    (same_cases s b))
    (λ x. ⊎_elim
    (λ y. ⊎_elim (λ z. absurd (q (sym y.0 ∙ z.0))) (λ z. omega arith) (same_cases s c))
    (λ y. ⊎_elim (λ z. omega arith) (λ z. omega arith) (same_cases s c))
    (same_cases s b))
    (same_cases s a)

named_once : (tri : List ℕ) (n s t : ℕ) → AllSound tri n → t ≤ length tri / 3 → occ s (take (3 * t) tri) ≤ t
named_once tri n s zero sound h = omega arith
named_once tri n s (suc t) sound h =
    let q : 3 * suc t ≡ 3 * t + 1 + 1 + 1 = omega arith in
    let w : 3 * t + 1 + 1 ≡ 3 * t + 2 = omega arith in
    let g = sound t (omega arith) in
    let a = occ_next s (3 * t) tri (omega arith) in
    let b = occ_next s (3 * t + 1) tri (omega arith) in
    let c = rw w at (occ_next s (3 * t + 1 + 1) tri (omega arith)) in
    rw (q, w) (omega (arith, a, rw w at b, c, one_of s (get_or tri (3 * t) 0) (get_or tri (3 * t + 1) 0) (get_or tri (3 * t + 2) 0) g.ab g.bc g.ca, named_once tri n s t sound (omega arith)))

module _ {Fans : Type 0} {tri he hull : List ℕ} {n : ℕ} (top : TopologyWith Fans tri he hull n) (e : ℕ) where
  pub ring_short : length (ring_from he e) ≤ length tri / 3
  ring_short =
      let s = end_of tri e in
      let q : 3 * (length tri / 3) ≡ length tri = omega (arith, top.threes) in
      let o : occ s tri ≤ length tri / 3 = rw (q, take-length tri) at (named_once tri n s (length tri / 3) top.sound (omega arith)) in
      omega (arith, ring_share top s e (λ _. refl))

  pub walk_short : length (whole_of he e) ≤ length tri / 3
  walk_short = omega (arith, ring_short, length-map (whole_of he e) (λ f. f / 3))
