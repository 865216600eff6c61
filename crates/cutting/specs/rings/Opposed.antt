-- Theorem: on a mesh whose pairing is right the opposite of an edge's name is an involution (`twice_opposite`), and stands for the edge the other way round (`out_reversed`, `ray_reversed`).
use Rattle.std.specs.Prelude.{◌≡◌, refl, Bool, true, false, cond, List, ℕ, ◌<◌, ltb, length}
use Rattle.std.proofs.Common.{sym, ap, ◌∙◌, ⊎_elim, arith, lt-ltb, le-ltb, leb-false}
use Rattle.std.proofs.lemmas.Bool.{lt-leb}
use Rattle.base.specs.common.laws.Decide.{lt_or_ge}
use Rattle.mesh.specs.Mesh.{pair_of, Mates, Paired}
use Rattle.cutting.specs.cuts.Named.{EdgeName, out, ray, opposite}
use Rattle.cutting.specs.cuts.laws.Naming.{opposite_twice}
use Rattle.cutting.specs.cuts.Whole.{Reversed}
use Rattle.cutting.specs.rings.Names.{on_hull, edge_of}

-- the pair and the hull of half-edges; past them each number is its own
abbrev pub pair_at : List ℕ → ℕ → ℕ
pair_at he o = cond (ltb o (length he)) (pair_of he o) o

abbrev pub hull_at : List ℕ → ℕ → Bool
hull_at he o = cond (ltb o (length he)) (on_hull he o) false

abbrev pub opposite_name : List ℕ → EdgeName → EdgeName
opposite_name he = opposite (pair_at he) (hull_at he)

module _ (tri he : List ℕ) (ok : Paired tri he) where
  pub pair_in : (o : ℕ) → o < length he → pair_at he o ≡ pair_of he o
  pair_in o l = ap (λ (b : Bool). cond b (pair_of he o) o) (lt-ltb o (length he) l)

  pub hull_in : (o : ℕ) → o < length he → hull_at he o ≡ on_hull he o
  hull_in o l = ap (λ (b : Bool). cond b (on_hull he o) false) (lt-ltb o (length he) l)

  -- the pair of a half-edge that has one
  pub mates : (o : ℕ) → o < length he → on_hull he o ≡ false → Mates tri he o (pair_of he o)
  mates o l h = ⊎_elim (λ w. absurd (omega (arith, ok.small, w, leb-false (length he) (pair_of he o) h))) (λ w. w) (ok.pairs o l)

  pair_inner : (o : ℕ) → o < length he → on_hull he o ≡ false → on_hull he (pair_of he o) ≡ false
  pair_inner o l h = lt-leb (length he) (pair_of he (pair_of he o)) (rw (mates o l h).back l)

  across : (o : ℕ) → hull_at he o ≡ false → (pair_at he (pair_at he o) ≡ o) × (hull_at he (pair_at he o) ≡ false)
  across o h = ⊎_elim
      (λ l. (let i = sym (hull_in o l) ∙ h in
      let m = mates o l i in
      (ap (pair_at he) (pair_in o l) ∙ pair_in (pair_of he o) m.inside ∙ m.back, ap (hull_at he) (pair_in o l) ∙ hull_in (pair_of he o) m.inside ∙ pair_inner o l i)))
      (λ l. (let q : pair_at he o ≡ o = ap (λ (b : Bool). cond b (pair_of he o) o) (le-ltb o (length he) l) in (ap (pair_at he) q ∙ q, ap (hull_at he) q ∙ h)))
      (lt_or_ge o (length he))

  pub twice_opposite : (n : EdgeName) → opposite_name he (opposite_name he n) ≡ n
  twice_opposite = opposite_twice (pair_at he) (hull_at he) across

  module _ {C K : Type 0} (first : ℕ → ℕ) (center end : ℕ → C) (on : ℕ → K) (line : K) (same : (o : ℕ) → o < length he → on_hull he o ≡ false → on (pair_of he o) ≡ on o) where
    pub out_reversed : (o : ℕ) → o < length he → Reversed (edge_of tri he first center end on line (out o)) (edge_of tri he first center end on line (opposite_name he (out o)))
    out_reversed o l = go (on_hull he o) refl
      where
        go : (b : Bool) → on_hull he o ≡ b → Reversed (edge_of tri he first center end on line (out o)) (edge_of tri he first center end on line (opposite_name he (out o)))
        go true h = rw (hull_in o l, h) (record { from = refl; to = refl; on = refl })
        go false h = rw (hull_in o l, h, pair_in o l) (record { from = refl; to = rw (pair_inner o l h, (mates o l h).back) refl; on = same o l h })

    pub ray_reversed : (o : ℕ) → o < length he → on_hull he o ≡ true → Reversed (edge_of tri he first center end on line (ray o)) (edge_of tri he first center end on line (opposite_name he (ray o)))
    ray_reversed o l h = rw (hull_in o l, h) (record { from = refl; to = rw h refl; on = refl })
