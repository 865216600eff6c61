-- Theorem: where each ordered pair of sites has at most one half-edge, the pairs that are worked out keep rule 8; a half-edge is left unpaired exactly
-- where none runs the other way.
use Rattle.std.specs.Prelude.{◌≡◌, List, ℕ, ◌<◌, length}
use Rattle.std.proofs.Common.{sym, ◌∙◌, inl, inr, ⊎_elim, arith}
use Rattle.base.specs.numbers.Numbers.{EMPTY}
use Rattle.mesh.specs.Mesh.{pair_of, AllPaired}
use Rattle.mending.specs.pairs.Pairs.{Reverse, mate_of, pairs_of, AllSingle}
use Rattle.mending.specs.pairs.laws.Mates.{mate_found, mate_is, single_one, pairs_length, pairs_at}

module _ (tri : List ℕ) (all : AllSingle tri) where
  -- the half-edge that runs the other way is the pair
  pub reverse_paired : (e d : ℕ) → e < length tri → d < length tri → Reverse tri e d → pair_of (pairs_of tri) e ≡ d
  reverse_paired e d l k r =
      pairs_at tri (length tri) e l ∙ mate_is tri e d k r (λ f h s. single_one tri all f d h k (s.0 ∙ sym r.0) (s.1 ∙ sym r.1))

  pub pairs_right : AllPaired tri (pairs_of tri)
  pairs_right e l =
      let q = pairs_at tri (length tri) e l in
      ⊎_elim
      (λ w. inl (q ∙ w.0))
      (λ w. inr (rw q (record {
        inside = rw (pairs_length tri (length tri)) w.0;
        back = reverse_paired (mate_of tri e) e w.0 l (sym w.1.1, sym w.1.0);
        from = w.1.0;
        to = w.1.1;
      })))
      (mate_found tri e (length tri))

-- no half-edge runs the other way
pub left_unpaired : (tri : List ℕ) (e : ℕ) → length tri < EMPTY → e < length tri → pair_of (pairs_of tri) e ≡ EMPTY → (d : ℕ) → d < length tri → Reverse tri e d → ⊥
left_unpaired tri e small l u =
    ⊎_elim (λ w. w.1) (λ w. absurd (above (sym (sym (pairs_at tri (length tri) e l) ∙ u)) w.0)) (mate_found tri e (length tri))
  where
    above : EMPTY ≡ mate_of tri e → mate_of tri e < length tri → ⊥
    above q h = omega arith
