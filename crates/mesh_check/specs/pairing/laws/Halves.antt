-- Where the half holds of each half-edge, each is paired: the pair of its pair starts where that one ends.
use Rattle.std.specs.Prelude.{◌≡◌, List, ℕ, ◌<◌, length}
use Rattle.std.proofs.Common.{sym, ◌∙◌, ap, inl, inr, ⊎_elim, arith}
use Rattle.base.specs.common.Decide.{First}
use Rattle.base.specs.numbers.Numbers.{EMPTY}
use Rattle.mesh.specs.Mesh.{start_of, end_of, pair_of, PairedAt, AllPaired}
use Rattle.mesh_check.specs.pairing.Half.{HalfMates, HalfPairedAt}

module _ (tri he : List ℕ) (same : length he ≡ length tri) (small : length tri < EMPTY) (all : (e : ℕ) → e < length tri → HalfPairedAt tri he e) where
  -- the pair p of half-edge e ends where e starts
  half_end : (e p : ℕ) → e < length tri → HalfMates tri he e p → end_of tri p ≡ start_of tri e
  half_end e p l j =
      ⊎_elim
      (λ q. absurd (omega (arith, j.back, q)))
      (λ k. sym k.from ∙ ap (start_of tri) j.back)
      (all p (rw (← same) j.inside))

  pub halves_paired : AllPaired tri he
  halves_paired e l =
      ⊎_elim
      inl
      (λ j. inr (record { inside = j.inside; back = j.back; from = j.from; to = half_end e (pair_of he e) l j }))
      (all e l)

pub paired_first : (tri he : List ℕ) → AllPaired tri he → First (PairedAt tri he) (length tri) (length tri)
paired_first tri he h = record { within = omega arith; before = h; at = λ l. absurd (omega arith) }
