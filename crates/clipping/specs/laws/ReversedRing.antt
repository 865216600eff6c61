-- The ring reversed and cyclic, place by place.
use Rattle.std.specs.Prelude.{ℕ, ◌+◌, ◌-◌, ◌≤◌, ◌<◌, ◌≡◌, take, drop}
use Rattle.std.proofs.Math.Path.{ap}
use Rattle.std.proofs.Common.{◌∙◌, length-append}
use mathlib.Core.List.{List, ◌++◌, reverse}
use native.Mathlib.Omega.{arith}
use Rattle.std.proofs.Math.ListN.{length, get_or, length-drop, length-reverse, get_or-append}
use Rattle.std.proofs.Math.Seq.{length-take-le, get_or-take, get_or-drop, get_or-append-add}
use Rattle.definition.specs.Cell.{turned}
use Rattle.build_laws.specs.laws.Reverse.{get_d_reverse}

module _ (f : ℕ) (ring : List ℕ) (h : f ≤ length ring) where
  front_length : length (reverse (take f ring)) ≡ f
  front_length = length-reverse (take f ring) ∙ length-take-le f ring h

  pub length_turned : length (turned f ring) ≡ length ring
  unfolding turned
  length_turned = rw (length-append (reverse (take f ring)) (reverse (drop f ring)), front_length, length-reverse (drop f ring), length-drop f ring) (omega arith)

  pub turned_front : (k : ℕ) → k < f → get_or (turned f ring) k 0 ≡ get_or ring (f - 1 - k) 0
  unfolding turned
  turned_front k l =
      let e = length-take-le f ring h in
      get_or-append (reverse (take f ring)) (reverse (drop f ring)) 0 k (rw front_length l)
      ∙ get_d_reverse (take f ring) k (rw e l)
      ∙ ap (λ (n : ℕ). get_or (take f ring) (n - 1 - k) 0) e
      ∙ get_or-take f ring (f - 1 - k) 0 (omega arith)

  pub turned_back : (k : ℕ) → f ≤ k → k < length ring → get_or (turned f ring) k 0 ≡ get_or ring (length ring - 1 - (k - f)) 0
  unfolding turned
  turned_back k l g =
      let n = length-drop f ring in
      let e : k ≡ length (reverse (take f ring)) + (k - f) = rw front_length (omega arith) in
      let i : f + (length ring - f - 1 - (k - f)) ≡ length ring - 1 - (k - f) = omega arith in
      ap (λ (j : ℕ). get_or (reverse (take f ring) ++ reverse (drop f ring)) j 0) e
      ∙ get_or-append-add (reverse (take f ring)) (reverse (drop f ring)) (k - f) 0
      ∙ get_d_reverse (drop f ring) (k - f) (rw n (omega arith))
      ∙ ap (λ (j : ℕ). get_or (drop f ring) (j - 1 - (k - f)) 0) n
      ∙ get_or-drop f ring (length ring - f - 1 - (k - f)) 0
      ∙ ap (λ (j : ℕ). get_or ring j 0) i
