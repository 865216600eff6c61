-- The register holds the number of the bytes that came last.
use Rattle.std.specs.Prelude.{◌≡◌, List, [], ◌∷◌, ℕ, ◌+◌, ◌*◌, ◌/◌, ◌^◌, ◌<◌, length}
use Rattle.std.proofs.Common.{sym, ap, ◌∙◌, arith, pow-suc, mul_comm, div-one}
use Rattle.std.proofs.Math.Nat.{div-div-eq-div-mul}
use Rattle.octets.specs.Bytes.{Bytes, word, le}
use Rattle.octets.specs.laws.Bytes.{word_le}
use Rattle.form.specs.step.Register.{shift, shifts}

shift_is : (w b : ℕ) → shift w b ≡ (w + b * 2 ^ 64) / 256
shift_is w b = omega arith

shifts_are : (s : List ℕ) (w : ℕ) → shifts w s ≡ (w + 2 ^ 64 * word s) / 256 ^ length s
shifts_are [] w = sym (div-one _) ∙ ap (λ (n : ℕ). n / 1) (omega arith)
shifts_are (b ∷ s) w =
    let n = 256 ^ length s in
    let e : (w + b * 2 ^ 64) / 256 + 2 ^ 64 * word s ≡ (w + 2 ^ 64 * (b + 256 * word s)) / 256 = omega arith in
    shifts_are s (shift w b)
    ∙ ap (λ (x : ℕ). (x + 2 ^ 64 * word s) / n) (shift_is w b)
    ∙ ap (λ (x : ℕ). x / n) e
    ∙ div-div-eq-div-mul (w + 2 ^ 64 * (b + 256 * word s)) 256 n
    ∙ ap (λ (x : ℕ). (w + 2 ^ 64 * (b + 256 * word s)) / x) (mul_comm 256 n ∙ sym (pow-suc 256 (length s)))

pub shifts_small : (s : List ℕ) (w : ℕ) → w < 2 ^ 64 → Bytes s → shifts w s < 2 ^ 64
shifts_small [] w h g = h
shifts_small (b ∷ s) w h g = shifts_small s (shift w b) (omega arith) g.1

module _ (w : ℕ) (h : w < 2 ^ 64) where
  pub last_eight : (x : ℕ) → x < 2 ^ 64 → shifts w (le 8 x) ≡ x
  last_eight x g =
      let e : word (le 8 x) ≡ x = word_le 8 x g in
      shifts_are (le 8 x) w ∙ ap (λ (v : ℕ). (w + 2 ^ 64 * v) / 2 ^ 64) e ∙ omega arith

  pub last_four : (x : ℕ) → x < 2 ^ 32 → shifts w (le 4 x) / 2 ^ 32 ≡ x
  last_four x g =
      let e : word (le 4 x) ≡ x = word_le 4 x g in
      ap (λ (v : ℕ). v / 2 ^ 32) (shifts_are (le 4 x) w ∙ ap (λ (v : ℕ). (w + 2 ^ 64 * v) / 2 ^ 32) e) ∙ omega arith
