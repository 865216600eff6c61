-- The loop that writes a number: after i bytes the rest of the number has the bytes that are left.
use Rattle.std.specs.Prelude.{◌≡◌, List, ◌∷◌, ℕ, suc, ◌+◌, ◌-◌, ◌/◌, ◌%◌, ◌≤◌, ◌<◌, length, get_or, set, drop}
use Rattle.std.proofs.Common.{sym, ap, ◌∙◌, arith, add-one, drop-cons}
use Rattle.octets.specs.Bytes.{le}
use Rattle.octets.specs.Wrote.{Wrote}
use Rattle.octets.specs.laws.Bytes.{length_le}
use Rattle.octets.specs.laws.Wrote.{Putting, putting_start, putting_step, putting_end}

pub record Spelling (l m : List ℕ) (at n x i rest : ℕ) : Type 0 where
  pub put : Putting l m at (le n x) i
  pub left : drop i (le n x) ≡ le (n - i) rest

pub spelling_start : (l : List ℕ) (at n x : ℕ) → Spelling l l at n x 0 x
spelling_start l at n x =
    let e : n ≡ n - 0 = omega arith in
    record { put = putting_start l at (le n x); left = ap (λ (a : ℕ). le a x) e }

module _ {l m : List ℕ} {at n x i rest : ℕ} (p : Spelling l m at n x i rest) where
  pub spelt : i ≤ n
  spelt = omega (arith, p.put.within, length_le n x)

  pub spelling_step : {j v : ℕ} → i < n → j ≡ at + i → v ≡ rest % 256 → Spelling l (set m j v) at n x (i + 1) (rest / 256)
  spelling_step {j} {v} h e f =
      let long : i < length (le n x) = omega (arith, length_le n x) in
      let k : n - i ≡ suc (n - suc i) = omega arith in
      let now : le (n - i) rest ≡ rest % 256 ∷ le (n - suc i) (rest / 256) = ap (λ (a : ℕ). le a rest) k in
      let cut : get_or (le n x) i 0 ∷ drop (suc i) (le n x) ≡ rest % 256 ∷ le (n - suc i) (rest / 256) = sym (drop-cons (le n x) i 0 long) ∙ p.left ∙ now in
      let byte : get_or (le n x) i 0 ≡ rest % 256 = ap (λ (s : List ℕ). get_or s 0 0) cut in
      let next : drop (suc i) (le n x) ≡ le (n - suc i) (rest / 256) = ap (λ (s : List ℕ). drop 1 s) cut in
      record {
        put = rw (e, f, ← byte) (putting_step p.put long);
        left = rw (add-one i) next;
      }

  pub spelling_end : n ≤ i → Wrote l m at (at + i) (le n x)
  spelling_end h = putting_end p.put (omega (arith, length_le n x))
