-- The texts of numbered things, one after the other: they grow at their end by one, and so does what a loop has written of them.
use Rattle.std.specs.Prelude.{◌≡◌, List, [], ◌++◌, ℕ, zero, suc, ◌+◌, ◌-◌, ◌≤◌, ◌<◌}
use Rattle.std.proofs.Common.{sym, ap, ◌∙◌, append_assoc, append-nil, arith, add-zero, zero-add, suc-add}
use Rattle.octets.specs.Wrote.{Wrote, HasRoom}
use Rattle.octets.specs.laws.Wrote.{Lined, lined_fits, lined_step}

-- of n things from thing i on
abbrev pub lines_from : (ℕ → List ℕ) → ℕ → ℕ → List ℕ
lines_from line i zero = []
lines_from line i (suc n) = line i ++ lines_from line (suc i) n

module _ (line : ℕ → List ℕ) where
  lines_append : (m n i : ℕ) → lines_from line i (m + n) ≡ lines_from line i m ++ lines_from line (i + m) n
  lines_append zero n i = rw (zero-add n, add-zero i)
  lines_append (suc m) n i =
      let e : suc i + m ≡ i + suc m = omega arith in
      rw (suc-add m n)
      (ap (λ (t : List ℕ). line i ++ t) (lines_append m n (suc i) ∙ ap (λ (k : ℕ). lines_from line (suc i) m ++ lines_from line k n) e)
      ∙ sym (append_assoc (line i) (lines_from line (suc i) m) (lines_from line (i + suc m) n)))

  lines_more : (i n : ℕ) → lines_from line i (n + 1) ≡ lines_from line i n ++ line (i + n)
  lines_more i n = lines_append n 1 i ∙ ap (λ (t : List ℕ). lines_from line i n ++ t) (append-nil (line (i + n)))

  lines_split : (i m n : ℕ) → m ≤ n → lines_from line i n ≡ lines_from line i m ++ lines_from line (i + m) (n - m)
  lines_split i m n h =
      let e : n ≡ m + (n - m) = omega arith in
      ap (lines_from line i) e ∙ lines_append m (n - m) i

-- i of them are written, and the next is that of thing k
module _ (line : ℕ → List ℕ) {from n : ℕ} {l m : List ℕ} {at end i : ℕ} (p : Lined (lines_from line from) n l m at end i) (h : i < n) {k : ℕ} (q : from + i ≡ k) where
  grown : lines_from line from (i + 1) ≡ lines_from line from i ++ line k
  grown = rw q at (lines_more line from i)

  pub line_fits : HasRoom l at (lines_from line from n) → HasRoom m end (line k)
  line_fits = lined_fits p (line k) (lines_from line (from + (i + 1)) (n - (i + 1))) grown (lines_split line from (i + 1) n (omega arith))

  pub line_written : {m' : List ℕ} {end' : ℕ} → Wrote m m' end end' (line k) → Lined (lines_from line from) n l m' at end' (i + 1)
  line_written = lined_step p (line k) h grown
