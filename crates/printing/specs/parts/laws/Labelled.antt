-- One number after a blank, and how long numbers after blanks and labels are.
use Rattle.std.specs.Prelude.{◌≡◌, List, [], ◌∷◌, ℕ, ◌+◌, ◌*◌, ◌≤◌, length}
use Rattle.std.proofs.Common.{append-nil, arith, length-append}
use Prim.Native.String.{String}
use Rattle.printing.specs.parts.Text.{ascii, decimal}
use Rattle.printing.specs.parts.laws.Decimal.{decimal_short}
use Rattle.printing.specs.parts.Labelled.{entries, labelled, refusal}

pub entries_one : (v : ℕ) → entries (v ∷ []) ≡ 32 ∷ decimal v
unfolding entries
entries_one v = append-nil (32 ∷ decimal v)

pub entries_short : (l : List ℕ) → length (entries l) ≤ 11 * length l
unfolding entries
entries_short [] = omega arith
entries_short (v ∷ l) = omega (arith, length-append (decimal v) (entries l), decimal_short v, entries_short l)

pub labelled_short : (label : String) (n : ℕ) → length (labelled label n) ≤ length (ascii label) + 11
unfolding labelled
labelled_short label n = omega (arith, length-append (ascii label) (entries (n ∷ [])), entries_short (n ∷ []))

pub refusal_short : (n : ℕ) → length (refusal n) ≤ 19
unfolding refusal
refusal_short n = omega (arith, length-append (labelled "refused" n) (ascii "\n"), labelled_short "refused" n)
