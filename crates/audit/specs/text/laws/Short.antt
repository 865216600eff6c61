-- How long the lines are.
use Rattle.std.specs.Prelude.{ℕ, ◌+◌, ◌/◌, ◌%◌, ◌≤◌, Bool, true, false, List, [], ◌∷◌, ◌++◌, length, drop, pos, ◌==◌, Float, Ok, Err}
use Rattle.std.proofs.Common.{arith, length-append, length-drop}
use Rattle.std.specs.Float.{fin}
use Rattle.std.specs.Float.Ieee.{le, neg}
use Rattle.base.specs.common.Binary64.{◌⊠◌}
use Rattle.base.specs.common.Pick.{pick}
use Rattle.printing.specs.parts.Text.{ascii, decimal}
use Rattle.printing.specs.parts.Labelled.{entries}
use Rattle.printing.specs.parts.laws.Decimal.{decimal_short}
use Rattle.printing.specs.parts.laws.Labelled.{entries_short}
use Rattle.auditing.specs.Verdict.{AuditVerdict}
use Rattle.auditing.specs.declared.AuditFault.TheVariants.{Ring, Outside, Nearer, Uncovered, Twin}
use Rattle.audit.specs.text.Share.{billionths, fraction, pointed, billion, share_text}
use Rattle.audit.specs.text.AuditLines.{labelled_line, pair_line, triple_line, missing_line, verdict_line, turned_line, audit_lines}

number_short : (label : List ℕ) (n : ℕ) (end : List ℕ) → length (labelled_line label n end) ≤ length label + 11 + length end
unfolding labelled_line
number_short label n end = omega (arith, length-append (label ++ entries (n ∷ [])) end, length-append label (entries (n ∷ [])), entries_short (n ∷ []))

pair_short : (first : List ℕ) (m : ℕ) (second : List ℕ) (n : ℕ) (end : List ℕ) → length (pair_line first m second n end) ≤ length first + length second + 22 + length end
unfolding pair_line
pair_short first m second n end =
    omega (arith, length-append (first ++ entries (m ∷ [])) (labelled_line second n end), length-append first (entries (m ∷ [])), entries_short (m ∷ []), number_short second n end)

triple_short : (first : List ℕ) (l : ℕ) (second : List ℕ) (m : ℕ) (third : List ℕ) (n : ℕ)
    → length (triple_line first l second m third n) ≤ length first + length second + length third + 34
unfolding triple_line
triple_short first l second m third n =
    omega (
      arith,
      length-append (first ++ entries (l ∷ [])) (pair_line second m third n (ascii "\n")),
      length-append first (entries (l ∷ [])),
      entries_short (l ∷ []),
      pair_short second m third n (ascii "\n"),
    )

pointed_short : (n : ℕ) → length (pointed n) ≤ 21
unfolding pointed fraction
pointed_short n =
    let d = decimal (1000000000 + n % 1000000000) in
    omega (
      arith,
      length-append (decimal (n / 1000000000)) (ascii "." ++ drop 1 d),
      decimal_short (n / 1000000000),
      length-append (ascii ".") (drop 1 d),
      length-drop 1 d,
      decimal_short (1000000000 + n % 1000000000),
    )

share_short : (x : Float) → length (share_text x) ≤ 22
unfolding share_text
share_short x = by (le (x ⊠ billion) (fin true 1 (pos 0)))
  where
    by : (t : Bool) → length (pick t (λ _. ascii "-" ++ pointed (billionths (neg (x ⊠ billion)))) (λ _. pointed (billionths (x ⊠ billion)))) ≤ 22
    by true = omega (arith, length-append (ascii "-") (pointed (billionths (neg (x ⊠ billion)))), pointed_short (billionths (neg (x ⊠ billion))))
    by false = omega (arith, pointed_short (billionths (x ⊠ billion)))

missing_short : (x : Float) → length (missing_line x) ≤ 31
unfolding missing_line
missing_short x = omega (arith, length-append (ascii "missing " ++ share_text x) (ascii "\n"), length-append (ascii "missing ") (share_text x), share_short x)

verdict_short : (t : AuditVerdict) (x : Float) → length (verdict_line t x) ≤ 80
verdict_short (Ok _) x = omega arith
verdict_short (Err (Ring s)) x = omega (arith, number_short (ascii "site") s (ascii ": its piece does not run once round, the right way\n"))
verdict_short (Err (Outside s e)) x = omega (arith, pair_short (ascii "site") s (ascii ": vertex") e (ascii " is outside the box\n"))
verdict_short (Err (Nearer s e o)) x = omega (arith, triple_short (ascii "site") s (ascii ": vertex") e (ascii " is nearer to site") o)
verdict_short (Err Uncovered) x = omega (arith, missing_short x)
verdict_short (Err (Twin s o)) x = omega (arith, pair_short (ascii "sites") o (ascii " and") s (ascii " stand at one place\n"))

turned_short : (count total low : ℕ) → length (turned_line count total low) ≤ 70
unfolding turned_line
turned_short count total low = by (count == 0)
  where
    by : (t : Bool) → length (pick t (λ _. []) (λ _. triple_line (ascii "turned") count (ascii " of") total (ascii " triangles, lowest") low)) ≤ 70
    by true = omega arith
    by false = omega (arith, triple_short (ascii "turned") count (ascii " of") total (ascii " triangles, lowest") low)

pub lines_short : (count total low : ℕ) (t : AuditVerdict) (x : Float) → length (audit_lines count total low t x) ≤ 150
unfolding audit_lines
lines_short count total low t x =
    omega (arith, length-append (turned_line count total low) (verdict_line t x), turned_short count total low, verdict_short t x)
