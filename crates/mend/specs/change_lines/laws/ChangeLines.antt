-- The lines of changes as a loop writes them, and their length, which is bounded by their number.
use Rattle.std.specs.Prelude.{◌≡◌, refl, Bool, true, false, List, [], ◌∷◌, ◌++◌, ◌≢◌, ℕ, zero, suc, ◌+◌, ◌*◌, ◌≤◌, eqb, length, get_or}
use Rattle.std.proofs.Common.{ap, arith, eq-eqb, ne_eqb, length-append}
use Rattle.base.specs.common.Pick.{pick}
use Rattle.base.specs.numbers.Numbers.{EMPTY}
use Rattle.octets.specs.laws.Lines.{lines_from}
use Rattle.printing.specs.parts.Text.{ascii}
use Rattle.printing.specs.parts.Labelled.{entries, labelled}
use Rattle.printing.specs.parts.laws.Labelled.{entries_short, labelled_short}
use Rattle.mend.specs.change_lines.ChangeLines.{or_none, change_line, line_at, change_lines, counts_line}

-- ---- a value

pub is_none_lem : (v : ℕ) → v ≡ EMPTY → or_none v ≡ ascii " none"
unfolding or_none
is_none_lem v e = rw (eq-eqb v EMPTY e)

pub is_some : (v : ℕ) → v ≢ EMPTY → or_none v ≡ entries (v ∷ [])
unfolding or_none
is_some v n = rw (ne_eqb v EMPTY n)

-- ---- lines

-- as a loop writes them
pub lines_are : (label cs : List ℕ) (n i : ℕ) → change_lines label cs i n ≡ lines_from (line_at label cs) i n
unfolding change_lines
lines_are label cs zero i = refl
lines_are label cs (suc n) i = ap (λ (t : List ℕ). line_at label cs i ++ t) (lines_are label cs n (suc i))

-- a list that begins with one change more
pub lines_shift : (label : List ℕ) (a b c : ℕ) (cs : List ℕ) (n i : ℕ) → change_lines label (a ∷ b ∷ c ∷ cs) (suc i) n ≡ change_lines label cs i n
unfolding change_lines
lines_shift label a b c cs zero i = refl
lines_shift label a b c cs (suc n) i =
    let x : 3 * suc i ≡ suc (suc (suc (3 * i))) = omega arith in
    let y : 3 * suc i + 1 ≡ suc (suc (suc (3 * i + 1))) = omega arith in
    let z : 3 * suc i + 2 ≡ suc (suc (suc (3 * i + 2))) = omega arith in
    rw (y, z, x, lines_shift label a b c cs n (suc i))

-- ---- lengths

value_short : (v : ℕ) → length (or_none v) ≤ 11
unfolding or_none
value_short v = go (eqb v EMPTY)
  where
    go : (t : Bool) → length (pick t (λ _. ascii " none") (λ _. entries (v ∷ []))) ≤ 11
    go true = omega arith
    go false = omega (arith, entries_short (v ∷ []))

line_short : (label : List ℕ) (place old new : ℕ) → length label ≤ 4 → length (change_line label place old new) ≤ 39
unfolding change_line
line_short label place old new h =
    let a = label ++ entries (place ∷ []) in
    let b = a ++ ascii ":" in
    let v = or_none old ++ or_none new in
    omega (
      arith,
      length-append (b ++ v) (ascii "\n"),
      length-append b v,
      length-append a (ascii ":"),
      length-append label (entries (place ∷ [])),
      length-append (or_none old) (or_none new),
      entries_short (place ∷ []),
      value_short old,
      value_short new,
    )

pub lines_short : (label cs : List ℕ) → length label ≤ 4 → (n i : ℕ) → length (change_lines label cs i n) ≤ 39 * n
unfolding change_lines
lines_short label cs h zero i = omega arith
lines_short label cs h (suc n) i =
    omega (
      arith,
      length-append (line_at label cs i) (change_lines label cs (suc i) n),
      line_short label (get_or cs (3 * i) 0) (get_or cs (3 * i + 1) 0) (get_or cs (3 * i + 2) 0) h,
      lines_short label cs h n (suc i),
    )

pub counts_short : (p q : ℕ) → length (counts_line p q) ≤ 33
unfolding counts_line
counts_short p q =
    let x = labelled "pairs" p in
    let y = labelled " hull" q in
    omega (arith, length-append (x ++ y) (ascii "\n"), length-append x y, labelled_short "pairs" p, labelled_short " hull" q)
