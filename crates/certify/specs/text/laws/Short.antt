-- How long the line of a kind is.
use Rattle.std.specs.Prelude.{Bool, true, false, List, [], ◌∷◌, ◌++◌, ℕ, ◌+◌, ◌≤◌, eqb, length}
use Rattle.std.proofs.Common.{arith, length-append}
use Rattle.base.specs.common.Pick.{pick}
use Rattle.octets.specs.Wrote.{HasRoom}
use Rattle.printing.specs.parts.Text.{ascii}
use Rattle.printing.specs.parts.Labelled.{entries}
use Rattle.printing.specs.parts.laws.Labelled.{entries_short}
use Rattle.certify.specs.text.CertifyLine.{last_text, pair_text, nearer_text, kind_text}

last_short : (n : ℕ) → length (last_text n) ≤ 12
unfolding last_text
last_short n = omega (arith, length-append (entries (n ∷ [])) (ascii "\n"), entries_short (n ∷ []))

pair_short : (label : List ℕ) (m n : ℕ) → length (pair_text label m n) ≤ length label + 23
unfolding pair_text
pair_short label m n = omega (arith, length-append (label ++ entries (m ∷ [])) (last_text n), length-append label (entries (m ∷ [])), entries_short (m ∷ []), last_short n)

nearer_short : (s v o : ℕ) → length (nearer_text s v o) ≤ 40
unfolding nearer_text
nearer_short s v o =
    omega (
      arith,
      length-append (ascii "nearer" ++ entries (s ∷ [])) (entries (v ∷ []) ++ last_text o),
      length-append (ascii "nearer") (entries (s ∷ [])),
      length-append (entries (v ∷ [])) (last_text o),
      entries_short (s ∷ []),
      entries_short (v ∷ []),
      last_short o,
    )

pub kind_short : (kind s v o : ℕ) → length (kind_text kind s v o) ≤ 40
unfolding kind_text
kind_short kind s v o = by (eqb kind 0) (eqb kind 1) (eqb kind 2) (eqb kind 3) (eqb kind 4)
  where
    by : (a b c d e : Bool) → length (pick a (λ _. ascii "certified\n") (λ _. pick b (λ _. pair_text (ascii "outside") s v)
        (λ _. pick c (λ _. pair_text (ascii "side") s v) (λ _. pick d (λ _. ascii "border\n")
        (λ _. pick e (λ _. nearer_text s v o) (λ _. pair_text (ascii "twin") s o)))))) ≤ 40
    by true b c d e = omega arith
    by false true c d e = omega (arith, pair_short (ascii "outside") s v)
    by false false true d e = omega (arith, pair_short (ascii "side") s v)
    by false false false true e = omega arith
    by false false false false true = nearer_short s v o
    by false false false false false = omega (arith, pair_short (ascii "twin") s o)

module _ (l : List ℕ) (kind s v o : ℕ) (h : 65536 ≤ length l) where
  pub kind_fits : HasRoom l 0 (kind_text kind s v o)
  kind_fits = omega (arith, kind_short kind s v o)

  pub kind_within : length (kind_text kind s v o) ≤ length l
  kind_within = omega (arith, kind_short kind s v o)
