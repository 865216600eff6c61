-- The line of a box by its record's bytes, and how long it is.
use Rattle.std.specs.Prelude.{◌≡◌, List, [], ◌∷◌, ◌++◌, reverse, ◌≢◌, ℕ, ◌≤◌, length, get_or, take, drop}
use Rattle.std.proofs.Common.{ap, ⊎_elim, arith, length-append, length-take, eq-eqb, ne_eqb}
use Rattle.std.proofs.lemmas.List.{length-reverse}
use Rattle.base.specs.common.laws.Decide.{eq_or_ne}
use Rattle.octets.specs.hex.Hex.{hex}
use Rattle.octets.specs.hex.laws.Hex.{hex_length}
use Rattle.printing.specs.parts.Text.{ascii}
use Rattle.printing.specs.parts.Labelled.{entries}
use Rattle.printing.specs.parts.laws.Labelled.{entries_short}
use Rattle.mend.specs.box_line.BoxLine.{pattern_text, pattern_texts, box_line}

pub box_none : (s : List ℕ) → length s ≢ 33 → box_line s ≡ []
unfolding box_line
box_none s h = rw (ne_eqb (length s) 33 h)

pub box_is : (s : List ℕ) → length s ≡ 33 → box_line s ≡ ascii "box 0: 6" ++ entries (get_or s 0 0 ∷ []) ++ pattern_texts (take 32 (drop 1 s)) ++ ascii "\n"
unfolding box_line
box_is s h = rw (eq-eqb (length s) 33 h)

pattern_short : (s : List ℕ) → length s ≤ 8 → length (pattern_text s) ≤ 17
pattern_short s h = omega (arith, length-append (ascii " ") (hex (reverse s)), hex_length (reverse s), length-reverse s)

patterns_short : (s : List ℕ) → length (pattern_texts s) ≤ 68
unfolding pattern_texts
patterns_short s =
    let a = pattern_text (take 8 s) in
    let b = pattern_text (take 8 (drop 8 s)) in
    let c = pattern_text (take 8 (drop 16 s)) in
    let d = pattern_text (take 8 (drop 24 s)) in
    omega (
      arith,
      length-append (a ++ b ++ c) d,
      length-append (a ++ b) c,
      length-append a b,
      pattern_short (take 8 s) (omega (arith, length-take 8 s)),
      pattern_short (take 8 (drop 8 s)) (omega (arith, length-take 8 (drop 8 s))),
      pattern_short (take 8 (drop 16 s)) (omega (arith, length-take 8 (drop 16 s))),
      pattern_short (take 8 (drop 24 s)) (omega (arith, length-take 8 (drop 24 s))),
    )

pub box_short : (s : List ℕ) → length (box_line s) ≤ 88
box_short s = ⊎_elim made (λ n. omega (arith, ap length (box_none s n))) (eq_or_ne (length s) 33)
  where
    made : length s ≡ 33 → length (box_line s) ≤ 88
    made e =
        let a = ascii "box 0: 6" ++ entries (get_or s 0 0 ∷ []) in
        let b = pattern_texts (take 32 (drop 1 s)) in
        omega (
          arith,
          ap length (box_is s e),
          length-append (a ++ b) (ascii "\n"),
          length-append a b,
          length-append (ascii "box 0: 6") (entries (get_or s 0 0 ∷ [])),
          entries_short (get_or s 0 0 ∷ []),
          patterns_short (take 32 (drop 1 s)),
        )
