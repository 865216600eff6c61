-- A share of the box in decimal: the share times 10 ^ 9, rounded once, is cut to a whole number of billionths; a whole part, a point and nine digits. Definitions only.
use Rattle.std.specs.Prelude.{ℕ, ◌+◌, ◌/◌, ◌%◌, true, false, List, ◌++◌, drop, pos, from_bits, nat_lt, Float}
use Rattle.std.specs.Float.{binary64, fin}
use Rattle.std.specs.Float.Ieee.{lt, le, neg, to_unsigned}
use Rattle.base.specs.common.Binary64.{◌⊠◌}
use Rattle.base.specs.common.Pick.{pick}
use Rattle.printing.specs.parts.Text.{ascii, decimal}

-- what is shown at most: the largest whole part of 32 bits, and nine nines
abbrev pub most : ℕ
most = 4294967295999999999

-- v without its fraction, above -1 and below 2 ^ 64; `most` beyond it, and for a NaN
unfoldable pub billionths : Float → ℕ
billionths v =
    pick (lt (fin true 1 (pos 0)) v) (λ _. pick (lt v (fin false 1 (pos 64))) (λ _. pick (nat_lt (to_unsigned 64 v) most) (λ _. to_unsigned 64 v) (λ _. most)) (λ _. most)) (λ _. most)

-- f in nine digits: those of 10 ^ 9 + f, with a point for the first
unfoldable pub fraction : ℕ → List ℕ
fraction f = ascii "." ++ drop 1 (decimal (1000000000 + f))

unfoldable pub pointed : ℕ → List ℕ
pointed n = decimal (n / 1000000000) ++ fraction (n % 1000000000)

-- 10 ^ 9 as a float
abbrev pub billion : Float
billion = from_bits binary64 0x41cd_cd65_0000_0000

-- below 0 where pieces overlap
unfoldable pub share_text : Float → List ℕ
share_text x =
    let v = x ⊠ billion in
    pick (le v (fin true 1 (pos 0))) (λ _. ascii "-" ++ pointed (billionths (neg v))) (λ _. pointed (billionths v))
