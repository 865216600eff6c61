-- Bytes of numbers in either order: little-endian, the lowest byte first, or big-endian, the highest first. Definitions only.
use Rattle.std.specs.Prelude.{Bool, true, false, List, reverse, ℕ}
use Rattle.octets.specs.Bytes.{word, le}

-- the n lowest bytes of x
abbrev pub spelt : Bool → ℕ → ℕ → List ℕ
spelt true n x = le n x
spelt false n x = reverse (le n x)

-- the number that bytes are
abbrev pub word_in : Bool → List ℕ → ℕ
word_in true s = word s
word_in false s = word (reverse s)
