-- The version of the C interface: 10000 times the first number, 100 times the second, and the third. tests/papers/papers.sh holds it to the file VERSION.
use Rattle.std.specs.Prelude.{ℕ, ◌+◌, ◌*◌}

abbrev pub version : ℕ
version = 10000 * 0 + 100 * 24 + 0
