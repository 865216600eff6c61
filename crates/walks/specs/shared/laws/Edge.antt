-- The shared edge by its tests; the values as the code has them.
use Rattle.std.specs.Prelude.{◌≡◌, List, ℕ, ◌+◌, ◌*◌, ◌≤◌, ◌<◌, length}
use borrow.Author.Tests.{lt-ltb, le-ltb}
use Rattle.base.specs.numbers.Numbers.{EMPTY}
use Rattle.walks.specs.shared.Edge.{names_of, first_of, shared_edge_of}

module _ (he : List ℕ) (a b : ℕ) where
  pub no_first : (x : ℕ) → x ≡ a → length he ≤ 3 * x → EMPTY ≡ shared_edge_of he a b
  unfolding shared_edge_of
  no_first x q h = rw (← q, le-ltb (3 * x) (length he) h)

  pub no_second : (x f y : ℕ) → x ≡ a → 3 * x < length he → y ≡ b → f ≡ 3 * y → length he ≤ f → EMPTY ≡ shared_edge_of he a b
  unfolding shared_edge_of
  no_second x f y q l p e h = rw (← q, ← p, ← e, lt-ltb (3 * x) (length he) l, le-ltb f (length he) h)

  pub both_there : (x f y : ℕ) → x ≡ a → 3 * x < length he → y ≡ b → f ≡ 3 * y → f < length he
      → first_of (3 * a) (names_of he f (3 * a)) (names_of he f (3 * a + 1)) (names_of he f (3 * a + 2)) ≡ shared_edge_of he a b
  unfolding shared_edge_of
  both_there x f y q l p e h = rw (← q, ← p, ← e, lt-ltb (3 * x) (length he) l, lt-ltb f (length he) h)
