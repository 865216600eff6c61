-- What the two steps on the lent slices leave.
use Rattle.std.specs.Prelude.{◌≡◌, List, ◌++◌, ℕ, length, replicate}
use Rattle.base.specs.numbers.Numbers.{EMPTY}
use Rattle.mending.specs.changes.Changes.{changes_of, flat_changes}
use Rattle.mending.specs.slices.Lent.{Lent, filled}

pub record ListedBoth (old new before after c c' : List ℕ) (p q : ℕ) : Type 0 where
  pub first : p ≡ length (changes_of old new)
  pub then : q ≡ length (changes_of before after)
  pub changes : c' ≡ filled (length c) (flat_changes (changes_of old new ++ changes_of before after))

pub record Cleared (old new : Lent) : Type 0 where
  pub work : new.work ≡ replicate (length old.work) EMPTY
  pub pairs : new.pairs ≡ replicate (length old.pairs) EMPTY
  pub mended : new.mended ≡ replicate (length old.mended) EMPTY
  pub changes : new.changes ≡ replicate (length old.changes) EMPTY
