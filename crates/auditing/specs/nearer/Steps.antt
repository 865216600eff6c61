-- What the steps owe each other. Definitions only.
use Rattle.std.specs.Prelude.{◌≡◌, Bool, true, List, ◌⊎◌, ℕ, ◌/◌, ◌<◌, Float, length}
use Rattle.arguments.specs.asking.Asks.{CellsOf}
use Rattle.arguments.specs.entries.Named.{EntriesNamed}
use Rattle.areas.specs.Promise.{entries_of_all}
use Rattle.auditing.specs.nearer.Nearer.{no_lists}

-- s and what it is held against are sites
pub record HeldNames (sites : List Float) (s : ℕ) (part : List ℕ) (all : Bool) : Type 0 where
  pub own : s < length sites / 2
  pub named : (all ≡ true) ⊎ EntriesNamed part (length sites / 2)

-- no lists, or the starts cut the others for each site; each other is a site
pub record HeldKept (sites : List Float) (starts others : List ℕ) : Type 0 where
  pub cut : (no_lists starts others ≡ true) ⊎ CellsOf starts others (length sites / 2)
  pub named : EntriesNamed (entries_of_all starts others) (length sites / 2)

-- the offsets cut the entries for each site; each entry is a vertex
pub record PiecesKept (sites v : List Float) (off ix : List ℕ) : Type 0 where
  pub cut : CellsOf off ix (length sites / 2)
  pub named : EntriesNamed (entries_of_all off ix) (length v / 2)
