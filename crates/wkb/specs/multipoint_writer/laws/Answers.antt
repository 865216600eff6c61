-- The answers of writing, from the tests that the code makes.
use Rattle.std.specs.Prelude.{◌≡◌, List, ◌≢◌, ℕ, ◌+◌, ◌*◌, ◌/◌, ◌%◌, ◌≤◌, ◌<◌, length, Float}
use Rattle.std.proofs.Common.{arith}
use Rattle.base.specs.common.Decide.{First}
use Rattle.base.specs.common.laws.Decide.{first_all, first_not}
use Rattle.base.specs.common.laws.Refusals.{breaks, keeps, nothing}
use Rattle.base.specs.numbers.Numbers.{refused_count, refused_room, refused_coordinate}
use Rattle.plane.specs.points.Sites.{KeptAt}
use Rattle.octets.specs.Wrote.{Wrote}
use Rattle.octets.specs.laws.Wrote.{wrote_none}
use Rattle.wkb.specs.multipoint.Promise.{SiteLimits}
use Rattle.wkb.specs.multipoint_writer.Promise.{file_of, WriteAnswer}

module _ (sites : List Float) (old : List ℕ) where
  pub odd_sites : length sites % 2 ≢ 0 → WriteAnswer sites old old 0 refused_count
  odd_sites q = record { number = breaks q; output = wrote_none old 0 }

  module _ (even : length sites % 2 ≡ 0) where
    pub not_so_many : (SiteLimits (length sites / 2) → ⊥) → WriteAnswer sites old old 0 refused_count
    not_so_many q = record { number = keeps even (breaks q); output = wrote_none old 0 }

    module _ (limits : SiteLimits (length sites / 2)) where
      pub too_short : length old < 9 + 21 * (length sites / 2) → WriteAnswer sites old old 0 refused_room
      too_short h = record { number = keeps even (keeps limits (breaks (λ l. omega arith))); output = wrote_none old 0 }

      module _ (room : 9 + 21 * (length sites / 2) ≤ length old) {bad : ℕ} (first : First (KeptAt sites) (length sites / 2) bad) where
        pub bad_site : bad < length sites / 2 → WriteAnswer sites old old 0 refused_coordinate
        bad_site h = record { number = keeps even (keeps limits (keeps room (breaks (first_not first h)))); output = wrote_none old 0 }

        pub was_written : {new : List ℕ} {w : ℕ} → length sites / 2 ≤ bad → Wrote old new 0 w (file_of sites) → WriteAnswer sites old new w 0
        was_written h p = record { number = keeps even (keeps limits (keeps room (keeps (first_all first h) nothing))); output = p }
