-- A site is in debt exactly where its walk is shorter than its half-edges are many, and that is where one of them is not reached.
use native.Mathlib.Nat.{lt_of_lt_of_le}
use borrow.Author.Rules.{rules}
use Rattle.mesh_check.specs.fan.laws.Loops.{broken_first}
use Rattle.mesh_check.proofs.fan.first_broken.Statement.{statement}
use Rattle.mesh_check.proofs.fan.first_broken.Tie as tie

abbrev Start : tie.After-count_off-arg-1 → tie.Start
Start c = c.before.before.before.before.before.before.before.before

count_off-requires : tie.Need-count_off-requires
count_off-requires c κs = (rw (← (Start c).requires.0) (Start c).requires.1.threes, λ k l. rw c.lengths.auto.work (lt_of_lt_of_le ((Start c).requires.3 k l) (Start c).requires.2))

returns : tie.Need-returns
returns c =
    let at-count-off = c in
    let s = Start at-count-off.before.before.before.before in
    let counted = at-count-off.count_off.ensures in (
      broken_first _ _ _ _ s.requires.0 s.requires.1 s.requires.2 s.requires.3 _ _ _ _ s.requires.4 at-count-off.lengths.ensures
          counted c.first_owing.ensures,
      (_, at-count-off.lengths.ensures, counted),
    )

pub first_broken_spec : {M : Type 1} → statement M
first_broken_spec =
    tie.close
    (tie.spec (λ c κs. search rules) count_off-requires (λ c κs. search rules) (λ c. search rules) returns)
