-- The three answers are the cases of `lowest_of`, by its two tests.
use borrow.Author.Tests.{lt-ltb, le-ltb}
use Rattle.mesh_check.specs.border.Marks.{lowest_of}
use Rattle.mesh_check.proofs.border.lowest.Statement.{statement}
use Rattle.mesh_check.proofs.border.lowest.Tie as tie

returns : tie.Need-returns-then-sound
unfolding lowest_of
returns c = simp c.if-sound.true

returns-2 : tie.Need-returns-then-e-old
unfolding lowest_of
returns-2 c = simp (c.if-sound.false, lt-ltb _ _ c.if-e-old.true)

returns-3 : tie.Need-returns
unfolding lowest_of
returns-3 c = simp (c.if-sound.false, le-ltb _ _ c.if-e-old.false)

pub lowest_spec : {M : Type 1} → statement M
lowest_spec = tie.close (tie.spec returns returns-2 returns-3)
