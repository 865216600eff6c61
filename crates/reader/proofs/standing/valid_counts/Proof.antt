-- `reader::standing::valid_counts` meets its contract: each `return` is one of the definition's cases.
use borrow.Author.Tests.{lt-ltb, le-ltb}
use Rattle.reader.specs.standing.Stands.{valid_counts}
use Rattle.reader.proofs.standing.valid_counts.Statement.{statement}
use Rattle.reader.proofs.standing.valid_counts.Tie as tie

returns : tie.Need-returns-then-r-gt5
unfolding valid_counts
returns c = rw (lt-ltb _ _ c.if-r-gt5.true)

returns-2 : tie.Need-returns-then-r
unfolding valid_counts
returns-2 c = rw (le-ltb _ _ c.if-r-gt5.false, lt-ltb _ _ c.if-r.true)

returns-3 : tie.Need-returns-then-r-2
unfolding valid_counts
returns-3 c = rw (le-ltb _ _ c.if-r-gt5.false, le-ltb _ _ c.if-r.false, lt-ltb _ _ c.if-r-2.true)

returns-4 : tie.Need-returns-then-r-3
unfolding valid_counts
returns-4 c =
    rw (
      le-ltb _ _ c.if-r-gt5.false,
      le-ltb _ _ c.if-r.false,
      le-ltb _ _ c.if-r-2.false,
      lt-ltb _ _ c.if-r-3.true,
    )

returns-5 : tie.Need-returns-then-r-gt32
unfolding valid_counts
returns-5 c =
    let e = c in
    rw (
      le-ltb _ _ e.if-r-gt5.false,
      le-ltb _ _ e.if-r.false,
      le-ltb _ _ e.if-r-2.false,
      le-ltb _ _ c.if-r-3.false,
      lt-ltb _ _ c.if-r-gt32.true,
    )

returns-6 : tie.Need-returns
unfolding valid_counts
returns-6 c =
    let e = c in
    rw (
      le-ltb _ _ e.if-r-gt5.false,
      le-ltb _ _ e.if-r.false,
      le-ltb _ _ e.if-r-2.false,
      le-ltb _ _ c.if-r-3.false,
      le-ltb _ _ c.if-r-gt32.false,
    )

pub valid_counts_spec : {M : Type 1} → statement M
valid_counts_spec = tie.close (tie.spec returns returns-2 returns-3 returns-4 returns-5 returns-6)
