-- `reader::roomy` meets its contract: each `return` is one of the definition's cases.
use borrow.Author.Tests.{lt-ltb, le-ltb}
use Rattle.reader.specs.Calls.{roomy}
use Rattle.reader.proofs.roomy.Statement.{statement}
use Rattle.reader.proofs.roomy.Tie as tie

returns : tie.Need-returns-then-bounds-lt4
unfolding roomy
returns c = rw (lt-ltb _ _ c.if-bounds-lt4.true)

returns-2 : tie.Need-returns-then-sites-lt-COORDINATES
unfolding roomy
returns-2 c = rw (le-ltb _ _ c.if-bounds-lt4.false, lt-ltb _ _ c.if-sites-lt-COORDINATES.true)

returns-3 : tie.Need-returns-then-triangles-lt-LINKS
unfolding roomy
returns-3 c = rw (le-ltb _ _ c.if-bounds-lt4.false, le-ltb _ _ c.if-sites-lt-COORDINATES.false, lt-ltb _ _ c.if-triangles-lt-LINKS.true)

returns-4 : tie.Need-returns-then-halfedges-lt-LINKS
unfolding roomy
returns-4 c = rw (le-ltb _ _ c.if-bounds-lt4.false, le-ltb _ _ c.if-sites-lt-COORDINATES.false, le-ltb _ _ c.if-triangles-lt-LINKS.false, lt-ltb _ _ c.if-halfedges-lt-LINKS.true)

returns-5 : tie.Need-returns
unfolding roomy
returns-5 c = rw (le-ltb _ _ c.if-bounds-lt4.false, le-ltb _ _ c.if-sites-lt-COORDINATES.false, le-ltb _ _ c.if-triangles-lt-LINKS.false, le-ltb _ _ c.if-halfedges-lt-LINKS.false)

pub roomy_spec : {M : Type 1} → statement M
roomy_spec =
    tie.close
    (tie.spec returns returns-2 returns-3 returns-4 returns-5)
