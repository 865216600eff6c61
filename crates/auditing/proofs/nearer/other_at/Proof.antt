-- `auditing::nearer::other_at` meets its contract.
use native.Mathlib.Omega.{arith}
use Rattle.auditing.specs.nearer.laws.Pieces.{other_all, other_listed, other_listed_there}
use borrow.Author.Rules.{rules}
use Rattle.auditing.proofs.nearer.other_at.Statement.{statement}
use Rattle.auditing.proofs.nearer.other_at.Tie as tie

returns : tie.Need-returns-then-all
returns c = let s = c in other_all s.args.all s.args.part.now s.args.j c.if-all.true

mul_wide : tie.Need-offset_bounds-part-j
mul_wide c = let s = c in omega (arith, other_listed_there s.args.all s.requires c.if-all.false)

shared_slice_read-wide : tie.Need-bounds-part-j
shared_slice_read-wide c = let s = c in other_listed_there s.args.all s.requires c.if-all.false

returns-2 : tie.Need-returns
returns-2 c = let s = c in other_listed s.args.all s.args.part.now s.args.j c.if-all.false c.wide.ensures

pub other_at_spec : {M : Type 1} → statement M
other_at_spec =
    tie.close (tie.spec returns mul_wide shared_slice_read-wide (λ c κs. search rules) returns-2)
