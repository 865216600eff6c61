-- `certifying::sides::is_surplus` meets its contract.
use Rattle.certifying.specs.sides.laws.Walking.{surplus_none, surplus_is}
use Rattle.certifying.specs.sides.laws.Inserting.{side_safe, side_to}
use Rattle.certifying.specs.sides.Chains.{laid_ends}
use native.Mathlib.Omega.{arith}
use borrow.Author.Rules.{rules}
use Rattle.certifying.proofs.sides.is_surplus.Statement.{statement}
use Rattle.certifying.proofs.sides.is_surplus.Tie as tie

side_at-requires : tie.Need-side_at-side-requires
side_at-requires c κs = side_safe c.requires.1.lie c.requires.0

returns : tie.Need-returns-then-is_along
returns c =
    let sd = c in
    let s = sd in
    surplus_none _ s.args.vertices.now s.args.indexes.now (laid_ends s.args.work.now s.args.count) s.args.count sd.side_at-side.ensures.0
    (side_to s.requires.1.lie s.requires.0 sd.side_at-side.ensures.1) c.is_along.ensures c.if-is_along.true

count_ways-requires : tie.Need-count_ways-w-requires
count_ways-requires c κs = let s = c in (omega (arith, s.requires.0), s.requires.1)

returns-2 : tie.Need-returns
returns-2 c =
    let al = c in
    let s = al in
    surplus_is _ s.args.vertices.now s.args.indexes.now (laid_ends s.args.work.now s.args.count) s.args.count al.side_at-side.ensures.0
    (side_to s.requires.1.lie s.requires.0 al.side_at-side.ensures.1) al.is_along.ensures c.if-is_along.false c.count_ways-w.ensures

pub is_surplus_spec : {M : Type 1} → statement M
is_surplus_spec =
    tie.close (tie.spec side_at-requires (λ c κs. search rules) returns count_ways-requires returns-2)
