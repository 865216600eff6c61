-- `reader::standing::valid_place` meets its contract: each `return` is one of the definition's cases.
use Prim.Native.Nat.{◌≤◌, ◌<◌}
use native.Mathlib.Omega.{arith}
use borrow.Author.Tests.{lt-ltb, le-ltb}
use Rattle.form.specs.step.Standing.{body_of}
use Rattle.reader.specs.standing.Stands.{valid_place}
use Rattle.reader.specs.standing.laws.Stands.{valid_counts_told}
use borrow.Author.Rules.{rules}
use Rattle.reader.proofs.standing.valid_place.Statement.{statement}
use Rattle.reader.proofs.standing.valid_place.Tie as tie

returns : tie.Need-returns-then-body_of-r
unfolding valid_place
returns c =
    let r = c.args.r in
    let h : body_of r < r.left = omega (arith, c.body_of.ensures, c.if-body_of-r.true) in
    rw (lt-ltb _ _ h)

returns-2 : tie.Need-returns
unfolding valid_place
returns-2 c =
    let r = c.args.r in
    let h : r.left ≤ body_of r = omega (arith, c.body_of.ensures, c.if-body_of-r.false) in
    rw (le-ltb _ _ h, c.kinds.ensures.0, c.bodies.ensures.0)

pub valid_place_spec : {M : Type 1} → statement M
valid_place_spec =
    tie.close
    (tie.spec (λ c κs. search rules) returns (λ c. let f = valid_counts_told _ c.before.before.before.before.requires in omega arith) (λ c κs. search rules) (λ c κs. search rules)
    (λ c. omega (arith, c.bodies.ensures.1, c.before.kinds.ensures.1)) returns-2)
