-- `vertices::buckets::find` meets its contract: the chain of the point's bucket has all that is near among those that are chained, and the others are tried one by one.
use Rattle.std.proofs.Common.{ℕ, ◌≡◌, ◌-◌, ◌≤◌, min, arith}
use Rattle.vertices.specs.buckets.laws.Chains.{chained, found_inserted, found_past}
use Rattle.vertices.proofs.buckets.find.Goals as goal

few_of : {h : ℕ} (c l : ℕ) → h ≡ min c l → h ≤ c
few_of c l e = omega arith

pub in_chain-i-requires : goal.in_chain-i-requires
in_chain-i-requires c =
    let a = c.requires in
    chained a.holds a.home_of c.heads_in-heads.ensures c.if-heads-eq0.false c.min-inserted.ensures c.if-there.true

pub returns-then-i-centers-clause-value : goal.returns-then-i-centers-clause-value
returns-then-i-centers-clause-value c =
    let few = few_of (c.args.count - c.args.centers) _ c.min-inserted.ensures in
    found_inserted c.args.vertices.now c.args.p c.requires.holds.centers few c.in_chain-i.ensures c.if-i-centers.true

pub returns-then-there-clause-value : goal.returns-then-there-clause-value
returns-then-there-clause-value c =
    let few = few_of (c.args.count - c.args.centers) _ c.min-inserted.ensures in
    found_past c.args.vertices.now c.args.p c.requires.holds.centers few c.in_chain-i.ensures c.if-i-centers.false c.find_near-then-there.ensures.value
