-- `root::roots` meets its contract: where both are at least 0 by `both_bits`, else each by `root`.
use mathlib.Core.Path.{◌≡◌, sym, subst}
use mathlib.Core.Bool.{true}
use borrow.Author.Rules.{rules}
use lib.Dec.{T}
use lib.Ieee.{binary64, le, of_bits}
use Rattle.base.specs.common.Binary64 as B
use Rattle.base.specs.common.laws.And.{and_left, and_right}
use Rattle.root.specs.Root.{Root}
use Rattle.root.specs.laws.Tests.{up_no_nan, root_of_bits, root_no_nan_bits}
use Rattle.root.proofs.roots.Statement.{statement}
use Rattle.root.proofs.roots.Tie as tie

first-up : (c : tie.Then-x-y) → le B.zero c.before.args.x ≡ true
first-up c = and_left (le B.zero c.before.args.x) (le B.zero c.before.args.y) c.if-x-y.true

second-up : (c : tie.Then-x-y) → le B.zero c.before.args.y ≡ true
second-up c = and_right (le B.zero c.before.args.x) (le B.zero c.before.args.y) c.if-x-y.true

-- what `both_bits` says, of x and y themselves
said :
    (c : tie.After-both_bits-r)
    → Root c.before.before.args.x (of_bits binary64 c.both_bits-r.result.0) × Root c.before.before.args.y (of_bits binary64 c.both_bits-r.result.1)
said c =
    let good = c.before.before.well_formed in
    (root_of_bits _ _ (subst T (sym good.0.1) tt) c.both_bits-r.ensures.0, root_of_bits _ _ (subst T (sym good.1.0.1) tt) c.both_bits-r.ensures.1)

float_to_bits-both_bits : tie.Need-float_to_bits-x
float_to_bits-both_bits c = up_no_nan _ (first-up c)

float_to_bits-both_bits-2 : tie.Need-float_to_bits-y
float_to_bits-both_bits-2 c = up_no_nan _ (second-up c)

float_from_bits-t9 : tie.Need-float_from_bits-result
float_from_bits-t9 c = root_no_nan_bits _ _ (first-up c.before.before) (said c.before).0

float_from_bits-t10 : tie.Need-float_from_bits-result-then-x-y
float_from_bits-t10 c = root_no_nan_bits _ _ (second-up c.before.before.before) (said c.before.before).1

returns : tie.Need-returns-then-x-y
returns c = said c.before.before

pub roots_spec : {M : Type 1} → statement M
roots_spec =
    tie.close
    (tie.spec float_to_bits-both_bits float_to_bits-both_bits-2 (λ c κs. search rules) float_from_bits-t9 float_from_bits-t10 returns
    (λ c κs. search rules) (λ c κs. search rules) (λ c. search rules))
