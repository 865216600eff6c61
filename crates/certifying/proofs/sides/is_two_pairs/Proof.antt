-- `certifying::sides::is_two_pairs` meets its contract.
use mathlib.Core.Path.{sym}
use mathlib.Core.Logic.{inl, inr}
use Rattle.ring_area.specs.lowest.laws.Loops.{no_both}
use Rattle.certifying.proofs.sides.is_two_pairs.Statement.{statement}
use Rattle.certifying.proofs.sides.is_two_pairs.Tie as tie

abbrev Start : tie.After-is_turned → tie.Start
Start c = c.before.before.before

is_turned-requires : tie.Need-is_turned-requires
is_turned-requires c κs = let s = c in (s.requires.first, s.requires.second)

is_turned-requires-2 : tie.Need-is_turned-requires-then-is_turned
is_turned-requires-2 c κs = let s = Start c.before in (s.requires.third, s.requires.fourth)

returns : tie.Need-returns-then-is_turned
returns c = let i = c in λ e. inl (i.is_turned.ensures i.if-is_turned.true, c.is_turned-then-is_turned.ensures e)

is_turned-requires-3 : tie.Need-is_turned-requires-2
is_turned-requires-3 c κs = let s = Start c.before in (s.requires.first, s.requires.third)

is_turned-requires-4 : tie.Need-is_turned-requires-then-is_turned-2
is_turned-requires-4 c κs = let s = Start c.before.before.before in (s.requires.second, s.requires.fourth)

returns-2 : tie.Need-returns-then-is_turned-2
returns-2 c = let i = c in λ e. inr (inl (i.is_turned-2.ensures i.if-is_turned-2.true, c.is_turned-then-is_turned-2.ensures e))

is_turned-requires-5 : tie.Need-is_turned-requires-3
is_turned-requires-5 c κs = let s = Start c.before.before.before in (s.requires.first, s.requires.fourth)

is_turned-requires-6 : tie.Need-is_turned-requires-then-is_turned-3
is_turned-requires-6 c κs = let s = Start c.before.before.before.before.before in (s.requires.second, s.requires.third)

returns-3 : tie.Need-returns-then-is_turned-3
returns-3 c = let i = c in λ e. inr (inr (i.is_turned-3.ensures i.if-is_turned-3.true, c.is_turned-then-is_turned-3.ensures e))

returns-4 : tie.Need-returns
returns-4 c = λ e. absurd (no_both (sym e))

pub is_two_pairs_spec : {M : Type 1} → statement M
is_two_pairs_spec =
    tie.close
    (tie.spec is_turned-requires is_turned-requires-2 returns is_turned-requires-3 is_turned-requires-4 returns-2 is_turned-requires-5 is_turned-requires-6 returns-3 returns-4)
