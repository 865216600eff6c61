-- `root::two_roots::nearest_roots` meets its contract. The loop keeps that both slips are pages of the schoolbook (`Slips`), and its measure is the next digit's weight.
use native.Mathlib.Omega.{arith}
use borrow.Author.Rules.{rules}
use Rattle.root.specs.two_roots.Slip.{Slips}
use Rattle.root.specs.two_roots.laws.Slips.{slips_start, slips_next, slips_room, slips_end}
use Rattle.root.proofs.two_roots.nearest_roots.Statement.{statement}
use Rattle.root.proofs.two_roots.nearest_roots.Tie as tie

abbrev invariant-loop : tie.invariant-loop-weight
invariant-loop m n p₀ q₀ weight₀ p q weight = Slips m n weight p q

abbrev decreases-loop : tie.decreases-loop-weight
decreases-loop m n p₀ q₀ weight₀ p q weight = weight

loop-holds : tie.Need-loop-weight-init invariant-loop decreases-loop
loop-holds c = slips_start _ _

next_slip-requires : tie.Need-next_slip-p-requires invariant-loop decreases-loop
next_slip-requires c κs = (slips_room c.before.loop-weight.invariant c.loop-weight-test.true c.before.before.requires.0.1 c.before.before.requires.1.1).0

next_slip-requires-2 : tie.Need-next_slip-q-requires invariant-loop decreases-loop
next_slip-requires-2 c κs =
    let l = c.before in
    (slips_room l.before.loop-weight.invariant l.loop-weight-test.true l.before.before.requires.0.1 l.before.before.requires.1.1).1

loop-again : tie.Need-loop-weight-preserved invariant-loop decreases-loop
loop-again c =
    let l = c.before.before in
    rw (c.before.next_slip-p.ensures, c.next_slip-q.ensures) (slips_next l.before.loop-weight.invariant l.loop-weight-test.true)

returns : tie.Need-returns invariant-loop decreases-loop
returns c =
    let l = c.before.before in
    rw (c.before.rounded.ensures, c.rounded-2.ensures) (slips_end l.before.loop-weight.invariant l.loop-weight-test.false l.before.before.requires.0 l.before.before.requires.1)

pub nearest_roots_spec : {M : Type 1} → statement M
nearest_roots_spec =
    tie.close
    (tie.spec invariant-loop decreases-loop loop-holds next_slip-requires next_slip-requires-2 (λ c. omega arith) loop-again (λ c κs. search rules)
    (λ c κs. search rules) returns)
