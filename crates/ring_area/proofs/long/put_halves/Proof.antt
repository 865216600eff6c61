-- `ring_area::long::put_halves` meets its contract: the lower half at limb k, the upper at the next.
use native.Mathlib.Omega.{arith}
use borrow.Author.Rules.{rules}
use Rattle.ring_area.specs.long.laws.Puts.{added_then, added_as, roomy_after, roomy_fewer, two_puts}
use Rattle.ring_area.proofs.long.put_halves.Statement.{statement}
use Rattle.ring_area.proofs.long.put_halves.Tie as tie

put-requires : tie.Need-put-requires
put-requires c κs =
    let s = c in
    (omega arith, omega arith, s.requires.1, roomy_fewer 1 1 s.requires.2)

put-requires-2 : tie.Need-put-requires-2
put-requires-2 c κs =
    let at-put = c in
    let s = at-put in
    (omega (arith, at-put.put.ensures.long), omega (arith, c.slice_known-2-1.given 0), s.requires.1, roomy_after at-put.put.ensures 1 s.requires.2)

returns : tie.Need-returns
returns c =
    let at-put2 = c in
    let at-put = at-put2 in
    let s = at-put in
    added_as (added_then at-put.put.ensures at-put2.put-2.ensures) _ (two_puts s.args.n s.args.power s.args.k)

pub put_halves_spec : {M : Type 1} → statement M
put_halves_spec =
    tie.close
    (tie.spec put-requires (λ c. search rules) put-requires-2 (λ c. search rules) returns)
