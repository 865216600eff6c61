-- `certifying::tree::key` meets its contract.
use borrow.Author.Rules.{rules}
use native.Mathlib.Omega.{arith}
use Rattle.certifying.proofs.tree.key.Statement.{statement}
use Rattle.certifying.proofs.tree.key.Tie as tie

mul_wide : tie.Need-offset_bounds-room-j
mul_wide c =
    let s = c in omega (arith, s.requires.0.long, s.requires.1)

shared_slice_read-wide : tie.Need-bounds-room-j
shared_slice_read-wide c =
    let s = c in omega (arith, s.requires.0.long, s.requires.1)

mul-result : tie.Need-overflow_mul-result
mul-result c =
    let s = c in omega (arith, c.wide.ensures, s.requires.0.named s.args.j s.requires.1, s.requires.2)

add-result : tie.Need-overflow_add-result
add-result c =
    let s = c in omega (arith, c.wide.ensures, s.requires.0.named s.args.j s.requires.1, s.requires.2)

mul-result-2 : tie.Need-offset_bounds-sites-wide
mul-result-2 c =
    let s = c in omega (arith, c.wide.ensures, s.requires.0.named s.args.j s.requires.1, s.requires.2)

shared_slice_read-result : tie.Need-bounds-sites-wide
shared_slice_read-result c =
    let at_wide = c in let s = at_wide in
    omega (arith, at_wide.wide.ensures, s.requires.0.named s.args.j s.requires.1, s.requires.2)

pub key_spec : {M : Type 1} → statement M
key_spec =
    tie.close (tie.spec mul_wide shared_slice_read-wide (λ c κs. search rules) mul-result add-result mul-result-2
    shared_slice_read-result (λ c. search rules))
