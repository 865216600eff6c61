-- An unpaired half-edge has no far site; of a paired one the pair is in range.
use borrow.Author.Rules.{rules}
use Rattle.grid.specs.scan.laws.Scan.{says_outside}
use Rattle.grid.specs.scan.laws.Scannable.{pair_in}
use Rattle.grid.proofs.scan.circle_at.Statement.{statement}
use Rattle.grid.proofs.scan.circle_at.Tie as tie

returns : tie.Need-returns-then-p
returns c = λ n. absurd (n c.if-p.true)

far_inside-requires : tie.Need-far_inside-requires
far_inside-requires c κs =
    let start = c in
    (start.requires.0.named, start.requires.1, rw c.wide.ensures (pair_in start.requires.0 _ start.requires.1 c.if-p.false))

returns-2 : tie.Need-returns
returns-2 c =
    let w = c.wide.ensures in
    says_outside c.far_inside.result _ c.if-p.false (rw (c.far_inside.ensures, w))

pub circle_at_spec : {M : Type 1} → statement M
circle_at_spec = tie.close (tie.spec (λ c. search rules) (λ c. search rules) returns (λ c κs. search rules) far_inside-requires returns-2)
