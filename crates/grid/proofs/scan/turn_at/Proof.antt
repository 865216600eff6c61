-- The three sites of the triangle are there, and `turns_left` answers.
use native.Mathlib.Omega.{arith}
use borrow.Author.Rules.{rules}
use Rattle.grid.specs.scan.laws.Scan.{says_left}
use Rattle.grid.specs.scan.laws.Scannable.{site_at_lem}
use Rattle.grid.proofs.scan.turn_at.Statement.{statement}
use Rattle.grid.proofs.scan.turn_at.Tie as tie

turns_left-requires : tie.Need-turns_left-requires
turns_left-requires c κs =
    let at_wide = c in
    let third = c.wide-c in
    let second = c.wide-b in
    let first = at_wide.wide-a in
    let n = at_wide.requires.0 in (
      site_at_lem n _ _ (omega arith) first.ensures,
      site_at_lem n _ _ (omega arith) second.ensures,
      site_at_lem n _ _ (omega arith) third.ensures,
    )

returns : tie.Need-returns
returns c =
    let third = c.wide-c in
    let second = c.wide-b in
    let first = c.wide-a in
    says_left c.turns_left.result _ (rw (c.turns_left.ensures, third.ensures, second.ensures, first.ensures))

pub turn_at_spec : {M : Type 1} → statement M
turn_at_spec =
    tie.close
    (tie.spec (λ c. search rules) (λ c. search rules) (λ c. search rules) (λ c κs. search rules) (λ c. search rules) (λ c. search rules) (λ c. search rules)
    (λ c. search rules) (λ c κs. search rules) (λ c. search rules) (λ c. search rules) (λ c. search rules) (λ c. search rules) (λ c κs. search rules)
    turns_left-requires returns)
