-- Of an unpaired half-edge there is nothing to ask; of another the three tests say it.
use mathlib.Core.Path.{◌∙◌, sym}
use mathlib.Core.Bool.{false≢true}
use mathlib.Core.Logic.{inl, inr}
use native.Mathlib.Omega.{arith}
use borrow.Author.Rules.{rules}
use borrow.Author.Tests.{eqb-true}
use Rattle.mesh_check.proofs.pairing.half_paired.Statement.{statement}
use Rattle.mesh_check.proofs.pairing.half_paired.Tie as tie

returns : tie.Need-returns-then-p
returns c = λ _. inl c.if-p.true

cast-k : tie.Need-overflow_cast-k
cast-k c = omega (arith, c.shared_slice_known-3-1.given c.args.e)

returns-4 : tie.Need-returns
returns-4 c =
    let at_wide = c in
    λ h. inr (record {
      inside = omega arith;
      back = sym at_wide.wide.ensures ∙ c.if-wide-e.false;
      from = eqb-true _ _ h ∙ at_wide.requires.2;
    })

pub half_paired_spec : {M : Type 1} → statement M
half_paired_spec =
    tie.close
    (tie.spec (λ c. search rules) (λ c. search rules) returns cast-k (λ c h. absurd (false≢true h)) (λ c. search rules) (λ c. search rules) (λ c κs. search rules)
    (λ c h. absurd (false≢true h)) (λ c. search rules) (λ c. search rules) returns-4)
