-- `auditing::rules::used` meets its contract: up to the last offset.
use mathlib.Core.Path.{refl, sym}
use native.Mathlib.Nat.{le_trans, le_of_eq}
use native.Mathlib.Omega.{arith}
use lib.Seq.{length-take-le}
use Rattle.auditing.specs.rules.laws.Asking.{used_is}
use borrow.Author.Rules.{rules}
use Rattle.auditing.proofs.rules.used.Statement.{statement}
use Rattle.auditing.proofs.rules.used.Tie as tie

slice_aggregate-result : tie.Need-slice_bounds-result-end
slice_aggregate-result c =
    let s = c in
    sym (length-take-le c.wide-end.result s.args.indexes.now (le_trans (le_of_eq c.wide-end.ensures) (s.requires.within _ (omega (arith, s.requires.some)))))

returns : tie.Need-returns
returns c = let s = c in used_is s.args.offsets.now s.args.indexes.now _ c.wide-end.result refl c.wide-end.ensures

pub used_spec : {M : Type 1} → statement M
used_spec =
    tie.close
    (tie.spec (λ c. search rules) (λ c. search rules) (λ c. search rules) (λ c κs. search rules) slice_aggregate-result
    returns)
