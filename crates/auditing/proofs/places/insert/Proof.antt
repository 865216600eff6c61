-- `auditing::places::insert` meets its contract: two stores.
use mathlib.Core.Path.{refl, ap}
use Prim.Native.Nat.{ℕ}
use native.Mathlib.Numerals.{add-one}
use lib.ListN.{set}
use borrow.Author.Rules.{rules}
use Rattle.auditing.proofs.places.insert.Statement.{statement}
use Rattle.auditing.proofs.places.insert.Tie as tie

returns : tie.Need-returns
returns c = let s = c in record { last = ap (λ (x : ℕ). set s.args.heads.now s.args.m x) (add-one s.args.k); next = refl }

pub insert_spec : {M : Type 1} → statement M
insert_spec =
    tie.close
    (tie.spec (λ c. search rules) (λ c. search rules) (λ c. search rules) (λ c. search rules) (λ c. search rules) (λ c. search rules)
    (λ c. search rules) (λ c. search rules) (λ c. search rules) (λ c. search rules) returns)
