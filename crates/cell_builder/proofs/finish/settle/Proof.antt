-- `cell_builder::finish::settle` meets its contract: the fault's number decides, and each way is its callee's promise.
use mathlib.Core.Path.{refl}
use borrow.Author.Rules.{rules}
use Rattle.cell_builder.proofs.finish.settle.Statement.{statement}
use Rattle.cell_builder.proofs.finish.settle.Tie as tie

returns : tie.Need-returns-then-fault-ne0
returns c =
    let k = c in
    let i = k in
    record { on_refusal = λ n. (k.refuse.ensures, refl); on_success = λ z. absurd (i.if-fault-ne0.true z) }

finish-requires : tie.Need-finish-requires
finish-requires c κs =
    let n = c in
    n.requires c.if-fault-ne0.false

returns-2 : tie.Need-returns
returns-2 c =
    let k = c in
    let i = k in
    record { on_refusal = λ n. absurd (n i.if-fault-ne0.false); on_success = λ z. k.finish.ensures }

pub settle_spec : {M : Type 1} → statement M
settle_spec =
    tie.close
    (tie.spec (λ c κs. search rules) (λ c. search rules) (λ c. search rules) (λ c. search rules) returns finish-requires
    (λ c. search rules) (λ c. search rules) (λ c. search rules) returns-2)
