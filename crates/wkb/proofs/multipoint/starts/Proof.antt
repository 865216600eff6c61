-- `wkb::multipoint::starts` meets its contract: the mark, then the type.
use mathlib.Core.Path.{refl}
use native.Mathlib.Omega.{arith}
use Rattle.wkb.specs.multipoint.laws.Fields.{no_mark, types_say}
use borrow.Author.Rules.{rules}
use Rattle.wkb.proofs.multipoint.starts.Statement.{statement}
use Rattle.wkb.proofs.multipoint.starts.Tie as tie

returns : tie.Need-returns-then-file-at-gt1
returns c =
    let a = c.args in
    no_mark a.file.now a.at a.kind (omega (arith, c.if-file-at-gt1.true))

returns-2 : tie.Need-returns
returns-2 c =
    let a = c.args in
    types_say a.file.now a.at a.kind c.number_at.result _ (omega (arith, c.if-file-at-gt1.false)) c.number_at.ensures.0 refl

pub starts_spec : {M : Type 1} → statement M
starts_spec = tie.close (tie.spec (λ c. search rules) returns (λ c κs. search rules) returns-2)
