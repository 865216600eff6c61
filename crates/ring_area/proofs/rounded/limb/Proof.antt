-- `ring_area::rounded::limb` meets its contract: below the first and past the last one it is 0.
use mathlib.Core.Path.{sym, ◌∙◌}
use lib.ListN.{get_or-eq_default}
use borrow.Author.Rules.{rules}
use Rattle.ring_area.specs.long.laws.Lifted.{lifted_below, lifted_at}
use Rattle.ring_area.proofs.rounded.limb.Statement.{statement}
use Rattle.ring_area.proofs.rounded.limb.Tie as tie

returns : tie.Need-returns-then-i-from
returns c = sym (lifted_below c.args.from c.args.limbs.now c.args.i c.if-i-from.true)

returns-2 : tie.Need-returns-then-k-limbs
returns-2 c =
    let s = c in
    sym (lifted_at s.args.from s.args.limbs.now s.args.i c.if-i-from.false)

returns-3 : tie.Need-returns
returns-3 c =
    let s = c in
    sym (lifted_at s.args.from s.args.limbs.now s.args.i c.if-i-from.false ∙ get_or-eq_default s.args.limbs.now 0 c.if-k-limbs.false)

pub limb_spec : {M : Type 1} → statement M
limb_spec =
    tie.close
    (tie.spec returns (λ c. search rules) (λ c. search rules) returns-2 returns-3)
