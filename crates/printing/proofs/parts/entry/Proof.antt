-- `printing::parts::entry` meets its contract: the blank is one store, and the digits come after it.
use mathlib.Core.Path.{sym, ap, subst, ◌∙◌}
use mathlib.Core.List.{[], ◌∷◌}
use native.Mathlib.Omega.{arith}
use lib.ListN.{length, length-set}
use Rattle.printing.specs.parts.Text.{decimal}
use Rattle.printing.specs.parts.laws.Labelled.{entries_one}
use Rattle.octets.specs.Wrote.{HasRoom}
use Rattle.octets.specs.laws.Wrote.{wrote_one, wrote_then, wrote_as, fits_then}
use borrow.Author.Rules.{rules}
use Rattle.printing.proofs.parts.entry.Statement.{statement}
use Rattle.printing.proofs.parts.entry.Tie as tie

slice_write-out : tie.Need-bounds-out-at
slice_write-out c = let s = c in omega (arith, s.requires, ap length (entries_one s.args.n))

decimal-requires : tie.Need-decimal-requires
decimal-requires c κs = let s = c in
    let a = s.args in
    fits_then (32 ∷ []) (decimal a.n) (wrote_one a.out.now a.at 32) (subst (HasRoom a.out.now a.at) (entries_one a.n) s.requires)

same_length : tie.Need-shape_of-out
same_length c = c.decimal.auto.out ∙ simp length-set

returns : tie.Need-returns
returns c =
    let at_start = c in
    let a = at_start.args in
    wrote_as (wrote_then (wrote_one a.out.now a.at 32) c.decimal.ensures) (sym (entries_one a.n))

pub entry_spec : {M : Type 1} → statement M
entry_spec = tie.close (tie.spec slice_write-out (λ c. search rules) decimal-requires same_length returns)
