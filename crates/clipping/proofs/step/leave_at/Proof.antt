-- `clipping::step::leave_at` meets its contract: two entries more, and the cell is open.
use native.Mathlib.Omega.{arith}
use mathlib.Core.Path.{refl}
use Rattle.definition.specs.Cell.{plain, crossing}
use Rattle.clipping.specs.corners.laws.CellEntries.{puts_more, puts_then}
use borrow.Author.Rules.{rules}
use Rattle.clipping.proofs.step.leave_at.Statement.{statement}
use Rattle.clipping.proofs.step.leave_at.Tie as tie

push-requires-2 : tie.Need-push-two-requires
push-requires-2 c κs =
    let p = c.push-one in
    let q = p.ensures.0 plain in
    let k = p.auto in
    record { four = q.four; real = omega arith; room = omega arith }

returns : tie.Need-returns
returns c =
    let p = c.push-one in
    let q = c.push-two in
    let h = p.ensures.0 plain in
    λ vs ts u. (refl, refl, refl, refl, λ e. (let g = q.ensures.1 in omega arith), puts_more 3 (omega arith) (rw h.owners at (puts_then h (q.ensures.0 crossing))), u)

pub leave_at_spec : {M : Type 1} → statement M
leave_at_spec = tie.close (tie.spec (λ c κs. search rules) push-requires-2 (λ c. search rules) returns)
