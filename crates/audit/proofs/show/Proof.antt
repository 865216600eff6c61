-- `audit::show` puts its text at the beginning of the output: a refusal by its number, or the lines of the used parts.
use Rattle.std.proofs.Common.{sym, arith, length-take-le, rules, eq-eqb}
use Rattle.printing.specs.parts.laws.Labelled.{refusal_short}
use Rattle.printing.specs.laws.TextRoom.{refusal_held}
use Rattle.audit.proofs.show.Statement.{statement}
use Rattle.audit.proofs.show.Tie as tie

abbrev Start : tie.After-shared_slice_known-6-1 → tie.Start
Start c = c.before.before.before.before.before.before.before

abbrev Else1 : tie.After-wide-end → tie.Else-number-ne0
Else1 c = c.before.before.before.before

refusal-requires : tie.Need-refusal-requires
refusal-requires c κs = omega (arith, refusal_short (Start c.before.before).args.number, (Start c.before.before).requires.2)

returns : tie.Need-returns-then-number-ne0
returns c =
    let test = c in
    refusal_held _ (Start test.before.before.before.before.before).args.number test.if-number-ne0.true (Start test.before.before.before.before.before).requires.2 c.refusal.ensures

mul-used : tie.Need-overflow_mul-used
mul-used c = omega (arith, c.wide-used.ensures, ((Start c.before.before.before).requires.0 c.if-number-ne0.false).few)

read-end : tie.Need-bounds-offsets-n
read-end c = omega (arith, ((Start c.before.before.before.before).requires.0 c.if-number-ne0.false).offsets)

slice_aggregate-lines : tie.Need-slice_bounds-lines-end
slice_aggregate-lines c =
    sym (length-take-le _ _ (omega (arith, c.wide-used.ensures, ((Start (Else1 c.before).before).requires.0 (Else1 c.before).if-number-ne0.false).vertices)))

slice_aggregate-lines-2 : tie.Need-slice_bounds-lines-end-2
slice_aggregate-lines-2 c =
    let test = Else1 c.before in
    sym (length-take-le _ _ ((Start test.before).requires.0 test.if-number-ne0.false).offsets)

slice_aggregate-lines-3 : tie.Need-slice_bounds-lines-end-3
slice_aggregate-lines-3 c =
    let at_end = c in
    sym (length-take-le _ _ (omega (arith, at_end.wide-end.ensures, ((Start (Else1 at_end.before).before).requires.0 (Else1 at_end.before).if-number-ne0.false).entries)))

lines-requires : tie.Need-lines-requires
lines-requires c κs =
    let at_end = c in
    (rw (at_end.wide-used.ensures, at_end.wide-end.ensures) ((Start (Else1 at_end.before).before).requires.0 (Else1 at_end.before).if-number-ne0.false).ready, (Start (Else1 at_end.before).before).requires.2)

returns-2 : tie.Need-returns
returns-2 c =
    let at_end = c in
    rw (eq-eqb _ _ (Else1 at_end.before.before.before.before).if-number-ne0.false) (rw (at_end.wide-used.ensures, at_end.wide-end.ensures) at c.lines.ensures)

pub show_spec : {M : Type 1} → statement M
show_spec =
    tie.close
    (tie.spec refusal-requires (λ c. search rules) returns (λ c. search rules) (λ c κs. search rules) mul-used (λ c. search rules) read-end (λ c κs. search rules)
    slice_aggregate-lines (λ c. search rules) slice_aggregate-lines-2 slice_aggregate-lines-3 lines-requires (λ c. search rules) returns-2)
