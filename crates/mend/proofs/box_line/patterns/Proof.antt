-- `mend::box_line::patterns` meets its contract: four patterns, one after the other.
use mathlib.Core.Path.{sym}
use native.Mathlib.Omega.{arith}
use lib.ListN.{length-append}
use lib.Seq.{length-take-le}
use Rattle.octets.specs.laws.Wrote.{wrote_then}
use Rattle.mend.specs.box_line.BoxLine.{pattern_texts}
use borrow.Author.Rules.{rules}
use Rattle.mend.proofs.box_line.patterns.Statement.{statement}
use Rattle.mend.proofs.box_line.patterns.Tie as tie

abbrev Entry : tie.After-pattern-a → tie.Start
Entry c = c.before.before.before.before

abbrev First : tie.After-pattern-b → tie.After-pattern-a
First c = c.before.before.before.before.before

abbrev Second : tie.After-pattern-c → tie.After-pattern-b
Second c = c.before.before.before.before.before

slice_aggregate-pattern : tie.Need-slice_bounds-pattern-end
slice_aggregate-pattern c =
    let s = c in
    sym (length-take-le 8 s.args.body.now (omega (arith, s.requires.0)))

returns : tie.Need-returns
unfolding pattern_texts
returns c =
    let four = c in
    let three = four in
    let two = Second three.before.before.before.before.before.before.before in
    let one = First two in
    wrote_then (wrote_then (wrote_then one.pattern-a.ensures two.pattern-b.ensures) three.pattern-c.ensures) four.pattern.ensures

pub patterns_spec : {M : Type 1} → statement M
unfolding pattern_texts
patterns_spec =
    tie.close
    (tie.spec slice_aggregate-pattern (λ c κs. omega (arith, simp length-append at c.requires.1))
    (λ c. search rules) (λ c. search rules) (λ c. search rules)
    (λ c κs. omega (arith, simp length-append at (Entry c.before.before.before.before).requires.1)) (λ c. search rules) (λ c. search rules) (λ c. search rules)
    (λ c κs. omega (arith, simp length-append at (Entry (First c.before.before.before.before)).requires.1)) (λ c. search rules) (λ c. search rules) (λ c. search rules)
    (λ c κs. omega (arith, simp length-append at (Entry (First (Second c.before.before.before.before))).requires.1)) (λ c. search rules) returns)
