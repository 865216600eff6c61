-- `cells::answer_text::show` puts its text at the beginning of the output: there is room for a refusal, and for the listing of cells that are laid out.
use native.Mathlib.Omega.{arith}
use Rattle.printing.specs.parts.laws.Labelled.{refusal_short}
use Rattle.cells.specs.answer_text.laws.TextRoom.{box_fits}
use Rattle.printing.specs.laws.TextRoom.{refusal_held, text_held}
use borrow.Author.Rules.{rules}
use Rattle.cells.proofs.answer_text.show.Statement.{statement}
use Rattle.cells.proofs.answer_text.show.Tie as tie

abbrev Built : tie.After-shared_slice_known-12-1 → tie.Else-number-ne0
Built c = c.before.before.before.before.before.before.before.before.before.before

refusal-requires : tie.Need-refusal-requires
refusal-requires c κs =
    let at_start = c in
    omega (arith, refusal_short at_start.args.number, at_start.requires.2)

returns : tie.Need-returns-then-number-ne0
returns c =
    let test = c in
    let at_start = test in
    refusal_held _ at_start.args.number test.if-number-ne0.true at_start.requires.2 c.refusal.ensures

listing-requires : tie.Need-listing-requires
listing-requires c κs =
    let at_start = Built c in
    let p = at_start.requires.0 (Built c).if-number-ne0.false in (p.layout, omega (arith, box_fits at_start.args.triangles at_start.args.counts.now p))

returns-2 : tie.Need-returns
returns-2 c =
    let test = Built c.before.before.before in
    let s = test in
    let z = test.if-number-ne0.false in text_held _ s.args.number z (box_fits s.args.triangles s.args.counts.now (s.requires.0 z)) c.listing.ensures

pub show_spec : {M : Type 1} → statement M
show_spec =
    tie.close
    (tie.spec refusal-requires (λ c. search rules) returns (λ c. search rules) (λ c. search rules) (λ c. search rules)
    (λ c. search rules) (λ c. search rules) (λ c. search rules) (λ c. search rules) (λ c. search rules) (λ c. search rules) listing-requires
    (λ c. search rules) returns-2)
