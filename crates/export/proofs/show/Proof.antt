-- `export::show` puts its text at the beginning of the output: there is room for a refusal, and for the lines of cells that can be drawn.
use native.Mathlib.Omega.{arith}
use lib.ListN.{length}
use Rattle.printing.specs.parts.laws.Labelled.{refusal_short}
use Rattle.export.specs.laws.TextRoom.{lines_fit}
use Rattle.printing.specs.laws.TextRoom.{refusal_held, text_held}
use borrow.Author.Rules.{rules}
use Rattle.export.proofs.show.Statement.{statement}
use Rattle.export.proofs.show.Tie as tie

refusal-requires : tie.Need-refusal-requires
refusal-requires c κs =
    let s = c in
    omega (arith, refusal_short s.args.number, s.requires.1)

returns : tie.Need-returns-then-number-ne0
returns c =
    let test = c in
    let s = test in
    refusal_held _ s.args.number test.if-number-ne0.true (omega (arith, s.requires.1)) c.refusal.ensures

map_text-requires : tie.Need-map_text-requires
map_text-requires c κs =
    let s = c in
    let p = s.requires.0 c.if-number-ne0.false in
    (p.drawn, omega (arith, lines_fit s.args.vertices.now (length s.args.out.now) p s.requires.1))

returns-2 : tie.Need-returns
returns-2 c =
    let test = c in
    let s = test in
    let z = test.if-number-ne0.false in
    text_held _ s.args.number z (lines_fit s.args.vertices.now (length s.args.out.now) (s.requires.0 z) s.requires.1) c.map_text.ensures

pub show_spec : {M : Type 1} → statement M
show_spec = tie.close (tie.spec refusal-requires (λ c. search rules) returns map_text-requires (λ c. search rules) returns-2)
