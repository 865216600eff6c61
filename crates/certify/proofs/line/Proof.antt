-- `certify::line` puts its text at the beginning of the output: the refusal of the cutting first, then that of the certificate, then its kind.
use mathlib.Core.Path.{refl}
use native.Mathlib.Omega.{arith}
use borrow.Author.Tests.{eq-eqb, ne_eqb}
use Rattle.printing.specs.parts.laws.Labelled.{refusal_short}
use Rattle.printing.specs.laws.TextRoom.{line_held, text_held}
use Rattle.certify.specs.text.CertifyLine.{certify_text}
use Rattle.certify.specs.text.laws.Short.{kind_fits, kind_within}
use borrow.Author.Rules.{rules}
use Rattle.certify.proofs.line.Statement.{statement}
use Rattle.certify.proofs.line.Tie as tie

refusal-requires : tie.Need-refusal-requires
refusal-requires c κs = let s = c in omega (arith, refusal_short s.args.cut, s.requires)

returns : tie.Need-returns-then-cut-ne0
unfolding certify_text
returns c =
    let at-refusal = c in
    let test = at-refusal in
    let s = test in
    rw (ne_eqb _ _ test.if-cut-ne0.true) (line_held s.args.cut s.requires at-refusal.refusal.ensures)

refusal-requires-2 : tie.Need-refusal-requires-then-number-ne0
refusal-requires-2 c κs = let s = c in omega (arith, refusal_short s.args.number, s.requires)

returns-2 : tie.Need-returns-then-number-ne0
unfolding certify_text
returns-2 c =
    let at-refusal = c in
    let test = at-refusal in
    let s = test in
    rw (eq-eqb _ _ test.if-cut-ne0.false, ne_eqb _ _ test.if-number-ne0.true) (line_held s.args.number s.requires at-refusal.refusal-then-number-ne0.ensures)

kind_line-requires : tie.Need-kind_line-requires
kind_line-requires c κs = let s = c in kind_fits s.args.out.now _ _ _ _ s.requires

returns-3 : tie.Need-returns
unfolding certify_text
returns-3 c =
    let at-line = c in
    let test = at-line in
    let s = test in
    rw (eq-eqb _ _ test.if-cut-ne0.false, eq-eqb _ _ test.if-number-ne0.false)
    (text_held _ 0 refl (kind_within s.args.out.now _ _ _ _ s.requires) at-line.kind_line.ensures)

pub line_spec : {M : Type 1} → statement M
line_spec =
    tie.close
    (tie.spec refusal-requires (λ c. search rules) returns refusal-requires-2 (λ c. search rules) returns-2 kind_line-requires (λ c. search rules) returns-3)
