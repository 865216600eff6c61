-- `audit::lines` puts its text at the beginning of the output: a refusal where rule 24 is broken, else the verdict and what is turned.
use mathlib.Core.Bool.{not}
use mathlib.Core.Path.{ap}
use Rattle.std.proofs.Common.{refl, ◌∙◌, arith, rules}
use Rattle.base.specs.common.laws.Decide.{granted, refused}
use Rattle.printing.specs.parts.laws.Labelled.{refusal_short}
use Rattle.printing.specs.laws.TextRoom.{line_held, text_held}
use Rattle.audit.specs.laws.Told.{turned_few, lowest_few, lines_within, lines_fit, told_refused, told_lines}
use Rattle.audit.proofs.lines.Statement.{statement}
use Rattle.audit.proofs.lines.Tie as tie

abbrev Start : tie.After-within → tie.Start
Start c = c.before.before.before.before.before.before.before

abbrev Within : tie.After-first_turned → tie.After-within
Within c = c.before.before.before.before.before.before.before

refusal-requires : tie.Need-refusal-requires
refusal-requires c κs = omega (arith, refusal_short 24, (Start c.before.before).requires.1)

returns : tie.Need-returns-then-not-within
returns c =
    let test = c in
    let s = Start test.before.before.before.before.before in
    rw (told_refused s.args.bounds s.args.sites.now s.args.triangles.now s.args.vertices.now s.args.offsets.now s.args.indexes.now
    (refused test.within.result (ap not test.if-not-within.true) test.within.ensures))
    (line_held 24 s.requires.1 c.refusal.ensures)

verdict-requires : tie.Need-verdict-j-requires
verdict-requires c κs =
    let at-within = c in
    ((Start at-within.before.before.before).requires.0.box, (Start at-within.before.before.before).requires.0.kept (granted at-within.within.result (ap not c.if-not-within.false) at-within.within.ensures))

narrow-requires : tie.Need-narrow-count-requires
narrow-requires c κs =
    let s = Start c.before.before.before.before.before in
    omega (arith, c.count_turned.ensures, turned_few s.args.sites.now s.args.triangles.now, s.requires.0.few)

narrow-requires-2 : tie.Need-narrow-lowest-requires
narrow-requires-2 c κs =
    let s = Start (Within c) in
    omega (arith, c.first_turned.ensures, lowest_few s.args.sites.now s.args.triangles.now, s.requires.0.few)

narrow-requires-3 : tie.Need-narrow-total-requires
narrow-requires-3 c κs = omega (arith, (Start (Within c.before)).requires.0.few)

audit_lines-requires : tie.Need-audit_lines-requires
audit_lines-requires c κs =
    let s = Start (Within c.before.before.before) in
    lines_fit s.args.out.now _ _ _ _ _ s.requires.1

returns-2 : tie.Need-returns
returns-2 c =
    let at-total = c in
    let at_first = at-total in
    let at_count = at_first in
    let s = Start (Within at_first.before.before.before.before.before.before) in
    rw (told_lines s.args.bounds s.args.sites.now s.args.triangles.now s.args.vertices.now s.args.offsets.now s.args.indexes.now
    (granted (Within at_first.before.before.before.before.before.before).within.result (ap not at_count.if-not-within.false) (Within at_first.before.before.before.before.before.before).within.ensures)
    (at_first.narrow-count.ensures ∙ at_count.count_turned.ensures) at-total.narrow-total.ensures
    (at-total.narrow-lowest.ensures ∙ at_first.first_turned.ensures) at_count.verdict-j.ensures.0 at_count.verdict-j.ensures.1)
    (text_held _ 0 refl (lines_within s.args.out.now _ _ _ _ _ s.requires.1) c.audit_lines.ensures)

pub lines_spec : {M : Type 1} → statement M
lines_spec =
    tie.close
    (tie.spec (λ c κs. search rules) refusal-requires (λ c. search rules) returns (λ c. search rules) (λ c. search rules)
    verdict-requires (λ c κs. search rules) narrow-requires (λ c κs. search rules) narrow-requires-2 narrow-requires-3
    audit_lines-requires (λ c. search rules) returns-2)
