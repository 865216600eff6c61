-- `mend::boxes::is_box` meets its contract: by the length, the digits and the kind.
use mathlib.Core.Path.{sym, ap, ◌∙◌}
use Rattle.mend.specs.boxes.Option.{box_kind}
use Rattle.mend.specs.boxes.laws.Option.{other_length, no_digits, by_kind}
use borrow.Author.Rules.{rules}
use Rattle.mend.proofs.boxes.is_box.Statement.{statement}
use Rattle.mend.proofs.boxes.is_box.Tie as tie

returns : tie.Need-returns-then-word-ne66
returns c = sym (other_length c.args.word.now c.if-word-ne66.true)

returns-2 : tie.Need-returns-then-all_digits
returns-2 c =
    let at-then = c in
    c.box_kind.ensures ∙ ap box_kind c.byte_of.ensures
    ∙ sym (by_kind at-then.args.word.now at-then.if-word-ne66.false (sym at-then.all_digits.ensures ∙ at-then.if-all_digits.true))

returns-3 : tie.Need-returns
returns-3 c = sym (no_digits c.args.word.now c.if-word-ne66.false (sym c.all_digits.ensures ∙ c.if-all_digits.false))

pub is_box_spec : {M : Type 1} → statement M
is_box_spec =
    tie.close
    (tie.spec returns (λ c κs. search rules) (λ c. search rules) (λ c. search rules) (λ c κs. search rules) (λ c κs. search rules) returns-2 returns-3)
