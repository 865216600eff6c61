-- `reader::state::load` meets its contract: what stands is what the words say, and all else is refused.
use mathlib.Core.Path.{◌≡◌, sym, ap, ap₂, ◌∙◌, subst}
use mathlib.Core.Bool.{true, false}
use lib.ListN.{take, drop}
use Rattle.form.specs.step.Reader.{refused}
use Rattle.base.specs.numbers.Numbers.{refused_form}
use Rattle.form.specs.step.Standing.{Ok}
use Rattle.form.specs.declared.step.Reader.{Reader}
use Rattle.reader.specs.state.Words.{reader_of}
use Rattle.reader.specs.standing.Stands.{both, is_valid}
use Rattle.reader.specs.state.Entered.{blank}
use Rattle.reader.specs.state.Kept.{entered_right, entered_wrong, ok_entered}
use borrow.Author.Rules.{rules}
use Rattle.reader.proofs.state.load.Statement.{statement}
use Rattle.reader.proofs.state.load.Tie as tie

returns : tie.Need-returns-then-both
returns c =
    let ws = c.args.state.now in
    let h = c.held-r.ensures in
    let e : both (blank (take 7 (drop 9 ws))) (is_valid (reader_of ws)) ≡ true =
    sym (c.both.ensures ∙ ap₂ both c.blank.ensures (c.is_valid.ensures ∙ ap is_valid h)) ∙ c.if-both.true
    in
    let i = h ∙ sym (entered_right ws e) in
    (i, subst Ok (sym i) (ok_entered ws))

returns-2 : tie.Need-returns
returns-2 c =
    let b = c in
    let ws = b.args.state.now in
    let h = b.held-r.ensures in
    let e : both (blank (take 7 (drop 9 ws))) (is_valid (reader_of ws)) ≡ false =
    sym (b.both.ensures ∙ ap₂ both b.blank.ensures (b.is_valid.ensures ∙ ap is_valid h)) ∙ c.if-both.false
    in
    let i = c.refused.ensures ∙ ap (λ (r : Reader). refused r refused_form) c.start.ensures ∙ sym (entered_wrong ws e) in
    (i, subst Ok (sym i) (ok_entered ws))

pub load_spec : {M : Type 1} → statement M
load_spec =
    tie.close
    (tie.spec (λ c κs. search rules) (λ c. search rules) (λ c. search rules) (λ c. search rules) (λ c κs. search rules) (λ c κs. search rules) (λ c κs. search rules) returns
    (λ c κs. search rules) (λ c. search rules) (λ c κs. search rules) returns-2)
