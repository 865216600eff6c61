-- `form::step::finish` meets its contract: it tells what the finished state is.
use mathlib.Core.Path.{◌≡◌, sym, ap, ◌∙◌}
use mathlib.Core.Bool.{true, false}
use native.Mathlib.Omega.{arith}
use borrow.Author.Tests.{ne_eqb, eq-eqb}
use Rattle.form.specs.step.Reader.{broken}
use Rattle.form.specs.step.laws.Steps.{verdict_broken, verdict_sound}
use Rattle.form.specs.step.laws.Standing.{clip_small, refusal_small, ok_finished}
use borrow.Author.Rules.{rules}
use Rattle.form.proofs.step.finish.Statement.{statement}
use Rattle.form.proofs.step.finish.Tie as tie

returns : tie.Need-returns-then-n-ne0
returns c =
    let k = c.finished-n in
    let e : broken k.result ≡ true = rw (ne_eqb _ _ c.if-n-ne0.true) in
    rw k.ensures (sym (verdict_broken c.args.r (sym (ap broken k.ensures) ∙ e)))

returns-2 : tie.Need-returns
returns-2 c =
    let k = c.finished-n in
    let e : broken k.result ≡ false = rw (eq-eqb _ _ c.if-n-ne0.false) in
    rw k.ensures (sym (verdict_sound c.args.r (sym (ap broken k.ensures) ∙ e)))

pub finish_spec : {M : Type 1} → statement M
finish_spec = tie.close (tie.spec (λ c κs. search rules)
    (λ c. rw c.before.before.before.finished-n.ensures (omega (arith, refusal_small (ok_finished _ c.before.before.before.before.requires)))) returns
    (λ c. rw c.before.before.before.finished-n.ensures (omega (arith, clip_small (ok_finished _ c.before.before.before.before.requires)))) returns-2)
