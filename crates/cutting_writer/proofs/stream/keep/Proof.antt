-- `cutting_writer::stream::keep`: the four cases of `kept_by`, by what is within.
use borrow.Author.Rules.{rules}
use mathlib.Core.Path.{refl, sym, ◌∙◌}
use Rattle.cutting_writer.proofs.stream.keep.Statement.{statement}
use Rattle.cutting_writer.proofs.stream.keep.Tie as tie

returns : tie.Need-returns-then-c
returns c = rw (sym c.within-a.ensures ∙ c.if-a.true, sym c.within-c.ensures ∙ c.if-c.true) refl

returns-2 : tie.Need-returns-then-a
returns-2 c =
    rw (sym c.within-a.ensures ∙ c.if-a.true, sym c.within-c.ensures ∙ c.if-c.false, c.meet.ensures) refl

returns-3 : tie.Need-returns-then-c-2
returns-3 c =
    rw (sym c.within-a.ensures ∙ c.if-a.false, sym c.within-c.ensures ∙ c.if-c-2.true, c.meet-then-c-2.ensures) refl

returns-4 : tie.Need-returns
returns-4 c = rw (sym c.within-a.ensures ∙ c.if-a.false, sym c.within-c.ensures ∙ c.if-c-2.false) refl

pub keep_spec : {M : Type 1} → statement M
keep_spec =
    tie.close
    (tie.spec (λ c κs. search rules) (λ c κs. search rules) returns (λ c κs. search rules) returns-2 (λ c κs. search rules) returns-3 returns-4)
