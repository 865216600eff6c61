-- Both cases of `inked`, by its test.
use Prim.Native.Nat.{ℕ}
use Rattle.cutting.specs.pen.Pen.{page, written_as, inked}
use Rattle.cutting.specs.pen.Room.{inked_new, writable, inked_later, ready_few}
use borrow.Author.Rules.{rules}
use mathlib.Core.Path.{sym, ap, ◌∙◌}
use native.Mathlib.Omega.{arith}
use Rattle.cutting.proofs.pen.ink.Statement.{statement}
use Rattle.cutting.proofs.pen.ink.Tie as tie

returns : tie.Need-returns-then-repeats_last
unfolding inked
returns c = rw (sym c.repeats_last.ensures ∙ c.if-repeats_last.true)

number_for-requires : tie.Need-number_for-n-requires
number_for-requires c κs = ready_few (inked_later _ _ _ _ _) c.requires

write-requires : tie.Need-write-requires
write-requires c κs = writable _ _ _ _ _ (sym c.repeats_last.ensures ∙ c.if-repeats_last.false)
    c.requires (omega arith) _ c.number_for-n.ensures

returns-2 : tie.Need-returns
returns-2 c =
    let w = c in let test = w in
    let a = test.args in
    w.write.ensures
    ∙ ap (λ (n : ℕ). written_as n (page a.pen a.vertices.now a.indexes.now) a.p) w.number_for-n.ensures
    ∙ sym (inked_new _ _ _ _ _ (sym test.repeats_last.ensures ∙ test.if-repeats_last.false))

pub ink_spec : {M : Type 1} → statement M
ink_spec =
    tie.close
    (tie.spec (λ c κs. search rules) returns number_for-requires write-requires (λ c. search rules) (λ c. search rules) returns-2)
