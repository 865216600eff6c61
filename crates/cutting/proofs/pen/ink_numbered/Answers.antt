-- Both cases of `pen_on` and `entries_on`, by their test.
use Rattle.std.proofs.Common.{rules, refl, sym, ◌∙◌}
use Rattle.cutting.specs.pen.laws.Numbered.{room_on}
use Rattle.cutting.specs.pen.Pen.{pen_on, entries_on}
use Rattle.cutting.proofs.pen.ink_numbered.Goals as goal

pub returns-then-repeats_last : goal.returns-then-repeats_last
unfolding pen_on entries_on
returns-then-repeats_last c = let t = sym c.repeats_last.ensures ∙ c.if-repeats_last.true in (rw t refl, rw t refl)

pub offset_bounds-indexes-at : goal.offset_bounds-indexes-at
offset_bounds-indexes-at c = let l = room_on _ _ _ (sym c.repeats_last.ensures ∙ c.if-repeats_last.false) c.requires in search (rules, l)

pub bounds-indexes-at : goal.bounds-indexes-at
bounds-indexes-at c = room_on _ _ _ (sym c.repeats_last.ensures ∙ c.if-repeats_last.false) c.requires

pub overflow_add-result : goal.overflow_add-result
overflow_add-result c = let l = room_on _ _ _ (sym c.repeats_last.ensures ∙ c.if-repeats_last.false) c.requires in search (rules, l)

pub returns : goal.returns
unfolding pen_on entries_on
returns c = let t = sym c.repeats_last.ensures ∙ c.if-repeats_last.false in (rw (t, c.ends_with.ensures) refl, rw t refl)
