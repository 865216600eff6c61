-- The end of a piece that was written from a place of the index list on.
use Rattle.std.specs.Prelude.{Bool, false, Option, Some, None, ℕ, ◌-◌, ltb}
use Rattle.base.specs.common.Pick.{pick}
use Rattle.cutting.specs.declared.pen.RingEnds.{RingEnds}
use Rattle.cutting.specs.declared.pen.Pen.{Pen}
use Rattle.cutting.specs.pen.Pen.{same_place, Page, page}
use Rattle.cutting_writer.specs.turn.Turned.{turned_round}

-- whether the last place is the first again
abbrev pub closes : Option RingEnds → Bool
closes None = false
closes (Some e) = same_place e.first e.last

-- without the last place, where it is the first again
unfoldable pub closed_at : ℕ → Pen → ℕ
closed_at begin pen = pick (ltb (pen.at - begin) 2) (λ _. pen.at) (λ _. pick (closes pen.ends) (λ _. pen.at - 1) (λ _. pen.at))

-- fewer than three are none
unfoldable pub kept_at : ℕ → ℕ → ℕ
kept_at begin at = pick (ltb (at - begin) 3) (λ _. begin) (λ _. at)

abbrev pub pen_ended : ℕ → Pen → Pen
pen_ended begin pen =
    record { at = kept_at begin (closed_at begin pen); count = pen.count; ends = None }

abbrev pub ended : ℕ → Page → Page
ended begin g = page (pen_ended begin g.pen) g.vertices (turned_round begin (pen_ended begin g.pen).at g.indexes)
