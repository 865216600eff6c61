-- The neighbour that comes counts, or ends the list, or was the first and is dropped: then the step is asked again past it.
use Rattle.queries.specs.clipped.laws.ClippedStep.{coming_cell, counts, ends, dropped_sound, dropped_less, dropped_takes, nothing_left}
use Rattle.queries.proofs.clipped.+clipped_step.Goals as goal

pub returns-in_err-x : goal.returns-in_err-x
returns-in_err-x t c = rw c.from_residual.ensures (nothing_left c.requires.0 _ c.requires.2 _ c.in_err-x.ensures)

pub judge-requires : goal.judge-requires
judge-requires t c = (c.requires.0.cells, c.requires.1, coming_cell c.requires.0 _ c.requires.2 c.in_ok-x.ensures)

pub clipped_step-requires : goal.clipped_step-requires
clipped_step-requires t c = (
  dropped_less c.requires.0 _ c.requires.2 c.in_ok-x.ensures _ c.in-Dropped.ensures c.decreases,
  (c.requires.0, c.requires.1, dropped_sound c.requires.0 _ c.requires.2 c.in_ok-x.ensures _ c.in-Dropped.ensures),
)

pub returns-in-Counts : goal.returns-in-Counts
returns-in-Counts t c = counts c.requires.0 _ c.requires.2 c.in_ok-x.ensures _ c.in-Counts.ensures

pub returns-in-Dropped : goal.returns-in-Dropped
returns-in-Dropped t c = dropped_takes c.requires.0 _ c.requires.2 c.in_ok-x.ensures _ c.in-Dropped.ensures c.clipped_step.result c.clipped_step.ensures

pub returns-in-Ends : goal.returns-in-Ends
returns-in-Ends t c = ends c.requires.0 _ c.requires.2 c.in_ok-x.ensures _ c.in-Ends.ensures
