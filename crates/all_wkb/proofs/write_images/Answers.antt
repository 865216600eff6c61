-- `all_wkb::write_images` meets its contract: image after image, and where each ends.
use Rattle.std.proofs.Common.{arith}
use Rattle.queries.specs.all_neighbours.laws.Writes.{writing_start, next_fits, writing_step, writing_end}
use Rattle.all_wkb.proofs.write_images.Goals as goal

pub bounds-starts-0 : goal.bounds-starts-0
bounds-starts-0 c = omega (arith, c.requires.one_more, c.requires.cells.cut.some)

pub loop-s-init : goal.loop-s-init
loop-s-init c = writing_start _ _ c.args.starts.now c.args.out.now (omega (arith, c.requires.one_more, c.requires.cells.cut.some))

pub append_image-n-requires : goal.append_image-n-requires
append_image-n-requires c = (
  c.requires.cells,
  c.requires.named,
  omega (arith, c.cell_count-count.ensures),
  next_fits _ _ c.loop-s.invariant c.requires.room (omega (arith, c.cell_count-count.ensures)),
)

pub loop-s-preserved : goal.loop-s-preserved
loop-s-preserved c = writing_step _ _ c.loop-s.invariant (omega (arith, c.cell_count-count.ensures)) c.append_image-n.ensures

pub returns : goal.returns
returns c =
    writing_end _ _ c.args.starts.now (omega (arith, c.requires.one_more, c.requires.cells.cut.some)) c.loop-s.invariant
    (omega (arith, c.loop-s-test.false, c.cell_count-count.ensures))
