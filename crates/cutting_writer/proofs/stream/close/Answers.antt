-- `cutting_writer::stream::close`: what the taker promises, of the four sides.
use Rattle.cutting_writer.specs.stream.Stages.{feed_bottom, feed_right, feed_top}
use Rattle.cutting_writer.proofs.stream.close.Goals as goal

pub close-requires : goal.close-requires
unfolding feed_top feed_right feed_bottom
close-requires c = c.requires

pub returns : goal.returns
unfolding feed_top feed_right feed_bottom
returns c = c.close.ensures
