-- `cutting_writer::stream::feed_left`: what the taker promises, of the four sides.
use Rattle.cutting_writer.specs.stream.Stages.{feed_bottom, feed_right, feed_top, feed_left}
use Rattle.cutting_writer.proofs.stream.feed_left.Goals as goal

pub feed-requires : goal.feed-requires
unfolding feed_left feed_top feed_right feed_bottom
feed-requires c = c.requires

pub returns : goal.returns
unfolding feed_left feed_top feed_right feed_bottom
returns c = c.feed.ensures
