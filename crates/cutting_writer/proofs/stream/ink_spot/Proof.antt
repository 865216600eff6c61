-- `cutting_writer::stream::ink_spot`: the corner's place and number go to the pen.
use Rattle.cutting_writer.specs.stream.Stages.{ink_at}
use borrow.Author.Rules.{rules}
use Rattle.cutting_writer.proofs.stream.ink_spot.Statement.{statement}
use Rattle.cutting_writer.proofs.stream.ink_spot.Tie as tie

ink-requires : tie.Need-ink-requires
unfolding ink_at
ink-requires c κs = c.requires

returns : tie.Need-returns
unfolding ink_at
returns c = c.ink.ensures

pub ink_spot_spec : {M : Type 1} → statement M
ink_spot_spec =
    tie.close
    (tie.spec ink-requires (λ c. search rules) (λ c. search rules) returns)
