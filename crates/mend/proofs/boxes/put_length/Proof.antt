-- `mend::boxes::put_length` meets its contract: by the kind.
use borrow.Author.Tests.{eq-eqb, ne_eqb}
use Rattle.mend.specs.boxes.Option.{put_length}
use Rattle.mend.proofs.boxes.put_length.Statement.{statement}
use Rattle.mend.proofs.boxes.put_length.Tie as tie

returns : tie.Need-returns-then-clip-ne-UNCLIPPED
unfolding put_length
returns c = rw (ne_eqb c.args.clip 6 c.if-clip-ne-UNCLIPPED.true)

returns-2 : tie.Need-returns
unfolding put_length
returns-2 c = rw (eq-eqb c.args.clip 6 c.if-clip-ne-UNCLIPPED.false)

pub put_length_spec : {M : Type 1} → statement M
put_length_spec = tie.close (tie.spec returns returns-2)
