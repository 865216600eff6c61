-- `audit::text::missing_line` meets its contract: the word, the share, the end.
use Rattle.std.proofs.Common.{ℕ, List, ◌++◌}
use Rattle.printing.specs.parts.Text.{ascii}
use Rattle.octets.specs.Wrote.{HasRoom}
use Rattle.octets.specs.laws.Wrote.{fits_left, fits_then, wrote_then}
use Rattle.audit.specs.text.Share.{share_text}
use Rattle.audit.specs.text.AuditLines.{missing_line}
use Rattle.audit.proofs.text.missing_line.Goals as goal

abbrev word : List ℕ
word = ascii "missing "

abbrev end : List ℕ
end = ascii "\n"

pub put-a-requires : goal.put-a-requires
unfolding missing_line
put-a-requires c =
    let without : HasRoom c.args.out.now c.args.at (word ++ share_text c.args.missing) = fits_left c.args.out.now c.args.at (word ++ share_text c.args.missing) end c.requires in
    fits_left c.args.out.now c.args.at word (share_text c.args.missing) without

pub share-b-requires : goal.share-b-requires
unfolding missing_line
share-b-requires c =
    let without : HasRoom c.args.out.now c.args.at (word ++ share_text c.args.missing) = fits_left c.args.out.now c.args.at (word ++ share_text c.args.missing) end c.requires in
    fits_then word (share_text c.args.missing) c.put-a.ensures without

pub put-requires : goal.put-requires
unfolding missing_line
put-requires c =
    fits_then (word ++ share_text c.before.before.before.before.before.before.args.missing) end (wrote_then c.put-a.ensures c.share-b.ensures)
    c.before.before.before.before.before.before.requires

pub returns : goal.returns
unfolding missing_line
returns c =
    wrote_then (wrote_then c.put-a.ensures c.share-b.ensures) c.put.ensures
