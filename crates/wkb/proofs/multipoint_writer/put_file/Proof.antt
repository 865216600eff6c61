-- `wkb::multipoint_writer::put_file` meets its contract: the head, the count, the points.
use mathlib.Core.Path.{sym}
use Rattle.wkb.specs.multipoint.laws.Firsts.{length_firsts}
use Rattle.wkb.specs.multipoint_writer.Promise.{site_point}
use Rattle.wkb.specs.multipoint_writer.laws.Points.{file_wrote}
use borrow.Author.Rules.{rules}
use Rattle.wkb.proofs.multipoint_writer.put_file.Statement.{statement}
use Rattle.wkb.proofs.multipoint_writer.put_file.Tie as tie

returns : tie.Need-returns
returns c =
    let at-put-le = c in
    let at-put-start = at-put-le in
    let a = at-put-start.args in
    file_wrote _ (sym (length_firsts (site_point a.sites.now) _)) at-put-start.put_start-number.ensures at-put-le.put_le-points.ensures
    c.put_points.ensures

pub put_file_spec : {M : Type 1} → statement M
put_file_spec =
    tie.close (tie.spec (λ c κs. search rules) (λ c κs. search rules) (λ c κs. search rules) (λ c. search rules) returns)
