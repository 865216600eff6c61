-- The points so far are written; each turn writes one more.
use Rattle.std.proofs.Common.{◌/◌, length}
use Rattle.octets.specs.Bytes.{each}
use Rattle.octets.specs.laws.Wrote.{Lined}
use Rattle.wkb.specs.multipoint.MultiPoint.{file_point_bytes}
use Rattle.wkb.specs.multipoint.Promise.{firsts}
use Rattle.wkb.specs.multipoint_writer.Promise.{site_point}
use Rattle.wkb.proofs.multipoint_writer.put_points.Given as goal

abbrev pub invariant-loop-i : goal.invariant-loop-i
invariant-loop-i l = Lined (λ k. each file_point_bytes (firsts (site_point l.sites) k)) (length l.sites / 2) l.fn.out l.out l.fn.at l.end l.i
