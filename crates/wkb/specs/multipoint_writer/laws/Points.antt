-- A site as the point of its patterns, and a file as its parts, where they are written.
use Rattle.std.specs.Prelude.{◌≡◌, true, List, ℕ, ◌+◌, ◌*◌, length, get_or, Float}
use Rattle.std.specs.Float.{nan, binary64}
use Rattle.std.specs.Float.Ieee.{to_bits}
use Rattle.octets.specs.Bytes.{le, each}
use Rattle.octets.specs.Wrote.{Wrote}
use Rattle.octets.specs.laws.Wrote.{wrote_then}
use Rattle.wkb.specs.multipoint.MultiPoint.{FilePoint, file_point, start_bytes, file_point_bytes, multi_point}
use Rattle.wkb.specs.multipoint_writer.Promise.{site_point}

pub site_wrote : {l m : List ℕ} {a b x y : ℕ} (sites : List Float) (i : ℕ) → x ≡ to_bits binary64 (get_or sites (2 * i) nan) → y ≡ to_bits binary64 (get_or sites (2 * i + 1) nan)
    → Wrote l m a b (file_point_bytes (file_point true x y)) → Wrote l m a b (file_point_bytes (site_point sites i))
unfolding site_point
site_wrote sites i p q w = rw (p, q) at w

-- the head, the count, the points
pub file_wrote : {l m n o : List ℕ} {a b c d k : ℕ} (ps : List FilePoint) → k ≡ length ps → Wrote l m a b (start_bytes true 4) → Wrote m n b c (le 4 k)
    → Wrote n o c d (each file_point_bytes ps) → Wrote l o a d (multi_point true ps)
unfolding multi_point
file_wrote ps e p q r = wrote_then p (wrote_then (rw e at q) r)
