-- Rule 6 over a list of sites.
use Rattle.std.specs.Prelude.{◌≡◌, Bool, true, ◌&&◌, List, ℕ, zero, suc, Float}
use Rattle.plane.specs.points.Flat.{point_at}
use Rattle.plane.specs.points.Rules.{ok_site}

-- the site at place i keeps rule 6
abbrev pub KeptAt : List Float → ℕ → Type 0
KeptAt l i = ok_site (point_at l i) ≡ true

-- the first n sites keep it
unfoldable pub ok_sites : ℕ → List Float → Bool
ok_sites zero l = true
ok_sites (suc n) l = ok_sites n l && ok_site (point_at l n)
