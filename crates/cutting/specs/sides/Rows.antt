-- Rows: three sites, (0, 0), (4, 0) and (0, 4), and the box from (0, 0) to (4, 4). The premises of `pieces_whole` hold, and the piece of the first site is what it should be.
use Rattle.std.specs.Prelude.{◌≡◌, refl, true, cond, List, [], ◌∷◌, map, ℕ, ◌+◌, ◌<◌, eqb, Float}
use Rattle.std.proofs.Common.{sym, ap, ◌∙◌, inl, inr, arith, eqb-true}
use Rattle.std.specs.Float.{binary64}
use Rattle.std.specs.Float.Ieee.{add, lt, le, eq, neg, of_bits, round}
use Rattle.base.specs.common.Binary64.{zero, one, minus_one, two, ◌⊞◌}
use Rattle.plane.specs.points.Plane.{at}
use Rattle.plane.specs.boxes.Box.{corners_of}
use Rattle.plane.specs.declared.boxes.BoundingBox.{BoundingBox}
use Rattle.cutting.specs.cuts.Numbers.{none, ◌∔◌, ◌≈◌}
use Rattle.cutting.specs.cuts.Rings.{At, RingEdge, sum_by}
use Rattle.cutting.specs.cuts.Pairs.{Test, often}
use Rattle.cutting.specs.cuts.Whole.{Names, Reversed}
use Rattle.cutting.specs.corner.Corner.{near, far_at, Crossings}
use Rattle.cutting.specs.declared.corner.Corner.{Corner}
use Rattle.cutting.specs.declared.corner.Carrier.{Carrier}
use Rattle.cutting.specs.declared.corner.Carrier.TheVariants.{Bisector, Infinity}
use Rattle.cutting.specs.sides.Alike.{pieces_whole, pieces_fill}
use Rattle.cutting.specs.sides.Kept.{Ordered, HasDirection, Far}
use Rattle.cutting.specs.sides.laws.Keeping.{up_is, down_is}
use Rattle.cutting.specs.sides.Exact.{piece_of, written_of, twice, BothWays, JoinedRings, AllFit, TurnsOnce}

abbrev four : Float
four = of_bits binary64 0x4010_0000_0000_0000

abbrev box : BoundingBox
box = record { center = at two two; left = zero; top = zero; right = four; bottom = four }

-- the bisectors of 0 and 1, and of 0 and 2, cross at 2, that of 1 and 2 at 4; the line at infinity passes the upper end by the sum of the directions
abbrev crossings : Crossings
crossings = record { cross = λ s i j p q. cond (eqb i 1) four two; upward = λ p q. lt (p.toward.y ⊞ q.toward.y) zero }

-- the center of the circle, and the ends of the bisectors
abbrev center : Corner
center = near (at two two)

abbrev end01 : Corner
end01 = far_at (at two two) (at zero minus_one)

abbrev end02 : Corner
end02 = far_at (at two two) (at minus_one zero)

abbrev end12 : Corner
end12 = far_at (at two two) (at one one)

abbrev from : Corner → Carrier → At Corner Carrier
from p k = record { corner = p; on = k }

abbrev ring0 : List (At Corner Carrier)
ring0 = from end01 (Bisector 0 1) ∷ from center (Bisector 0 2) ∷ from end02 Infinity ∷ []

abbrev ring1 : List (At Corner Carrier)
ring1 = from end12 (Bisector 1 2) ∷ from center (Bisector 0 1) ∷ from end01 Infinity ∷ []

abbrev ring2 : List (At Corner Carrier)
ring2 = from end02 (Bisector 0 2) ∷ from center (Bisector 1 2) ∷ from end12 Infinity ∷ []

abbrev rings : List (List (At Corner Carrier))
rings = ring0 ∷ ring1 ∷ ring2 ∷ []

abbrev border : List (At Corner Carrier)
border = from end02 Infinity ∷ from end01 Infinity ∷ from end12 Infinity ∷ []

-- the nine edges
data Nine : Type 0 where
  in0 out0 far0 in1 out1 far1 in2 out2 far2 : Nine

abbrev number : Nine → ℕ
number in0 = 0
number out0 = 1
number far0 = 2
number in1 = 3
number out1 = 4
number far1 = 5
number in2 = 6
number out2 = 7
number far2 = 8

abbrev nth : List Nine → ℕ → Nine
nth [] n = in0
nth (x ∷ l) ℕ.zero = x
nth (x ∷ l) (ℕ.suc n) = nth l n

abbrev nine : List Nine
nine = in0 ∷ out0 ∷ far0 ∷ in1 ∷ out1 ∷ far1 ∷ in2 ∷ out2 ∷ far2 ∷ []

back : (x : Nine) → nth nine (number x) ≡ x
back in0 = refl
back out0 = refl
back far0 = refl
back in1 = refl
back out1 = refl
back far1 = refl
back in2 = refl
back out2 = refl
back far2 = refl

self : (x : Nine) → eqb (number x) (number x) ≡ true
self in0 = refl
self out0 = refl
self far0 = refl
self in1 = refl
self out1 = refl
self far1 = refl
self in2 = refl
self out2 = refl
self far2 = refl

abbrev same_nine : Test Nine
same_nine = record { same = λ x y. eqb (number x) (number y); same_is = λ x y e. sym (back x) ∙ ap (nth nine) (eqb-true (number x) (number y) e) ∙ back y; same_self = self }

abbrev opposite : Nine → Nine
opposite in0 = out1
opposite out0 = in2
opposite far0 = far0
opposite in1 = out2
opposite out1 = in0
opposite far1 = far1
opposite in2 = out0
opposite out2 = in1
opposite far2 = far2

twice_over : (x : Nine) → opposite (opposite x) ≡ x
twice_over in0 = refl
twice_over out0 = refl
twice_over far0 = refl
twice_over in1 = refl
twice_over out1 = refl
twice_over far1 = refl
twice_over in2 = refl
twice_over out2 = refl
twice_over far2 = refl

abbrev edge : Nine → RingEdge Corner Carrier
edge in0 = record { from = end01; to = center; on = Bisector 0 1 }
edge out0 = record { from = center; to = end02; on = Bisector 0 2 }
edge far0 = record { from = end02; to = end01; on = Infinity }
edge in1 = record { from = end12; to = center; on = Bisector 1 2 }
edge out1 = record { from = center; to = end01; on = Bisector 0 1 }
edge far1 = record { from = end01; to = end12; on = Infinity }
edge in2 = record { from = end02; to = center; on = Bisector 0 2 }
edge out2 = record { from = center; to = end12; on = Bisector 1 2 }
edge far2 = record { from = end12; to = end02; on = Infinity }

abbrev names : Names Corner Carrier Nine
names = record { test = same_nine; edge = edge; opposite = opposite; twice = twice_over }

abbrev six : List Nine
six = in0 ∷ out0 ∷ in1 ∷ out1 ∷ in2 ∷ out2 ∷ []

abbrev three : List Nine
three = far0 ∷ far1 ∷ far2 ∷ []

parted : (x : Nine) → often same_nine x nine ≡ often same_nine x six + often same_nine x three
parted in0 = refl
parted out0 = refl
parted far0 = refl
parted in1 = refl
parted out1 = refl
parted far1 = refl
parted in2 = refl
parted out2 = refl
parted far2 = refl

paired : (x : Nine) → often same_nine (opposite x) six ≡ often same_nine x six
paired in0 = refl
paired out0 = refl
paired far0 = refl
paired in1 = refl
paired out1 = refl
paired far1 = refl
paired in2 = refl
paired out2 = refl
paired far2 = refl

opposed : (x : Nine) → 0 < often same_nine x six → Reversed (edge x) (edge (opposite x))
opposed in0 p = record { from = refl; to = refl; on = refl }
opposed out0 p = record { from = refl; to = refl; on = refl }
opposed far0 p = absurd (omega arith)
opposed in1 p = record { from = refl; to = refl; on = refl }
opposed out1 p = record { from = refl; to = refl; on = refl }
opposed far1 p = absurd (omega arith)
opposed in2 p = record { from = refl; to = refl; on = refl }
opposed out2 p = record { from = refl; to = refl; on = refl }
opposed far2 p = absurd (omega arith)

bisected : (x : Nine) → 0 < often same_nine x six → (i : ℕ) × (j : ℕ) × ((edge x).on ≡ Bisector i j)
bisected in0 p = (0, 1, refl)
bisected out0 p = (0, 2, refl)
bisected far0 p = absurd (omega arith)
bisected in1 p = (1, 2, refl)
bisected out1 p = (0, 1, refl)
bisected far1 p = absurd (omega arith)
bisected in2 p = (0, 2, refl)
bisected out2 p = (1, 2, refl)
bisected far2 p = absurd (omega arith)

joined : JoinedRings names box rings border
joined = record {
  all = nine;
  pairs = six;
  rest = three;
  all_named = refl;
  rest_named = refl;
  parted = parted;
  paired = paired;
  opposed = opposed;
  bisected = bisected;
  bordered = (tt, refl, (tt, refl, (tt, refl, tt)));
}

ordered : Ordered box
unfolding lt of_bits
ordered = record { across = refl; down = refl }

headed01 : Far HasDirection end01
headed01 = (refl, inr (inl up_is))

headed02 : Far HasDirection end02
headed02 = (refl, inl up_is)

headed12 : Far HasDirection end12
headed12 = (refl, inr (inr (inl down_is)))

fit : AllFit box rings
fit = ((tt, (tt, ((headed02, headed01), tt))), ((tt, (tt, ((headed01, headed12), tt))), ((tt, (tt, ((headed12, headed02), tt))), tt)))

both : BothWays crossings
both s i j p q = refl

once : TurnsOnce box crossings border
unfolding lt le eq add neg of_bits round
once = refl

-- the three pieces fill the box
pub three_fill : sum_by twice (map (piece_of box crossings) rings) ∔ twice (corners_of box) ≈ none
three_fill = pieces_whole box ordered crossings both names rings border joined fit once

-- the piece of (0, 0)
pub first_piece : piece_of box crossings ring0 ≡ at two zero ∷ at two two ∷ at zero two ∷ at zero zero ∷ []
unfolding lt le eq add neg of_bits round
first_piece = refl

-- and as it is written
pub first_written : written_of box crossings ring0 ≡ at zero zero ∷ at zero two ∷ at two two ∷ at two zero ∷ []
unfolding lt le eq add neg of_bits round
first_written = refl

pub written_fill : sum_by twice (map (written_of box crossings) rings) ≈ twice (corners_of box)
written_fill = pieces_fill box ordered crossings both names rings border joined fit once
