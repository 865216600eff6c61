-- The number of a refusal, as docs/use/RULES.md has it, and of an answer: 0 where nothing is refused.
use Rattle.std.specs.Prelude.{ℕ, Result, Ok, Err}
use Rattle.base.specs.numbers.Numbers as numbers
use Rattle.base.specs.declared.refusal.Refusal.{Refusal}
use Rattle.base.specs.declared.refusal.Refusal.TheVariants as refusal

abbrev pub number_of : Refusal → ℕ
number_of refusal.Count = numbers.refused_count
number_of refusal.Room = numbers.refused_room
number_of refusal.Box = numbers.refused_box
number_of refusal.Site = numbers.refused_site
number_of refusal.Destination = numbers.refused_destination
number_of refusal.Coordinate = numbers.refused_coordinate
number_of refusal.Triangle = numbers.refused_triangle
number_of refusal.Pairing = numbers.refused_pairing
number_of refusal.Hull = numbers.refused_hull
number_of refusal.Fan = numbers.refused_fan
number_of refusal.Circumcenter = numbers.refused_circumcenter
number_of refusal.Extension = numbers.refused_extension
number_of refusal.NoCrossing = numbers.refused_no_crossing
number_of refusal.OneCrossing = numbers.refused_one_crossing
number_of refusal.Offsets = numbers.refused_offsets
number_of refusal.Form = numbers.refused_form
number_of refusal.Entry = numbers.refused_entry
number_of refusal.Twice = numbers.refused_twice
number_of refusal.Unclipped = numbers.refused_unclipped
number_of refusal.Points = numbers.refused_points
number_of refusal.Grid = numbers.refused_grid
number_of refusal.Flip = numbers.refused_flip
number_of refusal.Corner = numbers.refused_corner
number_of refusal.Border = 25

abbrev pub answer_number : {T : Type 0} → Result T Refusal → ℕ
answer_number (Ok _) = 0
answer_number (Err r) = number_of r
