-- Short forms of the records that the definition writes out, for laws and proofs; no promise leads here.
use Rattle.std.specs.Prelude.{ℕ, Bool, List, [], ◌∷◌, ◌++◌, eqb}
use Rattle.base.specs.common.Pick.{pick}
use Rattle.plane.specs.declared.points.Point.{Point}
use Rattle.plane.specs.declared.boxes.BoundingBox.{BoundingBox}
use Rattle.vertices.specs.Add.{Added}
use Rattle.definition.specs.declared.Fault.{Fault}
use Rattle.definition.specs.Cell.{Entry, last_or, firstCrossing, secondCrossing, Taken, took, Ins, with_corners, led, insert_edge, Change, Tip, RingPart}
use Rattle.definition.specs.Build.{Extensions, CellState}

abbrev pub fault : ℕ → ℕ → ℕ → ℕ → Fault
fault n place from to = record { number = n; place = place; from = from; to = to }

abbrev pub ins : List ℕ → List Entry → Ins
ins os es = record { owners = os; new = es }

abbrev pub before : Entry → Ins → Ins
before e i = ins i.owners (e ∷ i.new)

-- an edge along the box, by the sides f and s of its two vertices
abbrev pub insert_at : ℕ → ℕ → ℕ → ℕ → ℕ → List ℕ → ℕ → ℕ → Ins
insert_at nc site last first second os f s = led (eqb last first) first (with_corners nc site f s second os)

-- what leads an open cell to the first crossing
abbrev pub link : BoundingBox → ℕ → ℕ → List Point → List ℕ → Bool → ℕ → ℕ → Ins
link b nc site vs os opened last first = pick opened (λ _. insert_edge b nc site vs os last last first) (λ _. ins os [])

abbrev pub change : List Point → List ℕ → List Entry → Bool → List Taken → Change
change vs os es o ts = record { verts = vs; owners = os; new = es; opened = o; steps = ts }

-- the steps of an edge with one crossing, and of one with two
abbrev pub took_one : Added → List Taken
took_one r = took firstCrossing r ∷ []

abbrev pub took_two : Added → Added → List Taken
took_two r t = took firstCrossing r ∷ took secondCrossing t ∷ []

abbrev pub tip : List Point → List ℕ → ℕ → ℕ → Bool → Bool → Tip
tip vs os l p i o = record { verts = vs; owners = os; last = l; p = p; p_in = i; opened = o }

abbrev pub part : Tip → List Entry → List Taken → RingPart
part t es ts = record { tip = t; new = es; steps = ts }

abbrev pub parts_joined : RingPart → RingPart → RingPart
parts_joined c d = part d.tip (c.new ++ d.new) (c.steps ++ d.steps)

-- the part that one edge is, to the ring's vertex q
abbrev pub moved : Tip → ℕ → Bool → Change → RingPart
moved t q qIn d = part (tip d.verts d.owners (last_or t.last d.new) q qIn d.opened) d.new d.steps

abbrev pub extensions : List Point → List ℕ → List Taken → Extensions
extensions vs xs ts = record { verts = vs; at = xs; steps = ts }

abbrev pub cell_state : List Point → List ℕ → List (List Entry) → List Taken → CellState
cell_state vs os cs ts = record { verts = vs; owners = os; cells = cs; steps = ts }
