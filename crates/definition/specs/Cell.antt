-- One cell (the Rust's clip_cell and what it calls): the ring of a site clipped to the box, each entry marked with the step that put it there.
-- b is the box, nc the number of circumcenters, vs the vertices, os the four corners' owners: a corner that was wrapped has EMPTY.
use Rattle.std.specs.Prelude.{ℕ, zero, suc, ◌+◌, ◌%◌, Bool, true, false, ◌&&◌, List, [], ◌∷◌, ◌++◌, map, reverse, length, get_or, set, take, drop, ltb, eqb, Float}
use Rattle.std.specs.Float.{nan}
use Rattle.std.specs.Float.Ieee.{eq}
use Rattle.base.specs.common.Pick.{pick}
use Rattle.base.specs.common.Binary64.{◌⊟◌}
use Rattle.base.specs.numbers.Numbers.{EMPTY, refused_no_crossing, refused_one_crossing}
use Rattle.plane.specs.points.Plane.{at}
use Rattle.plane.specs.declared.points.Point.{Point}
use Rattle.plane.specs.sides.Sides.{inside_of, which_of}
use Rattle.plane.specs.declared.boxes.BoundingBox.{BoundingBox}
use Rattle.plane.specs.rays.Ray.{order_of, ray_of}
use Rattle.plane.specs.declared.lines.Crossing.{Crossing}
use Rattle.plane.specs.declared.lines.Crossing.TheVariants.{None, One, Two}
use Rattle.vertices.specs.Add.{Added, add_vertex}
use Rattle.definition.specs.declared.Fault.{Fault}
use Rattle.definition.specs.Fault.{Outcome, ok, refused, and_then, at_edge}

-- ---- entries

-- a circumcenter inside the box, a clipped vertex, a corner that was wrapped
pub data Mark : Type 0 where
  plain crossing wrapped : Mark

pub record Entry : Type 0 where
  pub mark : Mark
  pub at : ℕ

abbrev pub entry : Mark → ℕ → Entry
entry m v = record { mark = m; at = v }

-- the last entry's vertex, n where there is none
abbrev pub last_or : ℕ → List Entry → ℕ
last_or n [] = n
last_or n (e ∷ es) = last_or e.at es

-- a cell with its marks taken off
abbrev pub unmarked : List Entry → List ℕ
unmarked es = map (λ (e : Entry). e.at) es

-- ---- steps that add a point

pub data StepKind : Type 0 where
  extension firstCrossing secondCrossing : StepKind
  deriving Discrete as StepKind-discrete

-- such a step: its kind, and whether the point was new or a vertex was taken again
pub record Taken : Type 0 where
  pub kind : StepKind
  pub fresh : Bool

abbrev pub took : StepKind → Added → Taken
took k a = record { kind = k; fresh = a.fresh }

-- ---- wrapping

-- what a step puts into a cell: the owners left and the new entries
pub record Ins : Type 0 where
  pub owners : List ℕ
  pub new : List Entry

-- whether corner c is next: it is not the last side's, and the site owns it
abbrev pub goes : ℕ → ℕ → ℕ → List ℕ → Bool
goes site stop c os = pick (eqb c stop) (λ _. false) (λ _. eqb (get_or os c 0) site)

-- the corners from c on, counter-clockwise, at most k of them
unfoldable pub wraps : ℕ → ℕ → ℕ → ℕ → ℕ → List ℕ → Ins
wraps zero nc site stop c os = record { owners = os; new = [] }
wraps (suc k) nc site stop c os =
    pick (goes site stop c os)
    (λ _. let w = wraps k nc site stop ((c + 1) % 4) (set os c EMPTY) in record { owners = w.owners; new = entry wrapped (nc + c) ∷ w.new })
    (λ _. record { owners = os; new = [] })

-- the second clipped vertex, with the corners before it or after it; the clipped vertices are on the sides f and s (build_laws/specs/NoSide.antt), and a place that is no side has no owner
unfoldable pub with_corners : ℕ → ℕ → ℕ → ℕ → ℕ → List ℕ → Ins
with_corners nc site f s second os =
    pick (eqb (get_or os f EMPTY) site)
    (λ _. let w = wraps 4 nc site s f os in record { owners = w.owners; new = w.new ++ entry crossing second ∷ [] })
    (λ _. pick (eqb (get_or os s EMPTY) site)
    (λ _. let w = wraps 4 nc site f s os in record { owners = w.owners; new = entry crossing second ∷ w.new })
    (λ _. record { owners = os; new = entry crossing second ∷ [] }))

-- the first clipped vertex too, unless it is the last entry already
abbrev pub led : Bool → ℕ → Ins → Ins
led true first i = i
led false first i = record { owners = i.owners; new = entry crossing first ∷ i.new }

abbrev pub vertex_at : List Point → ℕ → Point
vertex_at vs i = get_or vs i (at nan nan)

-- insert_edge_and_wrap_around_corners; last is the cell's last entry, EMPTY if it has none
unfoldable pub insert_edge : BoundingBox → ℕ → ℕ → List Point → List ℕ → ℕ → ℕ → ℕ → Ins
insert_edge b nc site vs os last first second =
    led (eqb last first) first (with_corners nc site (which_of b (vertex_at vs first)) (which_of b (vertex_at vs second)) second os)

-- ---- clipping an edge

-- whether the first point of an ordered crossing is (x, y), as floats compare
abbrev pub first_is : Crossing → Float → Float → Bool
first_is None x y = false
first_is (One u v) x y = eq u x && eq v y
first_is (Two u v w z) x y = eq u x && eq v y

-- of the crossings of the ray from p, those of the edge from p to q: of two, neither where they come after q
abbrev pub on_edge : Point → Point → Point → Crossing → Crossing
on_edge p q d None = None
on_edge p q d (One x y) = One x y
on_edge p q d (Two x y u v) = pick (first_is (order_of p d (Two q.x q.y x y)) x y) (λ _. Two x y u v) (λ _. None)

unfoldable pub edge_crossing : BoundingBox → Point → Point → Crossing
edge_crossing b p q =
    let d = at (q.x ⊟ p.x) (q.y ⊟ p.y) in
    on_edge p q d (ray_of b p d)

-- the crossings as vertices: at most two are added
pub data EdgeClip : Type 0 where
  missed : EdgeClip
  once : Added → EdgeClip
  twice : Added → Added → EdgeClip

unfoldable pub clip_with : ℕ → List Point → Crossing → EdgeClip
clip_with nc vs None = missed
clip_with nc vs (One x y) = once (add_vertex nc vs (at x y))
clip_with nc vs (Two x y u v) =
    let r = add_vertex nc vs (at x y) in
    twice r (add_vertex nc r.verts (at u v))

-- clip_voronoi_edge
unfoldable pub clip_edge : BoundingBox → ℕ → List Point → ℕ → ℕ → EdgeClip
clip_edge b nc vs p q = clip_with nc vs (edge_crossing b (vertex_at vs p) (vertex_at vs q))

-- ---- one edge of the ring, from vertex p to vertex q

-- what it does: the vertices afterwards, the owners left, the new entries, whether the cell is left open, the points it added or took again
pub record Change : Type 0 where
  pub verts : List Point
  pub owners : List ℕ
  pub new : List Entry
  pub opened : Bool
  pub steps : List Taken

-- from inside to outside
unfoldable pub leave : ℕ → List ℕ → EdgeClip → Outcome ℕ Change
leave p os missed = refused refused_no_crossing
leave p os (once r) = ok (record { verts = r.verts; owners = os; new = entry plain p ∷ entry crossing r.at ∷ []; opened = true; steps = took firstCrossing r ∷ [] })
leave p os (twice r t) = ok (record { verts = t.verts; owners = os; new = entry plain p ∷ entry crossing r.at ∷ []; opened = true; steps = took firstCrossing r ∷ took secondCrossing t ∷ [] })

-- from outside to inside; last is the cell's last entry
unfoldable pub enter_at : BoundingBox → ℕ → ℕ → List Point → List ℕ → ℕ → ℕ → List Taken → Change
enter_at b nc site vs os last first ts =
    let i = insert_edge b nc site vs os last last first in
    record { verts = vs; owners = i.owners; new = i.new; opened = false; steps = ts }

unfoldable pub enter : BoundingBox → ℕ → ℕ → List ℕ → ℕ → EdgeClip → Outcome ℕ Change
enter b nc site os last missed = refused refused_no_crossing
enter b nc site os last (once r) = ok (enter_at b nc site r.verts os last r.at (took firstCrossing r ∷ []))
enter b nc site os last (twice r t) = ok (enter_at b nc site t.verts os last r.at (took firstCrossing r ∷ took secondCrossing t ∷ []))

-- both outside: an open cell is first led from its last entry to the first crossing
unfoldable pub cross_at : BoundingBox → ℕ → ℕ → List Point → List ℕ → Bool → ℕ → ℕ → ℕ → List Taken → Change
cross_at b nc site vs os opened last first second ts =
    let i : Ins = pick opened (λ _. insert_edge b nc site vs os last last first) (λ _. record { owners = os; new = [] }) in
    let j = insert_edge b nc site vs i.owners (last_or last i.new) first second in
    record { verts = vs; owners = j.owners; new = i.new ++ j.new; opened = opened; steps = ts }

-- a lone crossing is refused; that an open cell was led to it first, a refused build does not show
unfoldable pub cross : BoundingBox → ℕ → ℕ → List Point → List ℕ → Bool → ℕ → EdgeClip → Outcome ℕ Change
cross b nc site vs os opened last missed = ok (record { verts = vs; owners = os; new = []; opened = opened; steps = [] })
cross b nc site vs os opened last (once r) = refused refused_one_crossing
cross b nc site vs os opened last (twice r t) = ok (cross_at b nc site t.verts os opened last r.at t.at (took firstCrossing r ∷ took secondCrossing t ∷ []))

-- the four cases; pIn and qIn: whether p and q are inside
unfoldable pub clip_step : BoundingBox → ℕ → ℕ → ℕ → Bool → ℕ → Bool → List Point → List ℕ → Bool → ℕ → Outcome ℕ Change
clip_step b nc site p p_in q qIn vs os opened last =
    pick p_in
    (λ _. pick qIn
    (λ _. ok (record { verts = vs; owners = os; new = entry plain p ∷ []; opened = opened; steps = [] }))
    (λ _. leave p os (clip_edge b nc vs p q)))
    (λ _. pick qIn
    (λ _. enter b nc site os last (clip_edge b nc vs q p))
    (λ _. cross b nc site vs os opened last (clip_edge b nc vs p q)))

-- ---- the ring

-- only circumcenters can be inside
unfoldable pub in_box : BoundingBox → ℕ → List Point → ℕ → Bool
in_box b nc vs i = pick (ltb i nc) (λ _. inside_of b (vertex_at vs i)) (λ _. false)

-- a cell on its way: vertices and owners so far, its last entry (EMPTY if it has none), the ring's vertex p where it stands, whether that is inside, whether the cell is open
pub record Tip : Type 0 where
  pub verts : List Point
  pub owners : List ℕ
  pub last : ℕ
  pub p : ℕ
  pub p_in : Bool
  pub opened : Bool

-- where some edges of the ring lead, the entries that they add, and the points that they added or took again
pub record RingPart : Type 0 where
  pub tip : Tip
  pub new : List Entry
  pub steps : List Taken

unfoldable pub step_to : BoundingBox → ℕ → ℕ → Tip → ℕ → Outcome Fault RingPart
step_to b nc site t q =
    let qIn = in_box b nc t.verts q in
    and_then (at_edge site t.p q (clip_step b nc site t.p t.p_in q qIn t.verts t.owners t.opened t.last)) λ d.
    ok (record { tip = record { verts = d.verts; owners = d.owners; last = last_or t.last d.new; p = q; p_in = qIn; opened = d.opened }; new = d.new; steps = d.steps })

unfoldable pub steps_to : BoundingBox → ℕ → ℕ → List ℕ → Tip → Outcome Fault RingPart
steps_to b nc site [] t = ok (record { tip = t; new = []; steps = [] })
steps_to b nc site (q ∷ qs) t =
    and_then (step_to b nc site t q) λ c.
    and_then (steps_to b nc site qs c.tip) λ d.
    ok (record { tip = d.tip; new = c.new ++ d.new; steps = c.steps ++ d.steps })

-- the place of the first vertex inside, else the ring's length
unfoldable pub first_inside : BoundingBox → ℕ → List Point → List ℕ → ℕ
first_inside b nc vs [] = 0
first_inside b nc vs (q ∷ qs) = pick (in_box b nc vs q) (λ _. 0) (λ _. suc (first_inside b nc vs qs))

-- the ring reversed and cyclic: from the vertex before place f round to place f
unfoldable pub turned : ℕ → List ℕ → List ℕ
turned f ring = reverse (take f ring) ++ reverse (drop f ring)

unfoldable pub clip_from : BoundingBox → ℕ → ℕ → List ℕ → List Point → List ℕ → ℕ → Bool → Outcome Fault RingPart
clip_from b nc site ring vs os f inside = steps_to b nc site (turned f ring) (record { verts = vs; owners = os; last = EMPTY; p = get_or ring f 0; p_in = inside; opened = false })

-- clip_cell: from the first vertex inside, else from the first
unfoldable pub clip_cell : BoundingBox → ℕ → ℕ → List ℕ → List Point → List ℕ → Outcome Fault RingPart
clip_cell b nc site ring vs os =
    let f = first_inside b nc vs ring in
    pick (ltb f (length ring)) (λ _. clip_from b nc site ring vs os f true) (λ _. clip_from b nc site ring vs os 0 false)
