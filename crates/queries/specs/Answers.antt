-- What each query on a lent mesh promises: its number, its values and every lent slice at exit.
use Rattle.std.specs.Prelude.{◌≡◌, Bool, false, List, [], ◌++◌, ℕ, ◌≤◌, leb, eqb, length, get_or, take, drop, Result, Ok, Err}
use Rattle.base.specs.common.Pick.{pick}
use Rattle.base.specs.common.Refusals.{Rule, Finds}
use Rattle.base.specs.numbers.Numbers.{EMPTY, refused_offsets}
use Rattle.mesh.specs.Rules.{call_rules}
use Rattle.mesh.specs.Mesh.{whole_of}
use Rattle.mesh.specs.Accepted.{Mesh, table_of, site_count}
use Rattle.mesh_check.specs.whole.AtExit.{at_exit}
use Rattle.mesh_check.specs.whole.Answers.{work_after}
use Rattle.walks.specs.shared.Edge.{shared_edge_of}
use Rattle.plane.specs.declared.points.Point.{Point}
use Rattle.walks.specs.neighbours.Neighbours.{neighbours_of}
use Rattle.queries.specs.clipped.Clipped.{clipped_neighbours_of}
use Rattle.walks.specs.paths.Path.{whole_path}
use Rattle.arguments.specs.asking.Asks.{site_rules, path_rules, cell_rules}
use Rattle.base.specs.declared.refusal.Refusal.{Refusal}
use Rattle.base.specs.refusal.Number.{answer_number}
use Rattle.queries.specs.declared.Listed.{Listed}

-- the beginning of a whole list, as far as there is room, then what was there
abbrev pub written : List ℕ → List ℕ → List ℕ
written whole old = take (length old) whole ++ drop (length (take (length old) whole)) old

-- an output slice of `old` after the number r: 16 leaves it as it was
unfoldable pub out_after : List ℕ → List ℕ → ℕ → List ℕ
out_after whole old r = pick (eqb r refused_offsets) (λ _. old) (λ _. at_exit EMPTY (written whole old) old r)

-- how many were written, and whether the last one written ends the list
unfoldable pub count_after : List ℕ → List ℕ → ℕ → ℕ
count_after whole old r = pick (eqb r 0) (λ _. length (take (length old) whole)) (λ _. 0)

unfoldable pub ended_after : List ℕ → List ℕ → ℕ → Bool
ended_after whole old r = pick (eqb r 0) (λ _. leb (length whole) (length old)) (λ _. false)

-- what is told of a list: the number, how many entries were written, and whether the last one written ends it
pub record ListTold : Type 0 where
  pub number : ℕ
  pub count : ℕ
  pub ended : Bool

abbrev pub listed_of : ℕ → ℕ → Bool → ListTold
listed_of number count ended = record { number = number; count = count; ended = ended }

-- none and no where it is refused
abbrev pub count_of : Result Listed Refusal → ℕ
count_of (Ok l) = l.count
count_of (Err _) = 0

abbrev pub ended_of : Result Listed Refusal → Bool
ended_of (Ok l) = l.ended
ended_of (Err _) = false

abbrev pub listed : Result Listed Refusal → ListTold
listed r = listed_of (answer_number r) (count_of r) (ended_of r)

-- a list handed out as far as there is room: w and o are the work and output slices, w' and o' at exit
pub record ListAnswer (Number : ℕ → Type 0) (m : Mesh) (whole w w' o o' : List ℕ) (r : ListTold) : Type 0 where
  pub number : Number r.number
  pub work : w' ≡ work_after m w r.number
  pub out : o' ≡ out_after whole o r.number
  pub count : r.count ≡ count_after whole o r.number
  pub ended : r.ended ≡ ended_after whole o r.number

module _ (m : Mesh) where
  -- the number of the first rule that is broken: 1, 2, the call's own, 6, 7 to 10, and what is asked after them
  abbrev pub Number : List ℕ → List (Rule ℕ) → List (Rule ℕ) → ℕ → Type 0
  Number w own after = Finds (call_rules m (site_count m.sites ≤ length w) own ++ after) 0

  -- the walk from the leftmost half-edge of site s
  abbrev pub WalkAnswer : ℕ → List ℕ → List ℕ → List ℕ → List ℕ → ListTold → Type 0
  WalkAnswer s w =
      ListAnswer (Number w (site_rules (site_count m.sites) s) []) m (whole_of m.halfedges (get_or (table_of m) s 0)) w

  abbrev pub NeighboursAnswer : ℕ → List ℕ → List ℕ → List ℕ → List ℕ → ListTold → Type 0
  NeighboursAnswer s w =
      ListAnswer (Number w (site_rules (site_count m.sites) s) []) m (neighbours_of m.triangles m.halfedges (table_of m) s) w

  abbrev pub ClippedAnswer : List ℕ → List ℕ → ℕ → List ℕ → List ℕ → List ℕ → List ℕ → ListTold → Type 0
  ClippedAnswer off ix s w =
      ListAnswer (Number w (site_rules (site_count m.sites) s) (cell_rules off ix (site_count m.sites))) m
      (clipped_neighbours_of m.triangles m.halfedges (table_of m) off ix s) w

  abbrev pub PathAnswer : ℕ → Point → List ℕ → List ℕ → List ℕ → List ℕ → ListTold → Type 0
  PathAnswer s p w =
      ListAnswer (Number w (path_rules (site_count m.sites) s p) []) m (whole_path m.sites m.triangles m.halfedges (table_of m) p s) w

-- what is told of an edge: the number, and the half-edge
pub record EdgeTold : Type 0 where
  pub number : ℕ
  pub edge : ℕ

abbrev pub found_of : ℕ → ℕ → EdgeTold
found_of number edge = record { number = number; edge = edge }

-- EMPTY where it is refused
abbrev pub edge_of : Result ℕ Refusal → ℕ
edge_of (Ok e) = e
edge_of (Err _) = EMPTY

abbrev pub found : Result ℕ Refusal → EdgeTold
found r = found_of (answer_number r) (edge_of r)

-- the edge that triangles a and b share: the half-edge of a, or EMPTY; nothing is asked of their numbers
pub record EdgeAnswer (m : Mesh) (a b : ℕ) (w w' : List ℕ) (r : EdgeTold) : Type 0 where
  pub number : Number m w [] [] r.number
  pub work : w' ≡ work_after m w r.number
  pub edge : r.edge ≡ pick (eqb r.number 0) (λ _. shared_edge_of m.halfedges a b) (λ _. EMPTY)
