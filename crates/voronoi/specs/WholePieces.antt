-- Theorem: what voronoi_cut is for, on its promise alone, whatever the mesh and whatever a hand has flipped in it. After 0:
-- `pieces_whole`: the exact areas of the pieces of all sites add up to exactly the box's: what the sides gain and the box loses is what the box gains and the sides lose.
-- `pieces_inside`: every vertex that a piece names is in the box, by exact comparison.
-- `pieces_covered`: at every place of the box (in units of 2 ^ -1074 / c; its left and its top edge are of it) the windings of all pieces add up to exactly 1.
-- `pieces_kinds`: the two calls one after the other. Where voronoi_certify, with the same box and sites, the slices as the cutting left them and its first offsets, one more than there are sites,
-- answers 0 too, its kind is 0, 4 or 5: a corner nearer to another site, or two sites at one place, is all that is left to run time; and after kind 0 the theorems of Certified hold of the pieces.
-- A box that a call is given is in order where rule 3 holds (`size_ordered`, `edges_ordered` of cutting_calls).
use Rattle.std.specs.Prelude.{◌≡◌, List, ◌⊎◌, ℕ, ◌+◌, take}
use Rattle.plane.specs.declared.given.Given.{Given}
use Rattle.mesh.specs.Accepted.{Mesh, site_count}
use Rattle.auditing.specs.Promise.{unless_refused}
use Rattle.certifying.specs.cover.Sums.{sum_all}
use Rattle.certifying.specs.cover.Cover.{comes_up}
use Rattle.certifying.specs.truth.Places.{all_pieces}
use Rattle.cutting_laws.specs.fills.laws.Within.{EachInBox}
use Rattle.cutting_calls.specs.cut_admission.CutSlices.{CutSlices}
use Rattle.cutting_calls.specs.call.Steps.{InOrder}
use Rattle.cutting_calls.specs.answer.AnswerWhole.{pieces_in, FillsBox, whole, inside}
use Rattle.cutting_calls.specs.answer.AnswerCertified.{cut_covered, cut_kinds}
use Rattle.voronoi.specs.Cuts.{Cut}
use Rattle.voronoi.specs.Certificates.{Certify}
use Rattle.voronoi.specs.Certified.{InTheBox}

module _ {m : Mesh} {g : Given} (order : InOrder g) {old new : CutSlices} {count : ℕ} (answer : Cut m g old new 0 count) where
  -- the offsets of the pieces: a call may be lent more
  abbrev piece_offsets : List ℕ
  piece_offsets = take (site_count m.sites + 1) new.offsets

  pub pieces_whole : FillsBox g.bounds (pieces_in m new)
  pieces_whole = whole m g order old new count answer

  pub pieces_inside : EachInBox g.bounds (pieces_in m new)
  pieces_inside = inside m g order old new count answer

  pub pieces_covered : (c X Y : ℕ) → InTheBox c g.bounds X Y
      → sum_all (comes_up X Y) (all_pieces c new.vertices piece_offsets new.indexes)
      ≡ sum_all (λ p q. comes_up X Y q p) (all_pieces c new.vertices piece_offsets new.indexes) + 1
  pieces_covered c X Y p = cut_covered m g order old new count answer c X Y p.left p.right p.top p.bottom

  pub pieces_kinds : {bits : ℕ} {work-old work-new : List ℕ} {kind site vertex other : ℕ}
      → Certify g m.sites new.vertices piece_offsets new.indexes bits work-old work-new 0 kind site vertex other
      → (kind ≡ 0) ⊎ (kind ≡ 4) ⊎ (kind ≡ 5)
  unfolding unless_refused
  pieces_kinds {bits} certificate = rw certificate.kind_is (cut_kinds m g order old new count answer bits)
