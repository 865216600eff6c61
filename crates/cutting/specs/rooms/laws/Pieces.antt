-- Laws: cut by four sides a ring is no longer than 81 / 16 of what it was (`four_length`), and of a ring by the names of its edges those on bisectors are counted by their names
-- (`named_bisected`): with these `entries_room` and `points_room` bound the pieces of all sites.
use Rattle.std.specs.Prelude.{◌≡◌, refl, Bool, true, false, List, [], ◌∷◌, ℕ, ◌*◌, ◌≤◌, length}
use Rattle.std.proofs.Common.{arith}
use Rattle.cutting.specs.cuts.Rings.{At, RingEdge}
use Rattle.cutting.specs.cuts.Cut.{Side, cut_by}
use Rattle.cutting.specs.cuts.Lengths.{cut_length}
use Rattle.cutting.specs.cuts.Named.{EdgeName, out, ray, far, named_ring}
use Rattle.cutting.specs.rooms.laws.Fresh.{flag, bisected_in}
use Rattle.cutting.specs.rooms.laws.Rings.{bisectors}

pub four_length : {C K : Type 0} (a b c d : Side C K) (ring : List (At C K)) → 16 * length (cut_by d (cut_by c (cut_by b (cut_by a ring)))) ≤ 81 * length ring
four_length a b c d ring =
    omega (
      arith,
      cut_length a ring,
      cut_length b (cut_by a ring),
      cut_length c (cut_by b (cut_by a ring)),
      cut_length d (cut_by c (cut_by b (cut_by a ring))),
    )

module _ {C K : Type 0} (edge : EdgeName → RingEdge C K) where
  pub named_length : (l : List EdgeName) → length (named_ring edge l) ≡ length l
  named_length [] = refl
  named_length (n ∷ l) = omega (arith, named_length l)

  module _ (fresh : C → Bool) (bisects : K → Bool) (line : (o : ℕ) → bisects (edge (far o)).on ≡ false) where
    flag_one : (b : Bool) → flag b ≤ 1
    flag_one true = omega arith
    flag_one false = omega arith

    pub named_bisected : (l : List EdgeName) → bisected_in fresh bisects (named_ring edge l) ≤ bisectors l
    named_bisected [] = omega arith
    named_bisected (out o ∷ l) = omega (arith, flag_one (bisects (edge (out o)).on), named_bisected l)
    named_bisected (ray o ∷ l) = omega (arith, flag_one (bisects (edge (ray o)).on), named_bisected l)
    named_bisected (far o ∷ l) = rw (line o) (omega (arith, named_bisected l))
