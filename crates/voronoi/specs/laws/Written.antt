-- What a call that answers 0 has written, by its promise: the beginning of the whole list, and the whole of it where the call says that it ended.
use Rattle.std.specs.Prelude.{◌≡◌, refl, Bool, true, false, List, ℕ, ◌≤◌, take, drop}
use Rattle.std.proofs.Common.{sym, ◌∙◌, arith, take_at, drop_at, leb-true, le-leb}
use Rattle.std.proofs.Math.Path.{ap}
use Rattle.std.proofs.Math.ListN.{length}
use Rattle.std.proofs.Math.Seq.{take_all}
use Rattle.mesh.specs.Accepted.{Mesh}
use Rattle.mesh_check.specs.whole.AtExit.{at_exit}
use Rattle.plane_calls.specs.Plane.{bit}
use Rattle.voronoi.specs.Walks.{Handed}

bit_one : (b : Bool) → ◌≡◌ {A = ℕ} 1 (bit b) → b ≡ true
unfolding bit
bit_one true q = refl
bit_one false q = absurd (omega arith)

module _ {N : ℕ → Type 0} {m : Mesh} {whole w w' o o' : List ℕ} {k : ℕ} where
  -- the beginning, and nothing after it is touched
  pub part : {e : ℕ} → Handed N m whole w w' o o' k e 0 → take k o' ≡ take (length o) whole
  unfolding at_exit
  part a = rw (a.out, a.count) (take_at (take (length o) whole) _ _ refl)

  pub rest : {e : ℕ} → Handed N m whole w w' o o' k e 0 → drop k o' ≡ drop k o
  unfolding at_exit
  rest a = rw (a.out, a.count) (drop_at (take (length o) whole) _ _ refl)

  room : Handed N m whole w w' o o' k 1 0 → length whole ≤ length o
  room a = leb-true (length whole) (length o) (bit_one _ a.ended)

  pub written : Handed N m whole w w' o o' k 1 0 → take k o' ≡ whole
  written a = part a ∙ take_all (length o) whole (room a)

  -- a list that fits is written whole
  pub fitting : {e : ℕ} → Handed N m whole w w' o o' k e 0 → length whole ≤ length o → (take k o' ≡ whole) × (k ≡ length whole) × (e ≡ 1)
  unfolding bit
  fitting a h = (part a ∙ take_all (length o) whole h, a.count ∙ ap length (take_all (length o) whole h), a.ended ∙ rw (le-leb (length whole) (length o) h))

-- of two calls for one list, the one that ended has all of it, and the other the beginning
pub begins : {N M : ℕ → Type 0} {m : Mesh} {whole v v' x x' w w' o o' : List ℕ} {j k e : ℕ}
    → Handed N m whole v v' x x' j 1 0 → Handed M m whole w w' o o' k e 0 → take k o' ≡ take (length o) (take j x')
begins {o = o} a b = part b ∙ ap (take (length o)) (sym (written a))
