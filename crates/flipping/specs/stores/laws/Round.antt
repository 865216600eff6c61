-- The loop that goes round a site: the least so far and that of the way that is left are the least of all.
use Rattle.std.specs.Prelude.{◌≡◌, List}
use Prim.Native.Nat.{ℕ, suc, ◌+◌, ◌-◌, ◌≤◌, ◌<◌}
use Rattle.std.proofs.Math.Nat.{sub-zero}
use native.Mathlib.Omega.{arith}
use Rattle.std.proofs.Math.ListN.{length}
use Rattle.mesh.specs.Mesh.{turn_of, walk_of}
use Rattle.mesh.specs.laws.WalkSteps.{walk_go, walk_done}
use Rattle.flipping.specs.Entries.{lesser, least_of, least_round}

pub record Going (he : List ℕ) (lost kept e low n : ℕ) : Type 0 where
  pub room : n ≤ length he
  pub rest : least_of low (walk_of he lost (length he - n) e) ≡ least_round he lost kept

module _ (he : List ℕ) (lost kept : ℕ) where
  pub round_start : Going he lost kept kept kept 0
  round_start = record { room = omega arith; rest = rw sub-zero }

  module _ (e low n : ℕ) (g : Going he lost kept e low n) where
    pub round_step : (f m : ℕ) → n < length he → e < length he → m ≡ lesser e low → f ≡ turn_of he lost e → Going he lost kept f m (n + 1)
    unfolding least_of
    round_step f m l h p q =
        let k : length he - n ≡ suc (length he - (n + 1)) = omega arith in
        record { room = omega arith; rest = rw (p, q) (rw (k, walk_go he lost (length he - (n + 1)) e h) at g.rest) }

    pub round_done : length he ≤ e → low ≡ least_round he lost kept
    unfolding least_of
    round_done h = rw (walk_done he lost (length he - n) e h) at g.rest

    pub round_full : length he ≤ n → low ≡ least_round he lost kept
    unfolding least_of walk_of
    round_full h =
        let k : length he - n ≡ 0 = omega arith in
        rw k at g.rest
