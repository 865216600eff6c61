-- A loop that clears a list from a place on, one store a turn, as `paste` of lib.Seq: it pastes copies of one value.
use Rattle.std.specs.Prelude.{◌≡◌, refl, List, ℕ, suc, ◌+◌, ◌-◌, ◌≤◌, ◌<◌, length, get_or, set, take, replicate}
use Rattle.std.proofs.Common.{◌∙◌, subst, append-nil, arith, length-set}
use Rattle.std.proofs.lemmas.List.{length-replicate, get_or-replicate}
use Rattle.std.proofs.Math.Seq.{paste, paste-suc, paste-zero, drop-length, take-length}
use Rattle.cell_memory.specs.layout.Cleared.{cleared_from}

module _ {A : Type 0} (old : List A) (a : A) (from : ℕ) where
  -- cleared up to place i
  pub record Clearing (new : List A) (i : ℕ) : Type 0 where
    pub low : from ≤ i
    pub high : i ≤ length old
    pub long : length new ≡ length old
    pub so_far : new ≡ paste old from (replicate (length old - from) a) (i - from)

  pub clearing_start : from ≤ length old → Clearing old from
  clearing_start h =
      let z : from - from ≡ 0 = omega arith in
      record { low = omega arith; high = h; long = refl; so_far = rw z (paste-zero old from (replicate (length old - from) a)) }

  pub clearing_step : (new : List A) (i : ℕ) → Clearing new i → i < length old → Clearing (set new i a) (i + 1)
  clearing_step new i g h =
      let n = length old - from in
      let j = i - from in
      let q : from + j ≡ i = omega (arith, g.low) in
      let r : i + 1 - from ≡ suc j = omega (arith, g.low) in
      let v : get_or (replicate n a) j a ≡ a = get_or-replicate n j a a (omega (arith, g.low)) in
      let e : set (paste old from (replicate n a) j) (from + j) (get_or (replicate n a) j a) ≡ paste old from (replicate n a) (suc j) =
      paste-suc old from (replicate n a) j a (omega (arith, g.low)) (rw (length-replicate n a) (omega (arith, g.low))) in
      record { low = omega (arith, g.low); high = omega arith; long = length-set new i a ∙ g.long; so_far = cc g.so_far }

  pub clearing_end : (new : List A) (i : ℕ) → Clearing new i → length old ≤ i → new ≡ cleared_from from a old
  clearing_end new i g h =
      let n = length old - from in
      let k : i - from ≡ n = omega (arith, g.high) in
      let m : from + n ≡ length old = omega (arith, g.low) in
      let t : take n (replicate n a) ≡ replicate n a = subst (λ k. take k (replicate n a) ≡ replicate n a) (length-replicate n a) (take-length (replicate n a)) in
      g.so_far ∙ rw (k, m, t, drop-length, append-nil)
