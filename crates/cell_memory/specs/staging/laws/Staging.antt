-- The loop that stages a ring: what is left of the walk is what is left to be written.
use Rattle.std.specs.Prelude.{◌≡◌, refl, List, [], ◌∷◌, ℕ, zero, suc, ◌+◌, ◌-◌, ◌/◌, ◌≤◌, ◌<◌, length, get_or, set, drop, take}
use Rattle.std.proofs.Common.{sym, ap, ◌∙◌, arith, length-set, length-drop, take_all}
use Rattle.std.proofs.lemmas.List.{length-map}
use Rattle.std.proofs.Math.ListN.{get_or-map}
use Rattle.std.proofs.lemmas.List.Edits.{sets}
use Rattle.base.specs.common.laws.Stores.{sets_more}
use Rattle.mesh.specs.Mesh.{turn_of, whole_of, Paired}
use Rattle.walks.specs.neighbours.laws.Rest.{settled_start, rest_step_lem, rest_settled, rest_done}
use Rattle.walks.specs.neighbours.Cursor.{rest_of, Settled}
use Rattle.definition.specs.Build.{ring_from}
use Rattle.cell_memory.specs.staging.Staging.{Staged}

drop_head : (l : List ℕ) (k x : ℕ) (r : List ℕ) → drop k l ≡ x ∷ r → (k < length l) × (get_or l k 0 ≡ x) × (drop (suc k) l ≡ r)
drop_head [] zero x r q = absurd (omega (arith, ap length q))
drop_head [] (suc k) x r q = absurd (omega (arith, ap length q))
drop_head (y ∷ l) zero x r q = (omega arith, cc, cc)
drop_head (y ∷ l) (suc k) x r q = let h = drop_head l k x r q in (omega (arith, h.0), h.1, h.2)

-- a ring is as long as its walk
pub ring_long : (he : List ℕ) (s : ℕ) → length (ring_from he s) ≡ length (whole_of he s)
ring_long he s = length-map (whole_of he s) (λ f. f / 3)

module _ (tri he : List ℕ) (s at : ℕ) (old : List ℕ) where
  -- k entries are written, and the walk stands at e
  pub record Staging (new : List ℕ) (e n : ℕ) : Type 0 where
    pub low : at ≤ n
    pub rest : drop (n - at) (whole_of he s) ≡ rest_of he s e
    pub settled : Settled he s e
    pub reach : n - at ≤ length (whole_of he s)
    pub written : new ≡ sets old at (take (n - at) (ring_from he s))
    pub long : length new ≡ length old

  pub staging_start : Paired tri he → (e : ℕ) → e ≡ s → Staging old e at
  staging_start ok e q =
      let z : at - at ≡ 0 = omega arith in
      rw q (record {
        low = omega arith;
        rest = rw z;
        settled = settled_start tri he ok s;
        reach = omega arith;
        written = rw z refl;
        long = refl;
      })

  module _ (new : List ℕ) (e n : ℕ) (g : Staging new e n) (h : e < length he) where
    next_entry : (n - at < length (whole_of he s)) × (get_or (whole_of he s) (n - at) 0 ≡ e) × (drop (suc (n - at)) (whole_of he s) ≡ rest_of he s (turn_of he s e))
    next_entry = drop_head (whole_of he s) (n - at) e (rest_of he s (turn_of he s e)) (g.rest ∙ rest_step_lem he s e g.settled h)

    entry_is : get_or (ring_from he s) (n - at) 0 ≡ e / 3
    entry_is = get_or-map (λ f. f / 3) (whole_of he s) (n - at) 0 ∙ ap (λ f. f / 3) next_entry.1

    pub staging_place : at + length (whole_of he s) ≤ length old → n < length new
    staging_place room = omega (arith, next_entry.0, g.low, g.long)

    pub staging_less : length (whole_of he s) - (n + 1 - at) < length (whole_of he s) - (n - at)
    staging_less = omega (arith, next_entry.0, g.low)

    pub staging_step : at + length (whole_of he s) ≤ length old → (v x : ℕ) → v ≡ e / 3 → x ≡ turn_of he s e → Staging (set new n v) x (n + 1)
    staging_step room v x qv qx =
        let k : n + 1 - at ≡ suc (n - at) = omega (arith, g.low) in
        let p : at + (n - at) ≡ n = omega (arith, g.low) in
        let w : set (sets old at (take (n - at) (ring_from he s))) (at + (n - at)) (get_or (ring_from he s) (n - at) 0) ≡ sets old at (take (suc (n - at)) (ring_from he s)) =
        sets_more (ring_from he s) old at (n - at) 0 (rw (length-map (whole_of he s) (λ f. f / 3)) next_entry.0) in
        rw qx (record {
          low = omega (arith, g.low);
          rest = rw k next_entry.2;
          settled = rest_settled he s e g.settled h;
          reach = omega (arith, next_entry.0);
          written = cc (g.written, entry_is);
          long = length-set new n v ∙ g.long;
        })

  pub staging_end : (new : List ℕ) (e n : ℕ) → Staging new e n → length he ≤ e → Staged (ring_from he s) at old new n
  staging_end new e n g h =
      let all : n - at ≡ length (whole_of he s) = omega (arith, g.reach, length-drop (n - at) (whole_of he s), ap length (g.rest ∙ rest_done he s e h)) in
      let long : length (ring_from he s) ≡ n - at = length-map (whole_of he s) (λ f. f / 3) ∙ sym all in
      record { ended = omega (arith, long, g.low); written = g.written ∙ ap (sets old at) (take_all (n - at) (ring_from he s) (omega (arith, long))) }
