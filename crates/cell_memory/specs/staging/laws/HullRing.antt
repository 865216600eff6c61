-- A ring with its extensions: single stores before and after the walk make one longer list.
use Rattle.std.specs.Prelude.{◌≡◌, refl, List, [], ◌∷◌, ◌++◌, ◌≢◌, ℕ, ◌+◌, ◌-◌, ◌<◌, length, set, drop}
use Rattle.std.proofs.Math.Path.{sym, ap}
use Rattle.std.proofs.Common.{◌∙◌, arith, add-zero, length-append, add-one, eq-eqb, ne_eqb}
use Rattle.std.proofs.Math.ListN.{get_or}
use Rattle.std.proofs.lemmas.List.Edits.{sets}
use Rattle.std.proofs.Math.Seq.{get_or-drop}
use Rattle.base.specs.common.laws.Stores.{sets_join}
use Rattle.definition.specs.Build.{ring_from, hull_ring}
use Rattle.cell_memory.specs.staging.Staging.{Staged, Stages}

-- a store, then a list right after it
pub staged_cons : (l : List ℕ) (at y : ℕ) (old new : List ℕ) (end : ℕ) → at < length old → Staged l (at + 1) (set old at y) new end → Staged (y ∷ l) at old new end
staged_cons l at y old new end h s = record {
  ended = omega (arith, s.ended);
  written = s.written ∙ ap (λ (k : ℕ). sets (set old at y) k l) (add-one at);
}

pub staged_snoc : (l : List ℕ) (at y : ℕ) (old new : List ℕ) (end : ℕ) → at + length l < length old → Staged l at old new end → Staged (l ++ y ∷ []) at old (set new end y) (end + 1)
staged_snoc l at y old new end h s = record {
  ended = omega (arith, s.ended, length-append l (y ∷ []));
  written = rw (s.ended, s.written) (sets_join l (y ∷ []) old at (at + length l) refl);
}

-- the ring of a hull place is what the two functions stage
module _ (tri he hull table ix : List ℕ) (at xs i : ℕ) (g : Stages tri he hull table ix at xs i) where
  pub first_ring :
      (e a b : ℕ) → i ≡ 0 → e ≡ get_or table (get_or hull i 0) 0 → a ≡ get_or ix xs 0 → b ≡ get_or ix (xs + (length hull - 1)) 0
      → hull_ring he hull table (drop xs ix) i ≡ a ∷ b ∷ ring_from he e
  unfolding hull_ring
  first_ring e a b q p ea eb =
      let r : get_or (drop xs ix) 0 0 ≡ a = get_or-drop xs ix 0 0 ∙ ap (λ k. get_or ix k 0) (add-zero xs) ∙ sym ea in
      let s : get_or (drop xs ix) (length hull - 1) 0 ≡ b = get_or-drop xs ix (length hull - 1) 0 ∙ sym eb in
      rw (eq-eqb i 0 q, r, s, p)

  pub later_ring :
      (e b a : ℕ) → i ≢ 0 → e ≡ get_or table (get_or hull i 0) 0 → b ≡ get_or ix (xs + (i - 1)) 0 → a ≡ get_or ix (xs + i) 0
      → hull_ring he hull table (drop xs ix) i ≡ b ∷ ring_from he e ++ a ∷ []
  unfolding hull_ring
  later_ring e b a q p eb ea =
      let r : get_or (drop xs ix) (i - 1) 0 ≡ b = get_or-drop xs ix (i - 1) 0 ∙ sym eb in
      let s : get_or (drop xs ix) i 0 ≡ a = get_or-drop xs ix i 0 ∙ sym ea in
      rw (ne_eqb i 0 q, r, s, p)
