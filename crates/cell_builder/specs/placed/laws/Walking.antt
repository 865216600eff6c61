-- The loop that walks a cell to its place: what is written, and what is left of the walk, make the cell.
use Rattle.std.specs.Prelude.{◌≡◌, refl, List, [], ◌∷◌, ◌++◌, ◌≢◌, ℕ, ◌+◌, ◌/◌, ◌≤◌, ◌<◌, eqb, length, set}
use Rattle.std.proofs.Common.{sym, ap, ◌∙◌, append-nil, append_assoc, arith, length-append, eq-eqb, ne_eqb}
use Rattle.std.proofs.lemmas.List.Edits.{sets}
use Rattle.std.proofs.Math.Seq.{length-sets}
use Rattle.base.specs.common.laws.Stores.{sets_join}
use Rattle.build_laws.specs.laws.Runs.{true_false}
use Rattle.cell_memory.specs.staging.Staging.{Staged}
use Rattle.cell_builder.specs.placed.Placed.{back_of, InPair, is_nil, Backs, back_triangles, BackCell}

pub walking_in : {he : List ℕ} {t room : ℕ} {c : List ℕ} → BackCell he t room c → InPair he t
walking_in {he} {t} b = by b.along b.some b.backs
  where
    by : (l : List ℕ) → 0 < length l → Backs he t t l → InPair he t
    by [] s k = absurd (omega arith)
    by (y ∷ ys) s k = k.0

module _ (he : List ℕ) (t at room : ℕ) (old : List ℕ) where
  -- at half-edge e, with the places before n written
  pub record Backing (b : List ℕ) (new : List ℕ) (e n : ℕ) : Type 0 where
    pub done : List ℕ
    pub rest : List ℕ
    pub split : back_triangles t b ≡ done ++ back_triangles e rest
    pub backs : Backs he t e rest
    pub ended : eqb e t ≡ is_nil rest
    pub counted : n ≡ at + length done
    pub left : length done + length rest ≡ length b
    pub written : new ≡ sets old at done

  -- whatever walk there is
  abbrev pub WalkingBack : List ℕ → ℕ → ℕ → Type 0
  WalkingBack new e n = (c : List ℕ) (b : BackCell he t room c) → Backing b.along new e n

  pub walking_start : (new : List ℕ) → new ≡ set old at (t / 3) → (e n : ℕ) → e ≡ back_of he t → n ≡ at + 1 → WalkingBack new e n
  walking_start new q e n qe qn c b = rw (q, qe) (by b.along b.some b.backs)
    where
      by : (l : List ℕ) → 0 < length l → Backs he t t l → Backing l (set old at (t / 3)) (back_of he t) n
      by [] s k = absurd (omega arith)
      by (y ∷ ys) s k = rw k.1 (record {
        done = t / 3 ∷ [];
        rest = ys;
        split = refl;
        backs = k.3;
        ended = k.2;
        counted = qn;
        left = omega arith;
        written = refl;
      })

  module _ (new : List ℕ) (e n : ℕ) where
    module _ (l : List ℕ) (w : Backing l new e n) (ne : e ≢ t) where
      goes : (r : List ℕ) → w.rest ≡ r → InPair he e × ((x f k : ℕ) → x ≡ e / 3 → f ≡ back_of he e → k ≡ n + 1 → Backing l (set new n x) f k)
      goes [] q = absurd (true_false (w.ended ∙ ap is_nil q) (ne_eqb e t ne))
      goes (y ∷ ys) q =
          let k : Backs he t e (y ∷ ys) = rw q at w.backs in (
            k.0,
            λ x f j qx qf qj. rw (qx, qf, k.1) (record {
              done = w.done ++ e / 3 ∷ [];
              rest = ys;
              split = w.split ∙ rw q (sym (append_assoc w.done (e / 3 ∷ []) (back_triangles y ys)));
              backs = k.3;
              ended = k.2;
              counted = omega (arith, qj, w.counted, length-append w.done (e / 3 ∷ []));
              left = omega (arith, w.left, ap length q, length-append w.done (e / 3 ∷ []));
              written = ap (λ (z : List ℕ). set z n (e / 3)) w.written ∙ sets_join w.done (e / 3 ∷ []) old at n w.counted;
            }),
          )

    pub walking_place : {c : List ℕ} → BackCell he t room c → WalkingBack new e n → e ≢ t → InPair he e
    walking_place {c} b w ne = (goes b.along (w c b) ne (w c b).rest refl).0

    pub walking_long : {c : List ℕ} → BackCell he t room c → WalkingBack new e n → length new ≡ length old
    walking_long {c} b w = ap length (w c b).written ∙ length-sets old at (w c b).done

    pub walking_step : WalkingBack new e n → e ≢ t → (x f k : ℕ) → x ≡ e / 3 → f ≡ back_of he e → k ≡ n + 1 → WalkingBack (set new n x) f k
    walking_step w ne x f k qx qf qk c b = (goes b.along (w c b) ne (w c b).rest refl).1 x f k qx qf qk

    ends : (c : List ℕ) (b : BackCell he t room c) (w : Backing b.along new e n) → (r : List ℕ) → w.rest ≡ r → length r ≡ 0 → Staged c at old new n
    ends c b w [] q z =
        let all : c ≡ w.done = b.is ∙ w.split ∙ rw q (append-nil w.done) in
        record { ended = rw all w.counted; written = rw all w.written }
    ends c b w (y ∷ ys) q z = absurd (omega (arith, z))

    -- back at the first half-edge
    pub walking_back : WalkingBack new e n → e ≡ t → (c : List ℕ) → BackCell he t room c → Staged c at old new n
    walking_back w q c b = by (w c b).rest refl
      where
        by : (r : List ℕ) → (w c b).rest ≡ r → Staged c at old new n
        by [] z = ends c b (w c b) [] z refl
        by (y ∷ ys) z = absurd (true_false refl (sym (eq-eqb e t q) ∙ (w c b).ended ∙ ap is_nil z))

    -- as many steps as there is room for
    pub walking_full : WalkingBack new e n → at + room ≤ n → (c : List ℕ) → BackCell he t room c → Staged c at old new n
    walking_full w h c b = ends c b (w c b) (w c b).rest refl (omega (arith, (w c b).counted, (w c b).left, b.short))
