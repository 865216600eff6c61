-- A ring laid into the first half: its beginning, the walk and its end, one behind the other (`ring_laid`).
use Rattle.std.specs.Prelude.{◌≡◌, refl, List, [], ◌∷◌, ◌++◌, map, ℕ, suc, ◌+◌, ◌-◌, ◌≤◌, ◌<◌, Float, length}
use Rattle.std.proofs.Common.{sym, subst, ◌∙◌, append-nil, append_assoc, arith, lt-ltb, le-ltb}
use Rattle.std.proofs.Math.Path.{ap}
use Rattle.mesh.specs.Mesh.{turn_of, walk_of, whole_of}
use Rattle.mesh.specs.laws.WalkSteps.{walk_go, walk_done}
use Rattle.cutting.specs.cuts.Rings.{At}
use Rattle.cutting.specs.declared.corner.Corner.{Corner}
use Rattle.cutting.specs.declared.corner.Carrier.{Carrier}
use Rattle.cutting_writer.specs.declared.stream.Spot.{Spot}
use Rattle.cutting_writer.specs.stream.Stages.{Ring}
use Rattle.cutting_writer.specs.site.Ring.{out_at, ray_of, far_of, last_or, site_ring}
use Rattle.cutting_writer.specs.site.laws.Walk.{no_walk}
use Rattle.cutting_writer.specs.slots.Slots.{PutSlot, ring_in}
use Rattle.cutting_writer.specs.slots.laws.Putting.{slots_put}
use Rattle.cutting_writer.specs.declared.short.SlotTrail.{SlotTrail}
use Rattle.cutting_writer.specs.short.Short.{LaidOn, LaidWalk}

module _ (k : ℕ) {f : List Spot} where
  pub laid_none : {part : Ring} → part ≡ [] → LaidOn part k f k f
  laid_none q = record { fits = λ h. h; made = λ h. sym (append-nil (ring_in f 0 k)) ∙ ap (λ (l : Ring). ring_in f 0 k ++ l) (sym q) }

  pub laid_put : {v : At Corner Carrier} {f₁ : List Spot} → k < 16 → PutSlot f k v f₁ → LaidOn (v ∷ []) k f (k + 1) f₁
  laid_put {v} {f₁} low p =
      let s : k + 1 ≡ suc k = omega arith in
      let z : k ≡ 0 + k = omega arith in
      record { fits = λ h. omega arith; made = λ h. rw s (slots_put 0 k (subst (λ (n : ℕ). PutSlot f n v f₁) z p)) }

  pub laid_one : {part : Ring} {v w : At Corner Carrier} {r : ℕ} {f₁ : List Spot} → part ≡ w ∷ [] → v ≡ w → LaidOn (v ∷ []) k f r f₁ → LaidOn part k f r f₁
  laid_one {r = r} {f₁ = f₁} q e x = rw (q, sym e) x

  pub laid_then : {part rest : Ring} {r u : ℕ} {f₁ f₂ : List Spot} → LaidOn part k f r f₁ → LaidOn rest r f₁ u f₂ → LaidOn (part ++ rest) k f u f₂
  laid_then {part} {rest} x y = record {
    fits = λ h. x.fits (y.fits h);
    made = λ h. y.made h ∙ ap (λ (l : Ring). l ++ rest) (x.made (y.fits h)) ∙ append_assoc (ring_in f 0 k) part rest;
  }

-- ---- the walk
module _ (tri he : List ℕ) (centers : List Float) (t k₀ : ℕ) (f₀ : List Spot) where
  -- what is left of the walk, behind what is laid, is the whole
  pub record Laying (count e last left : ℕ) (f : List Spot) : Type 0 where
    pub fits : count ≤ 16 → k₀ ≤ 16
    pub all : count ≤ 16 → ring_in f 0 count ++ map (out_at tri centers) (walk_of he t left e) ≡ ring_in f₀ 0 k₀ ++ map (out_at tri centers) (whole_of he t)
    pub ends : last_or last (walk_of he t left e) ≡ last_or t (whole_of he t)
    pub there : t < length he → last < length he

  module _ (count e last left : ℕ) (f : List Spot) (x : Laying count e last left f) where
    abbrev trail : ℕ → SlotTrail
    trail n = record { count = count; last = n }

    walked : walk_of he t left e ≡ [] → LaidWalk tri he centers t k₀ f₀ (trail last) f
    walked q = record {
      walk = record { fits = x.fits; made = λ h. sym (append-nil (ring_in f 0 count)) ∙ rw q at (x.all h) };
      last = λ h. rw q at x.ends;
      there = x.there;
    }

    pub laying_over : length he ≤ e → LaidWalk tri he centers t k₀ f₀ (trail last) f
    laying_over l = walked (walk_done he t left e l)

    pub laying_out : left ≡ 0 → LaidWalk tri he centers t k₀ f₀ (trail last) f
    laying_out z = walked (rw z (no_walk he t e))

    pub laying_step : 0 < left → e < length he → (v : At Corner Carrier) → v ≡ out_at tri centers e → (r : ℕ) (f₁ : List Spot) → LaidOn (v ∷ []) count f r f₁
        → (n : ℕ) → n ≡ turn_of he t e → Laying r n e (left - 1) f₁
    laying_step more l v ve r f₁ y n ne =
        let one : left ≡ suc (left - 1) = omega arith in
        let gone : walk_of he t left e ≡ e ∷ walk_of he t (left - 1) n = ap (λ (u : ℕ). walk_of he t u e) one ∙ walk_go he t (left - 1) e l
        ∙ ap (λ (u : ℕ). e ∷ walk_of he t (left - 1) u) (sym ne) in
        let rest : Ring = map (out_at tri centers) (walk_of he t (left - 1) n) in
        record {
          fits = λ h. x.fits (y.fits h);
          all = λ h. ap (λ (u : Ring). u ++ rest) (y.made h) ∙ append_assoc (ring_in f 0 count) (v ∷ []) rest
              ∙ ap (λ (u : At Corner Carrier). ring_in f 0 count ++ (u ∷ rest)) ve ∙ rw gone at (x.all (y.fits h));
          ends = rw gone at x.ends;
          there = λ _. l;
        }

-- with as many slots as there were
pub record SlotFilling (tri he : List ℕ) (centers : List Float) (t k₀ : ℕ) (f₀ : List Spot) (count e last left : ℕ) (f : List Spot) : Type 0 where
  pub laying : Laying tri he centers t k₀ f₀ count e last left f
  pub slots : length f ≡ length f₀

-- ---- all of it
module _ (sites : List Float) (tri he : List ℕ) (centers : List Float) (t : ℕ) (f : List Spot) where
  pub ring_absent : length he ≤ t → LaidOn (site_ring sites tri he centers t) 0 f 0 f
  unfolding site_ring
  ring_absent h = laid_none 0 (rw (le-ltb t (length he) h) refl)

  pub ring_laid : t < length he → {k : ℕ} {f₁ : List Spot} → LaidOn (ray_of sites tri he centers t) 0 f k f₁
      → {w : SlotTrail} {f₂ : List Spot} → LaidWalk tri he centers t k f₁ w f₂
      → {r : ℕ} {f₃ : List Spot} → LaidOn (far_of sites tri he centers w.last) w.count f₂ r f₃
      → LaidOn (site_ring sites tri he centers t) 0 f r f₃
  unfolding site_ring
  ring_laid h {k} {f₁} x {w} {f₂} y {r} {f₃} z =
      let far : LaidOn (far_of sites tri he centers (last_or t (whole_of he t))) w.count f₂ r f₃ = record {
        fits = z.fits;
        made = λ n. z.made n ∙ ap (λ (e : ℕ). ring_in f₂ 0 w.count ++ far_of sites tri he centers e) (y.last (z.fits n));
      } in
      rw (lt-ltb t (length he) h) (laid_then 0 x (laid_then k y.walk far))
