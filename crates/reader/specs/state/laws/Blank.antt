-- The loop over words that must be 0: what is left of them is blank exactly where all are, until one is not.
use Rattle.std.specs.Prelude.{◌≡◌, refl, true, false, List, ℕ, ◌+◌, ◌≤◌, ◌<◌, get_or}
use Rattle.std.proofs.Math.Path.{sym, ap}
use Rattle.std.proofs.Common.{◌∙◌, arith, add-one, drop-cons, ne_eqb, eq-eqb}
use Rattle.std.proofs.Math.ListN.{length, drop}
use Rattle.std.proofs.Math.Seq.{drop-length}
use Rattle.reader.specs.state.Entered.{blank}

pub record Blanking (ws : List ℕ) (i : ℕ) : Type 0 where
  pub within : i ≤ length ws
  pub same : blank (drop i ws) ≡ blank ws

pub blanking_start : (ws : List ℕ) → Blanking ws 0
blanking_start ws = record { within = omega arith; same = refl }

module _ {ws : List ℕ} {i : ℕ} (b : Blanking ws i) where
  pub blanking_found : i < length ws → (get_or ws i 0 ≡ 0 → ⊥) → false ≡ blank ws
  unfolding blank
  blanking_found h d = sym (sym b.same ∙ ap blank (drop-cons ws i 0 h) ∙ rw (ne_eqb (get_or ws i 0) 0 d))

  pub blanking_step : i < length ws → get_or ws i 0 ≡ 0 → Blanking ws (i + 1)
  unfolding blank
  blanking_step h e =
      record {
        within = omega arith;
        same = ap (λ (k : ℕ). blank (drop k ws)) (add-one i) ∙ sym (ap blank (drop-cons ws i 0 h) ∙ rw (eq-eqb (get_or ws i 0) 0 e)) ∙ b.same;
      }

  pub blanking_end : length ws ≤ i → true ≡ blank ws
  unfolding blank
  blanking_end h =
      let k : i ≡ length ws = omega (arith, b.within) in
      sym (sym b.same ∙ ap blank (ap (λ (n : ℕ). drop n ws) k ∙ drop-length ws))
