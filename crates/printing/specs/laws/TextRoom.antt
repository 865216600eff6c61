-- A text that was written from the beginning of the output stands there; and there is room for a refusal's line.
use Rattle.std.specs.Prelude.{◌≡◌, List, ◌≢◌, ℕ, ◌≤◌, length}
use Rattle.std.proofs.Common.{arith, eq-eqb, ne_eqb}
use Rattle.printing.specs.parts.Labelled.{refusal}
use Rattle.printing.specs.parts.laws.Labelled.{refusal_short}
use Rattle.octets.specs.Wrote.{Wrote}
use Rattle.octets.specs.laws.Wrote.{wrote_all}
use Rattle.printing.specs.Printed.{ShownIn, shown}

held : {l m : List ℕ} {r : ℕ} {text : List ℕ} → length text ≤ length l → Wrote l m 0 r text → ShownIn text m (length l) r
held h w = record { first = wrote_all w h; within = omega (arith, w.place) }

pub line_held : {l m : List ℕ} {r : ℕ} (n : ℕ) → 65536 ≤ length l → Wrote l m 0 r (refusal n) → ShownIn (refusal n) m (length l) r
line_held n h w = held (omega (arith, refusal_short n)) w

module _ {l m : List ℕ} {r : ℕ} (text : List ℕ) (n : ℕ) where
  pub refusal_held : n ≢ 0 → 65536 ≤ length l → Wrote l m 0 r (refusal n) → ShownIn (shown text n) m (length l) r
  refusal_held q h w = rw (ne_eqb n 0 q) (line_held n h w)

  pub text_held : n ≡ 0 → length text ≤ length l → Wrote l m 0 r text → ShownIn (shown text n) m (length l) r
  text_held q h w = rw (eq-eqb n 0 q) (held h w)
