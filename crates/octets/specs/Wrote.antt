-- A text written into a list from a place on, and two texts written one after the other.
use Rattle.std.specs.Prelude.{◌≡◌, List, ℕ, ◌+◌, ◌≤◌, length}
use Rattle.std.proofs.lemmas.List.Edits.{sets}

-- the text stands in the list from `at` on, up to `end`; the rest is as it was
pub record Wrote (before after : List ℕ) (at end : ℕ) (text : List ℕ) : Type 0 where
  pub list : after ≡ sets before at text
  pub place : end ≡ at + length text

-- there is room for the text
abbrev pub HasRoom : List ℕ → ℕ → List ℕ → Type 0
HasRoom l at text = at + length text ≤ length l
