-- The state that words say; words that no reading leaves are taken for a state refused at byte 0. Definitions only.
-- That this is right: Kept.
use Rattle.std.specs.Prelude.{Bool, true, false, List, [], ◌∷◌, ℕ, eqb, take, drop}
use Rattle.base.specs.common.Pick.{pick}
use Rattle.base.specs.numbers.Numbers.{refused_form}
use Rattle.form.specs.step.Reader.{start, refused}
use Rattle.form.specs.declared.step.Reader.{Reader}
use Rattle.reader.specs.standing.Stands.{both, is_valid}
use Rattle.reader.specs.state.Words.{reader_of}

unfoldable pub blank : List ℕ → Bool
blank [] = true
blank (w ∷ ws) = both (eqb w 0) (blank ws)

unfoldable pub entered : List ℕ → Reader
entered ws = pick (both (blank (take 7 (drop 9 ws))) (is_valid (reader_of ws))) (λ _. reader_of ws) (λ _. refused (start false) refused_form)
