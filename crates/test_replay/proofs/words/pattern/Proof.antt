-- `test_replay::words::pattern` meets its contract: two words make it.
use borrow.Author.Rules.{rules}
use mathlib.Core.Path.{◌∙◌}
use Rattle.test_replay.specs.words.laws.Reading.{two_words}
use Rattle.test_replay.proofs.words.pattern.Statement.{statement}
use Rattle.test_replay.proofs.words.pattern.Tie as tie

returns : tie.Need-returns
returns c = let w = c in let a = w in let f = a in
    two_words _ _ _ _ _ (a.wide.ensures ∙ f.word.ensures) a.after.ensures (c.wide-2.ensures ∙ w.word-2.ensures)

pub pattern_spec : {M : Type 1} → statement M
pattern_spec =
    tie.close
    (tie.spec (λ c κs. search rules) (λ c κs. search rules) (λ c κs. search rules) (λ c κs. search rules)
    (λ c κs. search rules) (λ c. search rules) (λ c. search rules) returns)
