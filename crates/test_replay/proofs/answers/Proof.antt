-- `test_replay::answers` meets its contract: the build's number and slices, judged.
use borrow.Author.Rules.{rules}
use Rattle.admission.specs.Slices.{Slices, slices}
use Rattle.test_replay.proofs.answers.Statement.{statement}
use Rattle.test_replay.proofs.answers.Tie as tie

abbrev Built : tie.After-judge → tie.After-build-number
Built c = c.before.before.before.before.before.before.before.before.before.before.before.before

abbrev Left : tie.After-build-number → Slices
Left c = let l = c.build-number.new in slices l.work l.vertices l.indexes l.offsets l.counts

returns : tie.Need-returns
returns c =
    let j = c in
    record {
      number = (Built j.before.before).build-number.result;
      left = Left (Built j.before.before);
      build = (Built j.before.before).build-number.ensures;
      work = _;
      judged = j.judge.ensures;
    }

pub answers_spec : {M : Type 1} → statement M
answers_spec =
    tie.close
    (tie.spec (λ c. search rules) (λ c κs. search rules) (λ c. search rules) (λ c κs. search rules) (λ c. search rules)
    (λ c. search rules) (λ c. search rules) (λ c. search rules) returns)
