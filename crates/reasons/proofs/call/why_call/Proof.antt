-- The question, the reason for it, and its numbers as they are written.
use borrow.Author.Rules.{rules}
use Rattle.reasons.specs.call.laws.Call.{called}
use Rattle.reasons.proofs.call.why_call.Statement.{statement}
use Rattle.reasons.proofs.call.why_call.Tie as tie

abbrev Told : tie.After-put_numbers → tie.After-tell
Told c = c.before.before.before.before.before

abbrev Reasoned : tie.After-tell → tie.After-why-reason
Reasoned c = c.before.before.before.before.before.before.before.before.before.before.before

abbrev Begin : tie.After-why-arg-5-1 → tie.Start
Begin c = c.before.before.before.before.before.before.before.before.before.before.before.before.before.before.before

abbrev Asked : tie.After-why-reason → tie.After-question-q
Asked c = c.before.before.before.before.before.before

returns : tie.Need-returns
returns c =
    let t = Told c in
    let w = Reasoned t in
    called w.why-reason.result (Asked w).question-q.ensures w.why-reason.ensures c.put_numbers.ensures t.tell.ensures

why-requires : tie.Need-why-reason-requires
why-requires c κs = (Begin c).requires

pub why_call_spec : {M : Type 1} → statement M
why_call_spec =
    tie.close
    (tie.spec (λ c κs. search rules) why-requires (λ c κs. search rules) (λ c κs. search rules)
    (λ c. search rules) (λ c. search rules) (λ c. search rules) (λ c. search rules) (λ c. search rules) returns)
