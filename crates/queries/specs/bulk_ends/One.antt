-- Theorem: any two results that are allowed, number and slices, are equal.
use Rattle.std.specs.Prelude.{◌≡◌, List, ◌++◌, ℕ, Float, length, drop}
use Rattle.std.proofs.Common.{sym, ap, ◌∙◌}
use Rattle.base.specs.common.laws.Refusals.{finds_one}
use Rattle.base.specs.numbers.Numbers.{EMPTY}
use Rattle.mesh.specs.Accepted.{Mesh}
use Rattle.mesh_check.specs.whole.AtExit.{at_exit}
use Rattle.mesh_check.specs.whole.Answers.{work_after}
use Rattle.queries.specs.bulk_ends.Ends.{all_ends}
use Rattle.queries.specs.bulk_ends.Promise.{EndsAnswer}

pub one_ends : (m : Mesh) (s : ℕ) (points : List Float) {w w' w'' o o' o'' : List ℕ} {r t : ℕ} → EndsAnswer m s points w w' o o' r → EndsAnswer m s points w w'' o o'' t
    → (r ≡ t) × (w' ≡ w'') × (o' ≡ o'')
one_ends m s points {w} {o = o} a b =
    let q = finds_one a.number b.number in
    let ends = all_ends m points s in
    (q, a.work ∙ ap (work_after m w) q ∙ sym b.work, a.out ∙ ap (at_exit EMPTY (ends ++ drop (length ends) o) o) q ∙ sym b.out)
