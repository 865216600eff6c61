-- Theorem: any two results that are allowed, number and slices, are equal.
use Rattle.std.specs.Prelude.{◌≡◌, List, ℕ}
use Rattle.std.proofs.Common.{sym, ap, ◌∙◌}
use Rattle.base.specs.common.laws.Refusals.{finds_one}
use Rattle.mesh.specs.Accepted.{Mesh}
use Rattle.mesh_check.specs.whole.Answers.{work_after}
use Rattle.cell_memory.specs.layout.Regions.{joined, offsets_from}
use Rattle.queries.specs.all_neighbours.Lists.{all_neighbours}
use Rattle.queries.specs.bulk_neighbours.Promise.{made_after, AllNeighboursAnswer}

pub one_all_neighbours : (m : Mesh) (off ix : List ℕ) {w w' w'' st st' st'' o o' o'' : List ℕ} {r s : ℕ} → AllNeighboursAnswer m off ix w w' st st' o o' r
    → AllNeighboursAnswer m off ix w w'' st st'' o o'' s → (r ≡ s) × (w' ≡ w'') × (st' ≡ st'') × (o' ≡ o'')
one_all_neighbours m off ix {w} {st = st} {o = o} a b =
    let q = finds_one a.number b.number in (
      q,
      a.work ∙ ap (work_after m w) q ∙ sym b.work,
      a.starts ∙ ap (made_after (offsets_from 0 (all_neighbours m off ix)) st) q ∙ sym b.starts,
      a.out ∙ ap (made_after (joined (all_neighbours m off ix)) o) q ∙ sym b.out,
    )
