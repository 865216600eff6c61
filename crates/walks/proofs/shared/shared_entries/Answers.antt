-- The entries that pass the test are counted, by either search.
use Rattle.std.specs.List.{count_by}
use Rattle.std.proofs.Common.{rules, ◌≡◌, ◌∙◌}
use Rattle.walks.specs.shared.Cells.{holds_of}
use Rattle.walks.specs.shared.laws.Entries.{counted_shared}
use Rattle.walks.proofs.shared.shared_entries.Goals as goal

pub returns-then-b-le10 : goal.returns-then-b-le10
returns-then-b-le10 c =
    let e : c.count.result ≡ count_by (λ x. holds_of c.args.b.now x) c.args.a.now = search rules in
    e ∙ counted_shared _ _

pub returns : goal.returns
returns c =
    let e : c.count-2.result ≡ count_by (λ x. holds_of c.args.b.now x) c.args.a.now = search rules in
    e ∙ counted_shared _ _
