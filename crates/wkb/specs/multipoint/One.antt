-- Theorem: any two results of reading that are allowed, number, count and output, are equal.
use Rattle.std.specs.Prelude.{◌≡◌, List, ℕ, Float}
use Rattle.std.proofs.Common.{sym, ap, ◌∙◌}
use Rattle.base.specs.common.laws.Refusals.{finds_one}
use Rattle.wkb.specs.multipoint.Promise.{sites_after, read_count, ReadAnswer}

pub one_read : (s : List ℕ) (old : List Float) {new new' : List Float} {k k' r r' : ℕ} → ReadAnswer s old new k r → ReadAnswer s old new' k' r'
    → (r ≡ r') × (k ≡ k') × (new ≡ new')
one_read s old a b =
    let n = finds_one a.number b.number in
    (n, a.counted ∙ ap (read_count s) n ∙ sym b.counted, a.sites ∙ ap (sites_after s old) n ∙ sym b.sites)
