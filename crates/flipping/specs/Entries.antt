-- How the table's four entries are brought up to date without another pass: a site that gains a half-edge compares once; one that loses a half-edge
-- keeps its entry, or goes round where that was the lost one. `table_again` says that the result is the table worked out afresh.
use Rattle.std.specs.Prelude.{List, [], ◌∷◌, ℕ, eqb, ltb, length, get_or, set}
use Rattle.base.specs.common.Pick.{pick}
use Rattle.base.specs.numbers.Numbers.{EMPTY}
use Rattle.mesh.specs.Mesh.{start_of, pair_of, walk_of}

-- the lesser of two
unfoldable pub lesser : ℕ → ℕ → ℕ
lesser x m = pick (ltb x m) (λ _. x) (λ _. m)

-- the least of m and what a list holds
unfoldable pub least_of : ℕ → List ℕ → ℕ
least_of m [] = m
least_of m (x ∷ xs) = least_of (lesser x m) xs

-- the entry t of a site at which e ends from now on, with a pair
unfoldable pub gain_of : List ℕ → ℕ → ℕ → ℕ
gain_of he t e = pick (eqb (pair_of he t) EMPTY) (λ _. t) (λ _. lesser e t)

-- the least on the way round from `kept` to `lost`, which comes before it
abbrev pub least_round : List ℕ → ℕ → ℕ → ℕ
least_round he lost kept = least_of kept (walk_of he lost (length he) kept)

-- the entry t of a site at which `lost` ends no more; `kept` takes its pair
unfoldable pub loss_of : List ℕ → ℕ → ℕ → ℕ → ℕ
loss_of he t lost kept = pick (eqb t lost) (λ _. pick (eqb (pair_of he lost) EMPTY) (λ _. kept) (λ _. least_round he lost kept)) (λ _. t)

-- four sites, or their entries: of the two that lose a half-edge, where a and b start, then of the two that gain one, where r and l start
abbrev pub Four : Type 0
Four = ℕ × ℕ × ℕ × ℕ

abbrev pub flip_corners : List ℕ → ℕ → ℕ → ℕ → ℕ → Four
flip_corners tri a b r l = (start_of tri a, start_of tri b, start_of tri r, start_of tri l)

abbrev pub entries_of : List ℕ → List ℕ → Four → ℕ → ℕ → ℕ → ℕ → Four
entries_of he table s a b r l =
    (loss_of he (get_or table s.0 0) r b, loss_of he (get_or table s.1 0) l a, gain_of he (get_or table s.2 0) l, gain_of he (get_or table s.3 0) r)

-- a list with four entries stored
abbrev pub stored_four : List ℕ → Four → Four → List ℕ
stored_four l s v = set (set (set (set l s.0 v.0) s.1 v.1) s.2 v.2) s.3 v.3
