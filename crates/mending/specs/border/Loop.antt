-- The loop of the unpaired half-edges: from each site where one starts it leads on to where that ends. It begins at the old first hull site if one
-- starts there, else at the lowest site where one does, and is closed where it comes back.
use Rattle.std.specs.Prelude.{List, [], ◌∷◌, ℕ, zero, suc, eqb, length, get_or, set, replicate}
use Rattle.base.specs.common.Pick.{pick}
use Rattle.base.specs.numbers.Numbers.{EMPTY}
use Rattle.mesh.specs.Mesh.{start_of, end_of, pair_of}

-- the table t after half-edge e: an unpaired one leads on from where it starts to where it ends
unfoldable pub lead_at : List ℕ → List ℕ → List ℕ → ℕ → List ℕ
lead_at tri he t e = pick (eqb (pair_of he e) EMPTY) (λ _. set t (start_of tri e) (end_of tri e)) (λ _. t)

-- the table of w sites after the half-edges below n; EMPTY where no unpaired half-edge starts
unfoldable pub leads_to : List ℕ → List ℕ → ℕ → ℕ → List ℕ
leads_to tri he w zero = replicate w EMPTY
leads_to tri he w (suc e) = lead_at tri he (leads_to tri he w e) e

abbrev pub lead_table : List ℕ → List ℕ → ℕ → List ℕ
lead_table tri he sites = leads_to tri he sites (length tri)

-- the site that was found lowest, or else s, if it leads on
unfoldable pub sooner_of : ℕ → ℕ → ℕ → ℕ
sooner_of found next s = pick (eqb found EMPTY) (λ _. pick (eqb next EMPTY) (λ _. EMPTY) (λ _. s)) (λ _. found)

-- the lowest site below n that leads on, or EMPTY
unfoldable pub lowest_to : List ℕ → ℕ → ℕ
lowest_to t zero = EMPTY
lowest_to t (suc s) = sooner_of (lowest_to t s) (get_or t s 0) s

-- where the loop begins
unfoldable pub loop_begin : List ℕ → ℕ → ℕ
loop_begin t first = pick (eqb (get_or t first EMPTY) EMPTY) (λ _. lowest_to t (length t)) (λ _. first)

-- the site after s, or EMPTY where the loop from b is closed or ends
unfoldable pub loop_step : List ℕ → ℕ → ℕ → ℕ
loop_step t b s = pick (eqb (get_or t s 0) b) (λ _. EMPTY) (λ _. get_or t s 0)

-- at most k sites of the loop from b that is at s
unfoldable pub loop_to : List ℕ → ℕ → ℕ → ℕ → List ℕ
loop_to t b zero s = []
loop_to t b (suc k) s = pick (eqb s EMPTY) (λ _. []) (λ _. s ∷ loop_to t b k (loop_step t b s))

abbrev pub loop_of : List ℕ → ℕ → List ℕ
loop_of t b = loop_to t b (length t) b

-- the hull of triangles and pairs
abbrev pub hull_of : List ℕ → List ℕ → ℕ → ℕ → List ℕ
hull_of tri he first sites = loop_of (lead_table tri he sites) (loop_begin (lead_table tri he sites) first)
