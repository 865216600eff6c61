-- The edge that two triangles share.
use Rattle.std.specs.Prelude.{Bool, ◌||◌, List, ℕ, ◌+◌, ◌*◌, ltb, eqb, length}
use Rattle.base.specs.common.Pick.{pick}
use Rattle.base.specs.numbers.Numbers.{EMPTY}
use Rattle.mesh.specs.Mesh.{pair_of}

-- a half-edge of the triangle whose first is f names e as its pair
unfoldable pub names_of : List ℕ → ℕ → ℕ → Bool
names_of he f e = eqb (pair_of he f) e || eqb (pair_of he (f + 1)) e || eqb (pair_of he (f + 2)) e

unfoldable pub first_of : ℕ → Bool → Bool → Bool → ℕ
first_of e zero one two = pick zero (λ _. e) (λ _. pick one (λ _. e + 1) (λ _. pick two (λ _. e + 2) (λ _. EMPTY)))

-- the first half-edge of triangle a that triangle b names, or `EMPTY`; so too where there is no such triangle
unfoldable pub shared_edge_of : List ℕ → ℕ → ℕ → ℕ
shared_edge_of he a b =
    pick (ltb (3 * a) (length he)) (λ _.
    pick (ltb (3 * b) (length he)) (λ _.
    first_of (3 * a) (names_of he (3 * b) (3 * a)) (names_of he (3 * b) (3 * a + 1)) (names_of he (3 * b) (3 * a + 2))) (λ _. EMPTY)) (λ _. EMPTY)
