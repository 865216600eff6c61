-- The bytes of a form, made of its first record, its sites' records and the lists of triangles, pairs and hull. Definitions only.
use Rattle.std.specs.Prelude.{List, [], ◌∷◌, ◌++◌, ℕ, zero, suc, ◌+◌, ◌*◌, ◌/◌, length, get_or}
use Rattle.octets.specs.Bytes.{le, each}
use Rattle.form.specs.Form.{Triangle, triangle_bytes, hull_bytes}

-- four bytes for each number
abbrev pub links : List ℕ → List ℕ
links = each (le 4)

-- triangle i of the lists
abbrev pub triangle_at : List ℕ → List ℕ → ℕ → Triangle
triangle_at tri he i =
    record {
      a = get_or tri (3 * i) 0;
      b = get_or tri (3 * i + 1) 0;
      c = get_or tri (3 * i + 2) 0;
      pair_a = get_or he (3 * i) 0;
      pair_b = get_or he (3 * i + 1) 0;
      pair_c = get_or he (3 * i + 2) 0;
    }

-- n triangles from triangle i on
unfoldable pub triangles_from : List ℕ → List ℕ → ℕ → ℕ → List Triangle
triangles_from tri he i zero = []
triangles_from tri he i (suc n) = triangle_at tri he i ∷ triangles_from tri he (suc i) n

abbrev pub triangles_of : List ℕ → List ℕ → List Triangle
triangles_of tri he = triangles_from tri he 0 (length tri / 3)

unfoldable pub triangle_records : List ℕ → List ℕ → ℕ → ℕ → List ℕ
triangle_records tri he i n = each triangle_bytes (triangles_from tri he i n)

unfoldable pub lists : List ℕ → List ℕ → List ℕ → List ℕ
lists tri he hull = triangle_records tri he 0 (length tri / 3) ++ each hull_bytes hull ++ 5 ∷ []

unfoldable pub written_form : List ℕ → List ℕ → List ℕ → List ℕ → List ℕ → List ℕ
written_form first sites tri he hull = first ++ sites ++ lists tri he hull
