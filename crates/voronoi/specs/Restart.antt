-- Theorem: of two public answers on one mesh to one destination, the first with an allowance of 1 or more, the second from the last site that the first wrote: joined
-- without the repeated site they are the undivided path where the second ran to its end, and else its beginning. What joining is, and the law below it: Restart of walks::paths.
use Rattle.std.specs.Prelude.{◌≡◌, refl, true, List, [], ◌∷◌, ℕ, zero, suc, ◌+◌, ◌-◌, ◌≤◌, ◌<◌, length, get_or, take, drop}
use Rattle.std.proofs.Common.{sym, ap, ◌∙◌, subst, append-nil, arith, length-append, length-drop, drop_of_length-le, get_or-take}
use Rattle.plane.specs.points.Rules.{ok_site}
use Rattle.plane.specs.declared.points.Point.{Point}
use Rattle.mesh.specs.Mesh.{Used}
use Rattle.mesh.specs.Accepted.{Mesh, table_of, site_count}
use Rattle.walks.specs.paths.Path.{whole_path}
use Rattle.walks.specs.paths.Restart.{rejoined, path_some, path_site, path_again, restart, restart_whole}
use Rattle.voronoi.specs.Walks.{Handed, Path}
use Rattle.voronoi.specs.Leaves.{QueryAllowed}
use Rattle.voronoi.specs.laws.Answering.{path_answers}
use Rattle.voronoi.specs.laws.Written.{part, written, fitting}

-- a has k entries and was ended where e is 1; b, from the last of them, has j entries of an allowance of n, and was ended where f is 1; r is the second's number
pub record Restarted (m : Mesh) (s : ℕ) (p : Point) (a b : List ℕ) (k e j n f r : ℕ) : Type 0 where
  -- the second is not refused
  pub admitted : r ≡ 0
  -- as many entries as the first wrote and, where the second wrote any, as it wrote less one
  pub long : length (rejoined a b) ≡ k + (j - 1)
  -- the beginning of the undivided path, the whole of it where the second ended
  pub begins : {u u' z z' : List ℕ} {l : ℕ} → Path m s p u u' z z' l 1 0 → rejoined a b ≡ take (k + (j - 1)) (take l z')
  pub whole : f ≡ 1 → {u u' z z' : List ℕ} {l : ℕ} → Path m s p u u' z z' l 1 0 → rejoined a b ≡ take l z'
  -- a second allowance of 0 adds nothing
  pub nothing : n ≡ 0 → (j ≡ 0) × (rejoined a b ≡ a)
  -- a first answer that had ended is followed by its last site alone
  pub alone : e ≡ 1 → 0 < n → (b ≡ get_or a (k - 1) 0 ∷ []) × (f ≡ 1)

-- ---- beginnings of lists
some_taken : (n : ℕ) (l : List ℕ) → 0 < n → 0 < length l → 0 < length (take n l)
some_taken zero l h g = h
some_taken (suc n) [] h g = g
some_taken (suc n) (y ∷ l) h g = omega arith

taken_few : (n : ℕ) (l : List ℕ) → length (take n l) ≤ length l
taken_few zero l = omega arith
taken_few (suc n) [] = omega arith
taken_few (suc n) (y ∷ l) = omega (arith, taken_few n l)

take_short : (n : ℕ) (l : List ℕ) → take (length (take n l)) l ≡ take n l
take_short zero l = refl
take_short (suc n) [] = refl
take_short (suc n) (y ∷ l) = ap (λ (r : List ℕ). y ∷ r) (take_short n l)

-- what an answer of 0 has written of a list
module _ {N : ℕ → Type 0} {m : Mesh} {whole w w' o o' : List ℕ} {k e : ℕ} (a : Handed N m whole w w' o o' k e 0) where
  counted : k ≡ length (take (length o) whole)
  counted = a.count

  beginning : take k o' ≡ take k whole
  beginning = part a ∙ sym (take_short (length o) whole) ∙ ap (λ (i : ℕ). take i whole) (sym counted)

  so_many : length (take k o') ≡ k
  so_many = ap length (part a) ∙ sym counted

module _ (m : Mesh) (s : ℕ) (p : Point) (used : Used m.triangles s) {v v' x x' : List ℕ} {k e : ℕ} (first : Path m s p v v' x x' k e 0) (some : 0 < length x) where
  abbrev path : ℕ → List ℕ
  path q = whole_path m.sites m.triangles m.halfedges (table_of m) p q

  allowed : QueryAllowed m v ((s < site_count m.sites) × (ok_site p ≡ true))
  allowed = (path_answers m v s p first.number).0 refl

  one_or_more : 0 < k
  one_or_more = omega (arith, counted first, some_taken (length x) (path s) some (path_some allowed.mesh p allowed.arguments.1 s used))

  within : k ≤ length (path s)
  within = omega (arith, counted first, taken_few (length x) (path s))

  -- the last site written
  last : get_or x' (k - 1) 0 ≡ get_or (path s) (k - 1) 0
  last =
      sym (get_or-take k x' (k - 1) 0 (omega (arith, one_or_more)))
      ∙ ap (λ (l : List ℕ). get_or l (k - 1) 0) (beginning first)
      ∙ get_or-take k (path s) (k - 1) 0 (omega (arith, one_or_more))

  again : path (get_or x' (k - 1) 0) ≡ get_or (path s) (k - 1) 0 ∷ drop k (path s)
  again = ap path last ∙ path_again allowed.mesh p allowed.arguments.1 s used k one_or_more within

  module _ {w w' o o' : List ℕ} {j f r : ℕ} (enough : site_count m.sites ≤ length w) (second : Path m (get_or x' (k - 1) 0) p w w' o o' j f r) where
    zero_answer : r ≡ 0
    zero_answer =
        let site : get_or x' (k - 1) 0 < site_count m.sites =
        subst (λ (q : ℕ). q < site_count m.sites) (sym last) (path_site allowed.mesh p allowed.arguments.1 s used (k - 1) (omega (arith, one_or_more, within))) in
        (path_answers m w (get_or x' (k - 1) 0) p second.number).1 (record { mesh = allowed.mesh; room = enough; arguments = (site, allowed.arguments.1) })

    answered : Path m (get_or x' (k - 1) 0) p w w' o o' j f 0
    answered = rw zero_answer at second

    joins : rejoined (take k x') (take j o') ≡ rejoined (take k (path s)) (take j (path (get_or (path s) (k - 1) 0)))
    joins =
        ap (λ (l : List ℕ). rejoined l (take j o')) (beginning first)
        ∙ ap (λ (l : List ℕ). rejoined (take k (path s)) l) (beginning answered ∙ ap (λ (q : ℕ). take j (path q)) last)

    -- where the second ended it has all that there is
    all_there : f ≡ 1 → length (path (get_or (path s) (k - 1) 0)) ≤ j
    all_there q =
        let ended : Path m (get_or x' (k - 1) 0) p w w' o o' j 1 0 = rw q at answered in
        omega (arith, so_many answered, ap length (written ended), ap (λ (i : ℕ). length (path i)) last)

    -- a path that was cut is gone on with
    pub restarted : Restarted m s p (take k x') (take j o') k e j (length o) f r
    restarted =
        let mesh = allowed.mesh in
        let to = allowed.arguments.1 in
        record {
          admitted = zero_answer;
          long = omega (arith, length-append (take k x') (drop 1 (take j o')), length-drop 1 (take j o'), so_many first, so_many answered);
          begins = λ u. joins ∙ restart mesh p to s used k j one_or_more within ∙ ap (take (k + (j - 1))) (sym (written u));
          whole = λ q u. joins ∙ restart_whole mesh p to s used k j one_or_more within (all_there q) ∙ sym (written u);
          nothing = λ z.
              let none : j ≡ 0 = counted answered ∙ ap (λ (i : ℕ). length (take i (path (get_or x' (k - 1) 0)))) z in
              (none, ap (λ (i : ℕ). rejoined (take k x') (take i o')) none ∙ append-nil (take k x'));
          alone = λ q h.
              let ended : Path m s p v v' x x' k 1 0 = rw q at first in
              let k-all : k ≡ length (path s) = sym (so_many first) ∙ ap length (written ended) in
              let only : path (get_or x' (k - 1) 0) ≡ get_or x' (k - 1) 0 ∷ [] =
              again ∙ ap (λ (l : List ℕ). get_or (path s) (k - 1) 0 ∷ l) (drop_of_length-le (path s) {i = k} (omega arith)) ∙ ap (λ (i : ℕ). i ∷ []) (sym last) in
              let fits = fitting answered (omega (arith, ap length only)) in
              (fits.0 ∙ only ∙ ap (λ (i : ℕ). i ∷ []) (sym (get_or-take k x' (k - 1) 0 (omega (arith, one_or_more)))), fits.2);
        }
