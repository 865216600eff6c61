-- From the admission of a mesh and a list that was filled to the answer of a query: the same for the walk, the neighbours, the clipped neighbours and the path.
use Rattle.std.specs.Prelude.{◌≡◌, refl, Bool, true, false, List, ◌∷◌, ◌++◌, ◌≢◌, ℕ, ◌+◌, ◌≤◌, ◌<◌, Float, length, get_or}
use Rattle.std.proofs.Math.Path.{ap}
use Rattle.std.proofs.Common.{◌∙◌, arith, rules}
use Rattle.std.proofs.Math.ListN.{take, drop, replicate}
use borrow.Author.Tests.{ne_eqb, lt-ltb, leb-true, le-leb}
use Rattle.base.specs.common.Refusals.{Rule, once, Finds}
use Rattle.base.specs.common.laws.Refusals.{Answers, breaks, keeps, nothing, finds_keep, finds_first, finds_after}
use Rattle.base.specs.numbers.Numbers.{EMPTY, refused_site, refused_triangle, refused_offsets}
use Rattle.plane.specs.points.Rules.{ok_site}
use Rattle.plane.specs.declared.points.Point.{Point}
use Rattle.mesh.specs.Mesh.{leftmost_of, leftmost_in, whole_of, Walks}
use Rattle.mesh.specs.Rules.{call_rules}
use Rattle.mesh.specs.Accepted.{Mesh, mesh, table_of, Accepted, site_count}
use Rattle.mesh.specs.laws.Facts.{topology, paired}
use Rattle.mesh.specs.laws.WalkSteps.{walk_length}
use Rattle.mesh_check.specs.whole.AtExit.{at_exit}
use Rattle.mesh_check.specs.whole.Answers.{work_after}
use Rattle.mesh_check.specs.whole.laws.AtExit.{exit_made, exit_blank}
use Rattle.walks.specs.shared.Cells.{share_edge_of}
use Rattle.walks.specs.neighbours.Neighbours.{starts_of, neighbours_of}
use Rattle.walks.specs.paths.Path.{whole_path}
use Rattle.walks.specs.neighbours.Fills.{Fills}
use Rattle.walks.specs.neighbours.laws.WalksFill.{walks_fill}
use Rattle.queries.specs.clipped.Clipped.{clipped_of, clipped_neighbours_of}
use Rattle.walks.specs.paths.PathNeeds.{Walkable, Towards}
use Rattle.queries.specs.clipped.Clippable.{Clippable}
use Rattle.walks.specs.paths.laws.PathNeeds.{ready, towards}
use Rattle.queries.specs.clipped.laws.Clippable.{clippable}
use Rattle.arguments.specs.asking.Asks.{site_rules, path_rules, Asked, CellsOf, cell_rules}
use Rattle.admission.specs.Admission.{ListAdmission}
use Rattle.admission.specs.laws.Admits.{asked_answers, admitted, admits_few, admits_rules}
use Rattle.queries.specs.Answers.{out_after, count_after, ended_after, ListTold, listed_of, ListAnswer, Number, ClippedAnswer}
use Rattle.admission.specs.laws.LeftmostTable.{table_long, table_at, table_part}
use Rattle.queries.specs.laws.Lengths.{starts_length, path_length, clipped_length, few}

-- an admitted mesh, and what it gives a query about site s
pub record Served (m : Mesh) (s : ℕ) (w' o o' : List ℕ) : Type 0 where
  pub mesh : Accepted m
  pub below : s < site_count m.sites
  pub long : site_count m.sites ≤ length w'
  pub start : get_or w' s 0 ≡ get_or (table_of m) s 0
  pub table : take (site_count m.sites) w' ≡ table_of m
  pub out : o' ≡ o

-- the first of the call's own rules
first_kept : {c : ℕ} {P : Type 0} {more : List (Rule ℕ)} {k : ℕ} → Asked (once c P ∷ more) k → Answers (λ b. b ≡ 0 → ⊥) (once c P ∷ more) → k ≡ 0 → P
first_kept q some z = (finds_keep (λ r. r ≡ 0) some z q.found).0

module _ {m : Mesh} {k : ℕ} {w w' o o' : List ℕ} {r : ℕ} (a : ListAdmission m k w w' o o' r) where
  -- ---- the number: the call's own rules in the place of the number that they gave
  list_number : {own : List (Rule ℕ)} → Asked own k → Answers (λ b. b ≡ 0 → ⊥) own → Finds (call_rules m (site_count m.sites ≤ length w) own) 0 r
  list_number {own} q some =
      admits_rules m (site_count m.sites ≤ length w) (λ _. (leb-true (site_count m.sites) (length w), le-leb (site_count m.sites) (length w)))
      a.admission.number own some q.found

  -- ---- refused by the rules up to 10, whatever else the query asks
  list_refused : {Numbered : ℕ → Type 0} (whole : List ℕ) (x : ListTold) → k < refused_triangle → Numbered r → r ≢ 0 → x ≡ listed_of r 0 false
      → ListAnswer Numbered m whole w w' o o' x
  unfolding out_after at_exit count_after ended_after
  list_refused whole x l d n q =
      let small = admits_few l a.admission.number in
      rw q (record {
        number = d;
        work = a.admission.work;
        out = a.out ∙ rw (ne_eqb r 0 n, ne_eqb r refused_offsets (λ z. omega arith));
        count = rw (ne_eqb r 0 n);
        ended = rw (ne_eqb r 0 n);
      })

  -- ---- what an admitted mesh gives the query
  module _ (z : r ≡ 0) where
    list_mesh : Accepted m
    list_mesh = (admitted (asked_answers k) a.admission.number z).accepted

    pub list_fit : k ≡ 0
    list_fit = (admitted (asked_answers k) a.admission.number z).fit.0

    list_room : site_count m.sites ≤ length w
    list_room = leb-true (site_count m.sites) (length w) (admitted (asked_answers k) a.admission.number z).roomed

    list_table : w' ≡ leftmost_in m.triangles m.halfedges (site_count m.sites) (length w)
    list_table = a.admission.work ∙ exit_made EMPTY (leftmost_in m.triangles m.halfedges (site_count m.sites) (length w)) w r z

    list_long : length w' ≡ length w
    list_long = ap length list_table ∙ table_long m.triangles m.halfedges m.hull (site_count m.sites) (topology list_mesh) (length w) list_room

    list_out : o' ≡ o
    list_out = a.out ∙ rw (lt-ltb r refused_triangle (omega arith))

    -- s is the site that the call's first rule is about
    pub served : {s : ℕ} {more : List (Rule ℕ)} → Asked (once refused_site (s < site_count m.sites) ∷ more) k → Answers (λ b. b ≡ 0 → ⊥) more → Served m s w' o o'
    served {s} q some =
        let n = site_count m.sites in
        let t = topology list_mesh in
        let l = first_kept q ((λ _ y. omega arith), some) list_fit in
        record {
          mesh = list_mesh;
          below = l;
          long = omega (arith, list_long, list_room);
          start = ap (λ x. get_or x s 0) list_table ∙ table_at m.triangles m.halfedges m.hull n t (length w) list_room s l;
          table = ap (take n) list_table ∙ table_part m.triangles m.halfedges m.hull n t (length w) list_room;
          out = list_out;
        }

    -- the answer: the list as it was handed out
    list_given : {Numbered : ℕ → Type 0} (whole o'' : List ℕ) (c : ℕ) (b : Bool) (x : ListTold) → Numbered 0 → Fills whole o o'' c b → x ≡ listed_of 0 c b
        → ListAnswer Numbered m whole w w' o o'' x
    unfolding out_after at_exit count_after ended_after
    list_given whole o'' c b x d f q = rw q (record {
      number = d;
      work = a.admission.work ∙ ap (work_after m w) z;
      out = f.entries ∙ ap (λ c. take (length o) whole ++ drop c o) f.counted;
      count = f.counted;
      ended = f.over;
    })

  -- ---- the answer of a query that asks nothing after rule 10
  module _ {own : List (Rule ℕ)} (q : Asked own k) (some : Answers (λ b. b ≡ 0 → ⊥) own) (whole : List ℕ) where
    pub refuses : (x : ListTold) → r ≢ 0 → x ≡ listed_of r 0 false
        → ListAnswer (Finds (call_rules m (site_count m.sites ≤ length w) own) 0) m whole w w' o o' x
    refuses x n e = list_refused whole x q.small (list_number q some) n e

    pub gives : r ≡ 0 → (o'' : List ℕ) (c : ℕ) (b : Bool) (x : ListTold) → Fills whole o o'' c b → x ≡ listed_of 0 c b
        → ListAnswer (Finds (call_rules m (site_count m.sites ≤ length w) own) 0) m whole w w' o o'' x
    gives z o'' c b x f e = list_given z whole o'' c b x (rw z at (list_number q some)) f e

  -- ---- rule 16 after the others: the cells, for the clipped neighbours
  module _ {s : ℕ} (q : Asked (site_rules (site_count m.sites) s) k) (off ix : List ℕ) where
    pub clipped_refused : (x : ListTold) → r ≢ 0 → x ≡ listed_of r 0 false → ClippedAnswer m off ix s w w' o o' x
    clipped_refused x n e =
        list_refused (clipped_neighbours_of m.triangles m.halfedges (table_of m) off ix s) x q.small
        (finds_first (cell_rules off ix (site_count m.sites)) n (list_number q (search rules))) n e

    module _ (z : r ≡ 0) where
      clipped_number : {d : ℕ} → Finds (cell_rules off ix (site_count m.sites)) 0 d → Number m w (site_rules (site_count m.sites) s) (cell_rules off ix (site_count m.sites)) d
      clipped_number f =
          finds_after (call_rules m (site_count m.sites ≤ length w) (site_rules (site_count m.sites) s))
          (finds_keep (λ r. r ≡ 0) (search rules) z (list_number q (search rules))) f

      pub clipped_denied : (w'' : List ℕ) (x : ListTold) → (CellsOf off ix (site_count m.sites) → ⊥) → w'' ≡ replicate (length w') EMPTY
          → x ≡ listed_of refused_offsets 0 false → ClippedAnswer m off ix s w w'' o o' x
      unfolding out_after count_after ended_after
      clipped_denied w'' x n c e = rw e (record {
        number = clipped_number (breaks n);
        work = c ∙ ap (λ d. replicate d EMPTY) (list_long z) ∙ rw (exit_blank EMPTY (leftmost_in m.triangles m.halfedges (site_count m.sites) (length w)) w refused_offsets (omega arith));
        out = list_out z;
        count = refl;
        ended = refl;
      })

      pub clipped_given : (o'' : List ℕ) (c : ℕ) (b : Bool) (x : ListTold) → CellsOf off ix (site_count m.sites)
          → Fills (clipped_neighbours_of m.triangles m.halfedges (table_of m) off ix s) o o'' c b → x ≡ listed_of 0 c b → ClippedAnswer m off ix s w w' o o'' x
      clipped_given o'' c b x ok f e =
          list_given z (clipped_neighbours_of m.triangles m.halfedges (table_of m) off ix s) o'' c b x (clipped_number (keeps ok nothing)) f e

pub destination_kept : (n s : ℕ) (p : Point) {k : ℕ} → k ≡ 0 → Asked (path_rules n s p) k → ok_site p ≡ true
destination_kept n s p z q = (finds_keep (λ r. r ≡ 0) (search rules) z q.found).1.0

-- ---- the lists as they are handed out: the definition's, and short enough for a count
module _ {sites : List Float} {tri he hull : List ℕ} {s : ℕ} {w' o o' : List ℕ} (u : Served (mesh sites tri he hull) s w' o o') where
  he_few : length he ≤ 393216
  he_few = omega (arith, u.mesh.counts.few_triangles, u.mesh.counts.threes, u.mesh.counts.same)

  module _ (e : ℕ) (q : e ≡ get_or w' s 0) where
    leftmost : e ≡ get_or (leftmost_of tri he (site_count sites)) s 0
    leftmost = q ∙ u.start

    pub walk_fills : {o'' : List ℕ} {c : ℕ} {b : Bool} → Walks he e o' o'' c b → Fills (whole_of he (get_or (leftmost_of tri he (site_count sites)) s 0)) o o'' c b
    walk_fills {o''} {c} {b} x = rw (← leftmost, ← u.out) (walks_fill tri he (paired (topology u.mesh)) e o' o'' c b x)

    pub walk_few : {o'' : List ℕ} {c : ℕ} {b : Bool} → Walks he e o' o'' c b → c < 4294967296
    walk_few x = omega (arith, he_few, few (walk_fills x) (length he) (walk_length he _ (length he) _))

    pub neighbours_fill : {o'' : List ℕ} {c : ℕ} {b : Bool} → Fills (starts_of tri he (whole_of he e)) o' o'' c b
        → Fills (neighbours_of tri he (leftmost_of tri he (site_count sites)) s) o o'' c b
    unfolding neighbours_of
    neighbours_fill x = rw (← leftmost, ← u.out) x

    pub neighbours_few : {o'' : List ℕ} {c : ℕ} {b : Bool} → Fills (starts_of tri he (whole_of he e)) o' o'' c b → c < 4294967296
    neighbours_few x = omega (arith, he_few, few x (length he + 1) (omega (arith, starts_length tri he (whole_of he e), walk_length he e (length he) e)))

  -- the table as a path reads it
  module _ (p : Point) (to : ok_site p ≡ true) where
    pub path_ready : Walkable tri he (take (site_count sites) w') (site_count sites)
    path_ready = rw u.table (ready (topology u.mesh))

    pub path_towards : Towards sites p (site_count sites)
    path_towards = towards sites p u.mesh.coordinates to

  pub path_fills : (p : Point) {o'' : List ℕ} {c : ℕ} {b : Bool} → Fills (whole_path sites tri he (take (site_count sites) w') p s) o' o'' c b
      → Fills (whole_path sites tri he (leftmost_of tri he (site_count sites)) p s) o o'' c b
  path_fills p x = rw (← u.table, ← u.out) x

  pub path_few : (p : Point) {o'' : List ℕ} {c : ℕ} {b : Bool} → Fills (whole_path sites tri he (take (site_count sites) w') p s) o' o'' c b → c < 4294967296
  path_few p x = omega (arith, few x (length sites) (path_length sites tri he (take (site_count sites) w') p (length sites) s), u.mesh.counts.few_sites)

module _ {sites : List Float} {tri he hull : List ℕ} {s : ℕ} {w' o o' : List ℕ} (u : Served (mesh sites tri he hull) s w' o o') {off ix : List ℕ}
    (ok : CellsOf off ix (site_count sites)) where
  pub clipped_ready : Clippable tri he off ix
  clipped_ready = clippable (topology u.mesh) ok.many ok.cut

  pub clipped_site : s + 1 < length off
  clipped_site = omega (arith, ok.many, u.below)

  module _ (e : ℕ) (q : e ≡ get_or w' s 0) where
    pub clipped_fills : {o'' : List ℕ} {c : ℕ} {b : Bool} → Fills (clipped_of tri he (share_edge_of off ix s) (whole_of he e)) o' o'' c b
        → Fills (clipped_neighbours_of tri he (leftmost_of tri he (site_count sites)) off ix s) o o'' c b
    unfolding clipped_neighbours_of
    clipped_fills x = rw (← leftmost u e q, ← u.out) x

    pub clipped_few : {o'' : List ℕ} {c : ℕ} {b : Bool} → Fills (clipped_of tri he (share_edge_of off ix s) (whole_of he e)) o' o'' c b → c < 4294967296
    clipped_few x = omega (arith, he_few u, few x (length he + 2) (omega (arith, clipped_length tri he (share_edge_of off ix s) (whole_of he e), walk_length he e (length he) e)))
