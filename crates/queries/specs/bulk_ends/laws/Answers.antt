-- The answer, from the rules that were tried and the ends that were written.
use Rattle.std.specs.Prelude.{◌≡◌, refl, Bool, true, false, List, ◌≢◌, ℕ, ◌/◌, ◌%◌, ◌≤◌, ◌<◌, leb, Float, take, replicate}
use Rattle.std.proofs.Common.{sym, ◌∙◌, arith, rules}
use Rattle.std.proofs.Math.Path.{ap}
use Rattle.std.proofs.Math.ListN.{length}
use Rattle.std.proofs.lemmas.List.Edits.{sets}
use borrow.Author.Tests.{ne_eqb, lt-ltb, le-ltb, leb-true, le-leb, lt-leb}
use Rattle.base.specs.common.Refusals.{Finds}
use Rattle.base.specs.common.laws.And.{and_left, and_right}
use Rattle.base.specs.common.laws.Refusals.{breaks, keeps, finds_keep}
use Rattle.base.specs.common.laws.Stores.{sets_all}
use Rattle.base.specs.numbers.Numbers.{EMPTY, refused_count, refused_triangle}
use Rattle.mesh.specs.Mesh.{leftmost_in}
use Rattle.mesh.specs.Accepted.{Mesh, table_of, site_count}
use Rattle.mesh.specs.laws.Facts.{topology}
use Rattle.mesh_check.specs.whole.AtExit.{at_exit}
use Rattle.mesh_check.specs.whole.Answers.{work_after}
use Rattle.mesh_check.specs.whole.laws.AtExit.{exit_made, exit_held}
use Rattle.walks.specs.paths.laws.PathNeeds.{ready, towards}
use Rattle.arguments.specs.asking.Asks.{Asked}
use Rattle.admission.specs.Admission.{Admission}
use Rattle.admission.specs.laws.Admits.{asked_answers, admitted, admits_own}
use Rattle.admission.specs.laws.LeftmostTable.{table_long, table_part}
use Rattle.queries.specs.bulk_ends.Ends.{end_from, ends_up_to, all_ends}
use Rattle.queries.specs.bulk_ends.Promise.{ends_room, PointsKept, end_rules, all_rules, EndsAnswer}
use Rattle.queries.specs.bulk_ends.Steps.{Reachable, EndsAdmission}
use Rattle.queries.specs.bulk_ends.laws.Writes.{ends_length}

-- ---- rule 2 by its tests, and what it grants
module _ (n k work out : ℕ) where
  pub no_table : work < n → false ≡ ends_room n k work out
  unfolding ends_room
  no_table h = rw (lt-leb n work h)

  pub last_test : n ≤ work → leb k out ≡ ends_room n k work out
  unfolding ends_room
  last_test h = rw (le-leb n work h)

  pub room_table : ends_room n k work out ≡ true → n ≤ work
  unfolding ends_room
  room_table q = leb-true n work (and_left (leb n work) (leb k out) q)

  pub room_ends : ends_room n k work out ≡ true → k ≤ out
  unfolding ends_room
  room_ends q = leb-true k out (and_right (leb n work) (leb k out) q)

  pub room_both : n ≤ work → k ≤ out → ends_room n k work out ≡ true
  unfolding ends_room
  room_both h l = rw (le-leb n work h, le-leb k out l)

-- ---- the rules up to 10
module _ (m : Mesh) (s : ℕ) (points : List Float) where
  -- an odd list of points
  pub odd_points : (w o : List ℕ) → length points % 2 ≢ 0 → EndsAdmission m s points w w o o refused_count
  odd_points w o n = record {
    found = breaks n;
    mesh = λ z. absurd (omega arith);
    room = λ z. absurd (omega arith);
    site = λ z. absurd (omega arith);
    kept = λ z. absurd (omega arith);
    work = sym (exit_held EMPTY _ w refused_count (λ z. omega arith) (omega arith));
    out = refl;
  }

  module _ {w w' : List ℕ} {k r : ℕ} (o : List ℕ) (even : length points % 2 ≡ 0) (asked : Asked (end_rules (site_count m.sites) s points) k) (b : Bool)
      (is : b ≡ ends_room (site_count m.sites) (length points / 2) (length w) (length o)) (a : Admission m b k w w' r) where
    numbered : Finds (all_rules m s points (length w) (length o)) 0 r
    numbered =
        keeps even (rw is at (admits_own (end_rules (site_count m.sites) s points) (search rules) asked.found a.number).found)

    own : r ≡ 0 → (s < site_count m.sites) × PointsKept points
    own z =
        let fit = (admitted (asked_answers k) a.number z).fit.0 in
        let kept = finds_keep (λ r. r ≡ 0) (search rules) fit asked.found in
        (kept.0, kept.1.0)

    pub ends_left : r < refused_triangle → EndsAdmission m s points w w' o o r
    ends_left l = record {
      found = numbered;
      mesh = λ z. (admitted (asked_answers k) a.number z).accepted;
      room = λ z. sym is ∙ (admitted (asked_answers k) a.number z).roomed;
      site = λ z. (own z).0;
      kept = λ z. (own z).1;
      work = a.work;
      out = rw (lt-ltb r refused_triangle l);
    }

    pub ends_cleared : {o' : List ℕ} → refused_triangle ≤ r → o' ≡ replicate (length o) EMPTY → EndsAdmission m s points w w' o o' r
    ends_cleared l q = record {
      found = numbered;
      mesh = λ z. absurd (omega arith);
      room = λ z. absurd (omega arith);
      site = λ z. absurd (omega arith);
      kept = λ z. absurd (omega arith);
      work = a.work;
      out = rw (le-ltb r refused_triangle l) q;
    }

-- ---- the whole call
module _ {m : Mesh} {s : ℕ} {points : List Float} {w w' o o' : List ℕ} {r : ℕ} (a : EndsAdmission m s points w w' o o' r) where
  pub ends_refused : r ≢ 0 → EndsAnswer m s points w w' o o' r
  unfolding at_exit
  ends_refused n = record { number = a.found; work = a.work; out = a.out ∙ rw (ne_eqb r 0 n) }

  module _ (z : r ≡ 0) where
    work_room : site_count m.sites ≤ length w
    work_room = room_table _ _ _ _ (a.room z)

    table_is : w' ≡ leftmost_in m.triangles m.halfedges (site_count m.sites) (length w)
    table_is = a.work ∙ exit_made EMPTY (leftmost_in m.triangles m.halfedges (site_count m.sites) (length w)) w r z

    pub count_long : site_count m.sites ≤ length w'
    count_long =
        omega (arith, ap length table_is, table_long m.triangles m.halfedges m.hull (site_count m.sites) (topology (a.mesh z)) (length w) work_room, work_room)

    table_read : take (site_count m.sites) w' ≡ table_of m
    table_read = ap (take (site_count m.sites)) table_is ∙ table_part m.triangles m.halfedges m.hull (site_count m.sites) (topology (a.mesh z)) (length w) work_room

    out_same : o' ≡ o
    out_same = a.out ∙ rw (lt-ltb r refused_triangle (omega arith))

    -- what walking the paths needs
    pub reachable : Reachable m.sites m.triangles m.halfedges (take (site_count m.sites) w') s points (length o')
    reachable = rw (table_read, out_same) (record {
      walkable = ready (topology (a.mesh z));
      towards = λ i h. towards m.sites _ (a.mesh z).coordinates ((a.kept z).each i h);
      site = a.site z;
      room = room_ends _ _ _ _ (a.room z);
    })

    pub ends_given : {o'' : List ℕ}
        → o'' ≡ sets o' 0 (ends_up_to (end_from m.sites m.triangles m.halfedges (take (site_count m.sites) w')) points s (length points / 2))
        → EndsAnswer m s points w w' o o'' 0
    unfolding at_exit
    ends_given x =
        let many = ends_length (end_from m.sites m.triangles m.halfedges (table_of m)) points s (length points / 2) in
        let fits : length (all_ends m points s) ≤ length o = omega (arith, many, room_ends _ _ _ _ (a.room z)) in
        record {
          number = rw z at a.found;
          work = a.work ∙ ap (work_after m w) z;
          out = (rw (table_read, out_same) at x) ∙ sets_all (all_ends m points s) o fits;
        }
