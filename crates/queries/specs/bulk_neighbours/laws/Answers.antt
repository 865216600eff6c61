-- The answer, from the rules that were tried and the lists that were made.
use Rattle.std.specs.Prelude.{◌≡◌, refl, Bool, true, false, List, [], ◌++◌, ◌≢◌, ℕ, ◌-◌, ◌≤◌, ◌<◌, leb, length, take}
use Rattle.std.proofs.Math.Path.{sym, ap}
use Rattle.std.proofs.Common.{◌∙◌, true≢false, arith}
use Rattle.std.proofs.Math.ListN.{replicate}
use borrow.Author.Tests.{ne_eqb, lt-ltb, le-ltb, leb-true, leb-false}
use Rattle.base.specs.common.Decide.{Says}
use Rattle.base.specs.common.Refusals.{Finds}
use Rattle.base.specs.common.laws.Refusals.{nothing, breaks, keeps, finds_first, finds_after, finds_keep}
use Rattle.base.specs.numbers.Numbers.{EMPTY, refused_triangle, refused_offsets}
use Rattle.mesh.specs.Mesh.{leftmost_in}
use Rattle.mesh.specs.Rules.{call_rules}
use Rattle.mesh.specs.Accepted.{Mesh, table_of, site_count}
use Rattle.mesh.specs.laws.Facts.{topology, paired, tab_length}
use Rattle.mesh_check.specs.whole.AtExit.{at_exit}
use Rattle.mesh_check.specs.whole.Answers.{work_after}
use Rattle.mesh_check.specs.whole.laws.AtExit.{exit_made, exit_blank}
use Rattle.queries.specs.clipped.laws.Clippable.{clippable}
use Rattle.arguments.specs.asking.Asks.{CellsOf}
use Rattle.admission.specs.Admission.{Admission}
use Rattle.admission.specs.laws.Admits.{asked_answers, call_answers, admitted, admits_few, admits_rules}
use Rattle.admission.specs.laws.LeftmostTable.{table_long, table_part}
use Rattle.queries.specs.all_neighbours.Lists.{nothing_lent, list_of, lists_to}
use Rattle.queries.specs.all_neighbours.Steps.{ListsFit, MadeLists}
use Rattle.queries.specs.bulk_neighbours.Promise.{ListsRoom, RoomFor, CellsLent, lent_rules, made_after, AllNeighboursAnswer}
use Rattle.queries.specs.bulk_neighbours.Steps.{ListsAdmission}
use Rattle.queries.specs.bulk_neighbours.RoomTheorem.{room_suffices}

-- ---- rule 2 by its test
pub says_true : {P : Type 0} (b : Bool) → Says b P → b ≡ true → P
says_true true s q = s
says_true false s q = absurd (true≢false (sym q))

true_says : {P : Type 0} (b : Bool) → Says b P → P → b ≡ true
true_says true s p = refl
true_says false s p = absurd (s p)

module _ (sites entries hull work starts out : ℕ) (a : sites ≤ work) (b : sites < starts) (c : hull ≤ out) where
  pub last_test : Says (leb entries (out - hull)) (ListsRoom sites entries hull work starts out)
  last_test = go (leb entries (out - hull)) refl
    where
      go : (t : Bool) → leb entries (out - hull) ≡ t → Says t (ListsRoom sites entries hull work starts out)
      go true q = record { table = a; cuts = b; lists = omega (arith, leb-true entries (out - hull) q) }
      go false q = λ x. omega (arith, leb-false entries (out - hull) q, x.lists)

-- ---- the rules up to 10
module _ {m : Mesh} {w w' : List ℕ} {r : ℕ} (st o : List ℕ) (b : Bool) (says : Says b (RoomFor m (length w) (length st) (length o))) (a : Admission m b 0 w w' r) where
  abbrev room : Type 0
  room = RoomFor m (length w) (length st) (length o)

  numbered : Finds (call_rules m room []) 0 r
  numbered = admits_rules m room (λ _. (says_true b says, true_says b says)) a.number [] tt nothing

  pub lists_left : r < refused_triangle → ListsAdmission m w w' st st o o r
  lists_left l = record {
    found = numbered;
    few = omega (arith, l);
    mesh = λ z. (admitted (asked_answers 0) a.number z).accepted;
    room = λ z. says_true b says (admitted (asked_answers 0) a.number z).roomed;
    work = a.work;
    starts = rw (lt-ltb r refused_triangle l);
    out = rw (lt-ltb r refused_triangle l);
  }

  pub lists_cleared : {st' o' : List ℕ} → refused_triangle ≤ r → st' ≡ replicate (length st) EMPTY → o' ≡ replicate (length o) EMPTY → ListsAdmission m w w' st st' o o' r
  lists_cleared l p q =
      let small = admits_few (omega arith) a.number in
      record {
        found = numbered;
        few = omega arith;
        mesh = λ z. absurd (omega arith);
        room = λ z. absurd (omega arith);
        work = a.work;
        starts = rw (le-ltb r refused_triangle l) p;
        out = rw (le-ltb r refused_triangle l) q;
      }

-- ---- rule 16
pub none_lent : (off ix : List ℕ) (n : ℕ) → nothing_lent (length off) (length ix) ≡ true → CellsLent off ix n
none_lent off ix n q = record { cells = λ h. absurd (true≢false (sym q ∙ h)) }

pub some_lent : (off ix : List ℕ) (n : ℕ) (b : Bool) → nothing_lent (length off) (length ix) ≡ false → Says b (CellsOf off ix n) → Says b (CellsLent off ix n)
some_lent off ix n true q s = record { cells = λ _. s }
some_lent off ix n false q s = λ x. s (x.cells q)

-- ---- what an admitted mesh gives
module _ {m : Mesh} {w w' st st' o o' : List ℕ} {r : ℕ} (a : ListsAdmission m w w' st st' o o' r) (z : r ≡ 0) where
  abbrev made : List ℕ
  made = leftmost_in m.triangles m.halfedges (site_count m.sites) (length w)

  table_is : w' ≡ made
  table_is = a.work ∙ exit_made EMPTY made w r z

  w_long : length w' ≡ length w
  w_long = ap length table_is ∙ table_long m.triangles m.halfedges m.hull (site_count m.sites) (topology (a.mesh z)) (length w) (a.room z).table

  pub count_long : site_count m.sites ≤ length w'
  count_long = omega (arith, w_long, (a.room z).table)

  pub table_read : take (site_count m.sites) w' ≡ table_of m
  table_read = ap (take (site_count m.sites)) table_is ∙ table_part m.triangles m.halfedges m.hull (site_count m.sites) (topology (a.mesh z)) (length w) (a.room z).table

  starts_same : st' ≡ st
  starts_same = a.starts ∙ rw (lt-ltb r refused_triangle (omega arith))

  out_same : o' ≡ o
  out_same = a.out ∙ rw (lt-ltb r refused_triangle (omega arith))

-- ---- the whole call
module _ {m : Mesh} {w w' st st' o o' : List ℕ} {r : ℕ} (a : ListsAdmission m w w' st st' o o' r) (off ix : List ℕ) where
  pub all_refused : r ≢ 0 → AllNeighboursAnswer m off ix w w' st st' o o' r
  unfolding made_after at_exit
  all_refused n = record {
    number = finds_first (lent_rules off ix (site_count m.sites)) n a.found;
    work = a.work;
    starts = a.starts ∙ rw (ne_eqb r 0 n, ne_eqb r refused_offsets (λ z. omega (arith, a.few)));
    out = a.out ∙ rw (ne_eqb r 0 n, ne_eqb r refused_offsets (λ z. omega (arith, a.few)));
  }

  module _ (z : r ≡ 0) where
    after_rules : {d : ℕ} → Finds (lent_rules off ix (site_count m.sites)) 0 d
        → Finds (call_rules m (RoomFor m (length w) (length st) (length o)) [] ++ lent_rules off ix (site_count m.sites)) 0 d
    after_rules f =
        let room = RoomFor m (length w) (length st) (length o) in
        finds_after (call_rules m room []) (finds_keep (λ r. r ≡ 0) (call_answers m room [] tt) z a.found) f

    pub all_denied : {w'' : List ℕ} → (CellsLent off ix (site_count m.sites) → ⊥) → w'' ≡ replicate (length w') EMPTY → AllNeighboursAnswer m off ix w w'' st st' o o' refused_offsets
    unfolding made_after
    all_denied n c = record {
      number = after_rules (breaks n);
      work = c ∙ ap (λ (d : ℕ). replicate d EMPTY) (w_long a z) ∙ sym (exit_blank EMPTY (made a z) w refused_offsets (omega arith));
      starts = starts_same a z;
      out = out_same a z;
    }

    module _ (lent : CellsLent off ix (site_count m.sites)) where
      -- what writing the lists needs
      pub lists_fit : ListsFit m.triangles m.halfedges (take (site_count m.sites) w') off ix (length st') (length o')
      lists_fit = rw (table_read a z, starts_same a z, out_same a z) fits
        where
          fits : ListsFit m.triangles m.halfedges (table_of m) off ix (length st) (length o)
          fits =
              let c = (a.mesh z).counts in
              let t = topology (a.mesh z) in
              let q : length (table_of m) ≡ site_count m.sites = tab_length t in
              record {
                listable = λ s h. record {
                  paired = paired t;
                  even = t.same;
                  clippable = λ p. clippable t (lent.cells p).many (lent.cells p).cut;
                  cell = λ p. omega (arith, (lent.cells p).many, q);
                };
                room = rw q (omega (arith, room_suffices (a.mesh z) off ix, (a.room z).lists));
                few = rw q (omega (arith, room_suffices (a.mesh z) off ix, c.threes, c.few_triangles, c.hull_of_sites, c.few_sites));
                one_more = rw q (a.room z).cuts;
                few_sites = omega (arith, c.few_sites);
              }

      pub all_made : {st'' o'' : List ℕ}
          → MadeLists (lists_to (list_of m.triangles m.halfedges (take (site_count m.sites) w') off ix) (length (take (site_count m.sites) w'))) st' st'' o' o''
          → AllNeighboursAnswer m off ix w w' st st'' o o'' 0
      unfolding made_after at_exit
      all_made x =
          let y = rw (table_read a z, tab_length (topology (a.mesh z)), starts_same a z, out_same a z) at x in
          record {
            number = after_rules (keeps lent nothing);
            work = a.work ∙ ap (work_after m w) z;
            starts = y.cuts;
            out = y.entries;
          }
