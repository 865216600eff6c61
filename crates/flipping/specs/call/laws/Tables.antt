-- The stores on an accepted mesh: every number that is followed is in range, and in a list that begins with the leftmost table they leave one that begins
-- with the table worked out afresh.
use Rattle.std.specs.Prelude.{◌≡◌, List, ◌++◌, ℕ, ◌≤◌, ◌<◌, length, get_or, set}
use Rattle.std.proofs.Common.{sym, ap, ◌∙◌, subst, arith, length-set}
use Rattle.std.proofs.Math.ListN.{get_or-append}
use Rattle.std.proofs.lemmas.List.{set-append_left}
use Rattle.mesh.specs.Mesh.{next_of, start_of, leftmost_of}
use Rattle.mesh.specs.Accepted.{Topology}
use Rattle.mesh.specs.laws.Next.{next_lt}
use Rattle.mesh.specs.laws.Table.{table_length}
use Rattle.mesh.specs.laws.Facts.{paired, start_site, tab_some}
use Rattle.flipping.specs.Flip.{turned_sites, relinked}
use Rattle.flipping.specs.Entries.{Four, flip_corners, entries_of, stored_four, gain_of, loss_of}
use Rattle.flipping.specs.laws.Quad.{Quad}
use Rattle.flipping.specs.laws.Pairs.{outer_l, outer_r}
use Rattle.flipping.specs.laws.NewTable.{table_again}
use Rattle.flipping.specs.stores.Ready.{InFour, FlipReady}
use Rattle.flipping.specs.stores.laws.Changes.{same_four}

-- four stores in the first of two lists
pub four_append : (t rest : List ℕ) (s v : Four) → InFour s (length t) → stored_four (t ++ rest) s v ≡ stored_four t s v ++ rest
four_append t rest s v i =
    let one = set t s.0 v.0 in
    let two = set one s.1 v.1 in
    let three = set two s.2 v.2 in
    let l1 : length one ≡ length t = length-set t s.0 v.0 in
    let l2 : length two ≡ length t = length-set one s.1 v.1 ∙ l1 in
    let l3 : length three ≡ length t = length-set two s.2 v.2 ∙ l2 in
    ap (λ k. set (set (set k s.1 v.1) s.2 v.2) s.3 v.3) (set-append_left t rest s.0 v.0 i.first)
    ∙ ap (λ k. set (set k s.2 v.2) s.3 v.3) (set-append_left one rest s.1 v.1 (rw l1 i.second))
    ∙ ap (λ k. set k s.3 v.3) (set-append_left two rest s.2 v.2 (rw l2 i.third))
    ∙ set-append_left three rest s.3 v.3 (rw l3 i.fourth)

pub entries_append : (he t rest : List ℕ) (s : Four) (a b r l : ℕ) → InFour s (length t) → entries_of he (t ++ rest) s a b r l ≡ entries_of he t s a b r l
entries_append he t rest s a b r l i =
    same_four _ _
    (ap (λ k. loss_of he k r b) (get_or-append t rest 0 s.0 i.first))
    (ap (λ k. loss_of he k l a) (get_or-append t rest 0 s.1 i.second))
    (ap (λ k. gain_of he k l) (get_or-append t rest 0 s.2 i.third))
    (ap (λ k. gain_of he k r) (get_or-append t rest 0 s.3 i.fourth))

module _ {tri he hull : List ℕ} {sites : ℕ} (ok : Topology tri he hull sites) {a b r l : ℕ} (q : Quad tri he a b r l) where
  abbrev fresh : List ℕ
  fresh = leftmost_of tri he sites

  corners_in : (n : ℕ) → sites ≤ n → InFour (flip_corners tri a b r l) n
  corners_in n h = record {
    first = omega (arith, start_site ok a q.a_in);
    second = omega (arith, start_site ok b q.b_in);
    third = omega (arith, start_site ok r q.r_in);
    fourth = omega (arith, start_site ok l q.l_in);
  }

  long : length fresh ≡ sites
  long = table_length tri he sites (length tri)

  in_fresh : InFour (flip_corners tri a b r l) (length fresh)
  in_fresh = corners_in (length fresh) (omega (arith, long))

  module _ (rest : List ℕ) where
    entry_x : get_or (fresh ++ rest) (start_of tri r) 0 < length he
    entry_x =
        let w = tab_some ok (start_of tri r) (start_site ok r q.r_in) (next_of a) (next_lt (paired ok).threes q.a_in) (ap (start_of tri) q.before_a) in
        subst (λ k. k < length he) (sym (get_or-append fresh rest 0 (start_of tri r) in_fresh.third)) w.0

    entry_y : get_or (fresh ++ rest) (start_of tri l) 0 < length he
    entry_y =
        let w = tab_some ok (start_of tri l) (start_site ok l q.l_in) (next_of b) (next_lt (paired ok).threes q.b_in) (ap (start_of tri) q.before_b) in
        subst (λ k. k < length he) (sym (get_or-append fresh rest 0 (start_of tri l) in_fresh.fourth)) w.0

    pub ready : (table : List ℕ) → sites ≤ length table → sites ≤ length (fresh ++ rest) → FlipReady tri he table (fresh ++ rest) a b r l
    ready table h k = record {
      same = ok.same;
      linked = record {
        small = rw ok.same ok.small;
        a_in = q.a_in;
        b_in = q.b_in;
        r_in = q.r_in;
        l_in = q.l_in;
        outer_l = λ n. (outer_l (paired ok) q n).inside;
        outer_r = λ n. (outer_r (paired ok) q n).inside;
      };
      tabled = record {
        threes = (paired ok).threes;
        r_in = q.r_in;
        l_in = q.l_in;
        places = corners_in (length (fresh ++ rest)) k;
        third = entry_x;
        fourth = entry_y;
      };
      places = corners_in (length table) h;
    }

    -- a list that begins with the leftmost table, by the work slice that does so too
    pub stored_again : (more : List ℕ) → stored_four (fresh ++ more) (flip_corners tri a b r l) (entries_of he (fresh ++ rest) (flip_corners tri a b r l) a b r l)
        ≡ leftmost_of (turned_sites tri a b r l) (relinked he a b r l) sites ++ more
    stored_again more =
        ap (stored_four (fresh ++ more) (flip_corners tri a b r l)) (entries_append he fresh rest (flip_corners tri a b r l) a b r l in_fresh)
        ∙ four_append fresh more (flip_corners tri a b r l) (entries_of he fresh (flip_corners tri a b r l) a b r l) in_fresh
        ∙ ap (λ k. k ++ more) (table_again ok q)
