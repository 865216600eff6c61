-- The loops of rule 10: what each keeps from turn to turn, and how the answer comes out.
use Rattle.std.specs.Prelude.{◌≡◌, refl, Bool, true, false, List, ◌≢◌, ℕ, ◌+◌, ◌≤◌, ◌<◌, eqb, length, get_or, set}
use Rattle.std.proofs.Common.{sym, ap, ◌∙◌, subst, ⊎_elim, arith, add-one, length-set, get_or-set_same, get_or-set_other}
use Rattle.base.specs.common.laws.Decide.{lt_or_ge, eq_or_ne, first_all}
use Rattle.base.specs.common.Decide.{First, Says}
use Rattle.base.specs.numbers.Numbers.{EMPTY}
use Rattle.mesh.specs.Mesh.{end_of, table_to, leftmost_of, whole_of, FanAt, Fan, Paired, leftmost_in, total_to}
use Rattle.mesh.specs.laws.Next.{next_lt}
use Rattle.mesh.specs.laws.WalkSteps.{walk_done}
use Rattle.mesh.specs.laws.Walks.{walk_short}
use Rattle.mesh.specs.laws.Table.{table_length, table_leftmost, table_longer, longer_at}
use Rattle.mesh_check.specs.fan.Answer.{FanAnswer}
use Rattle.mesh_check.specs.degrees.Packed.{LongWalks}
use Rattle.mesh.specs.laws.Total.{Ends, total_says}
use Rattle.mesh_check.specs.fan.Counts.{less_of, owed_to, ends_to, WalkLengths, CountedDown}
use Rattle.mesh_check.specs.fan.laws.Owed.{owed_at_lem, spent, spent_debt, spent_paid, enough, all_reached}

-- the same of the entries below n; the others are the old ones
pub record Measuring (he old new : List ℕ) (n : ℕ) : Type 0 where
  pub room : n ≤ length old
  pub long : length new ≡ length old
  pub done : (s : ℕ) → s < n → get_or new s 0 ≡ length (whole_of he (get_or old s 0))
  pub rest : (s : ℕ) → n ≤ s → get_or new s 0 ≡ get_or old s 0

pub measuring_start : (he old : List ℕ) → Measuring he old old 0
measuring_start he old = record { room = omega arith; long = refl; done = λ s l. absurd (omega arith); rest = λ s l. refl }

pub measuring_step : (he old new : List ℕ) (n x : ℕ) → Measuring he old new n → n < length old → x ≡ length (whole_of he (get_or new n 0)) → Measuring he old (set new n x) (n + 1)
measuring_step he old new n x g l q = record {
  room = omega arith;
  long = length-set new n x ∙ g.long;
  done = λ s h.
      ⊎_elim
      (λ w. rw w (get_or-set_same new n x 0 (omega (arith, g.long)) ∙ q ∙ ap (λ e. length (whole_of he e)) (g.rest n (omega arith))))
      (λ w. get_or-set_other new n s x 0 w ∙ g.done s (omega arith))
      (eq_or_ne s n);
  rest = λ s h. get_or-set_other new n s x 0 (omega arith) ∙ g.rest s (omega arith);
}

pub measuring_done : (he old new : List ℕ) (n : ℕ) → Measuring he old new n → length old ≤ n → WalkLengths he old new
measuring_done he old new n g l = record { long = g.long; at = λ s h. g.done s (omega arith) }

-- a turn of the loop that counts off
pub owed_next : (tri t work : List ℕ) (e s s' v : ℕ) → work ≡ owed_to tri t e → s ≡ s' → s' ≡ end_of tri e → v ≡ less_of (get_or work s 0)
    → set work s v ≡ owed_to tri t (e + 1)
unfolding owed_to
owed_next tri t work e s s' v p q r h = rw add-one (cc)

-- the first of one rule is the first of another that says the same
first_same : {P Q : ℕ → Type 0} {n r : ℕ} → ((k : ℕ) → k < n → P k → Q k) → ((k : ℕ) → k < n → Q k → P k) → First P n r → First Q n r
first_same pq qp f = record { within = f.within; before = λ k l. pq k (omega (arith, f.within)) (f.before k l); at = λ l q. f.at l (qp _ l q) }

module _ (tri he : List ℕ) (sites w : ℕ) (same : length he ≡ length tri) (ok : Paired tri he) (fits : sites ≤ w) (named : (k : ℕ) → k < length tri → get_or tri k 0 < sites) where
  ends : (e : ℕ) → e < length tri → end_of tri e < sites
  ends e l = named _ (next_lt (rw (← same) ok.threes) l)

  at : (s : ℕ) → s < sites → get_or (table_to tri he w (length tri)) s 0 ≡ get_or (leftmost_of tri he sites) s 0
  at s l = ap (λ t. get_or t s 0) (table_longer tri he sites w fits ends) ∙ longer_at tri he sites w fits ends s l

  leftmost_ends : (n s : ℕ) → s < n → ((e : ℕ) → e < length tri → end_of tri e < n) → get_or (table_to tri he n (length tri)) s 0 < length he
      → end_of tri (get_or (table_to tri he n (length tri)) s 0) ≡ s
  leftmost_ends n s l h t = ((table_leftmost tri he n (length tri) s (omega (arith, ok.small)) h l).some (omega (arith, ok.small))).1

  short : (t : ℕ) → length (whole_of he t) < EMPTY
  short t =
      ⊎_elim
      (λ l. omega (arith, ok.small, walk_short tri he ok t l (length he)))
      (λ l. rw (walk_done he t (length he) t l) (omega arith))
      (lt_or_ge t (length he))

  -- the lowest site in debt is the lowest with a broken fan
  pub broken_first : (table lens owed : List ℕ) (r : ℕ) → table ≡ table_to tri he w (length tri) → WalkLengths he table lens
      → owed ≡ owed_to tri lens (length tri) → First (λ s. get_or owed s 0 ≢ EMPTY) sites r → First (FanAt tri he (leftmost_of tri he sites)) sites r
  broken_first table lens owed r qt g qo f =
      first_same
      (λ s l p e le q. all_reached tri he ok (get_or (leftmost_of tri he sites) s 0) s (leftmost_ends sites s l ends)
      (omega (arith, spent_paid _ _ (λ z. p (count s l ∙ z)), long s l, ap (ends_to tri s) same)) e le q)
      (λ s l p z.
      let h = spent_debt _ _ (rw (long s l) (short _)) (sym (count s l) ∙ z) in
      omega (arith, h, long s l, ap (ends_to tri s) same, enough tri he ok (get_or (leftmost_of tri he sites) s 0) s (leftmost_ends sites s l ends) p))
      f
    where
      tab_long : length table ≡ w
      tab_long = ap length qt ∙ table_length tri he w (length tri)

      long : (s : ℕ) → s < sites → get_or lens s 0 ≡ length (whole_of he (get_or (leftmost_of tri he sites) s 0))
      long s l = g.at s (omega (arith, tab_long)) ∙ ap (λ e. length (whole_of he e)) (ap (λ t. get_or t s 0) qt ∙ at s l)

      count : (s : ℕ) → s < sites → get_or owed s 0 ≡ spent (get_or lens s 0) (ends_to tri s (length tri))
      count s l = ap (λ t. get_or t s 0) qo ∙ owed_at_lem tri lens s (omega (arith, tab_long, g.long)) (rw (long s l) (short _)) (length tri)

  -- the sum decides whether there is one
  table_ends : Ends tri he (table_to tri he w (length tri))
  table_ends = record {
    sites = λ e l. rw (table_length tri he w (length tri)) (omega (arith, ends e (rw (← same) l)));
    ends = λ n l h. leftmost_ends w n (rw (table_length tri he w (length tri)) at l) (λ e k. omega (arith, ends e k)) h;
  }

  fan_table : (table : List ℕ) → table ≡ table_to tri he w (length tri) → ((s : ℕ) → s < sites → FanAt tri he (leftmost_of tri he sites) s) → Fan tri he table
  fan_table table q f e l = rw (q, at (end_of tri e) (ends e (rw (← same) l))) (f (end_of tri e) (ends e (rw (← same) l)) e l refl)

  table_fan : (table : List ℕ) → table ≡ table_to tri he w (length tri) → Fan tri he table → (s : ℕ) → s < sites → FanAt tri he (leftmost_of tri he sites) s
  table_fan table q f s l e le p = rw (← at s l, ← q, ← p) (f e le)

-- walks as long as half-edges end at their sites: no fan is broken
pub fan_long : (tri he : List ℕ) (sites : ℕ) (old new : List ℕ) → length he ≡ length tri → Paired tri he → sites ≤ length old
    → ((k : ℕ) → k < length tri → get_or tri k 0 < sites) → LongWalks tri he (length old) new → FanAnswer tri he sites old new sites
fan_long tri he sites old new same ok fits named r = record {
  first = record {
    within = omega arith;
    before = λ s l e le q.
        let t : get_or new s 0 ≡ get_or (leftmost_of tri he sites) s 0 = ap (λ k. get_or k s 0) r.table ∙ at tri he sites (length old) same ok fits named s l in
        all_reached tri he ok (get_or (leftmost_of tri he sites) s 0) s (leftmost_ends tri he sites (length old) same ok fits named sites s l (ends tri he sites (length old) same ok fits named))
        (rw (← t) (omega (arith, r.reached s (omega arith), ap (ends_to tri s) same))) e le q;
    at = λ l. absurd (omega arith);
  };
  table = λ _. r.table ∙ table_longer tri he sites (length old) fits (ends tri he sites (length old) same ok fits named);
  owed = λ l. absurd (omega arith);
}

module _ (tri he : List ℕ) (sites : ℕ) (old table : List ℕ) (same : length he ≡ length tri) (ok : Paired tri he) (fits : sites ≤ length old)
    (named : (k : ℕ) → k < length tri → get_or tri k 0 < sites) (q : table ≡ table_to tri he (length old) (length tri))
    (b : Bool) (h : b ≡ eqb (total_to he table (length table)) (length he)) where
  decided : Says b (Fan tri he table)
  decided = total_says tri he table ok (rw q (table_ends tri he sites (length old) same ok fits named)) b h

  longer : table_to tri he (length old) (length tri) ≡ leftmost_in tri he sites (length old)
  longer = table_longer tri he sites (length old) fits (ends tri he sites (length old) same ok fits named)

  pub fan_whole : b ≡ true → FanAnswer tri he sites old table sites
  fan_whole t = record {
    first = record { within = omega arith; before = table_fan tri he sites (length old) same ok fits named table q (rw t at decided); at = λ l. absurd (omega arith) };
    table = λ _. q ∙ longer;
    owed = λ l. absurd (omega arith);
  }

  pub fan_broken : (new : List ℕ) (r : ℕ) → b ≡ false → First (FanAt tri he (leftmost_of tri he sites)) sites r → CountedDown tri he table new → FanAnswer tri he sites old new r
  fan_broken new r t f d = record {
    first = f;
    owed = λ _. subst (λ k. CountedDown tri he k new) (q ∙ longer) d;
    table = λ l. absurd ((rw t at decided) (fan_table tri he sites (length old) same ok fits named table q (first_all f l)));
  }
