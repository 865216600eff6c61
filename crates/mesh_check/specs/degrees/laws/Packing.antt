-- The loops that pack the table and unpack it: what each keeps from turn to turn, and that the table is the leftmost one.
use Rattle.std.specs.Prelude.{◌≡◌, refl, List, ◌≢◌, ℕ, suc, ◌+◌, ◌-◌, ◌*◌, ◌/◌, ◌%◌, ◌≤◌, ◌<◌, length, get_or, set, replicate}
use Rattle.std.proofs.Common.{sym, ap, ◌∙◌, add-one, arith, get_or-set_same, ext_get_or, eq-eqb, ne_eqb, lt-ltb, le-ltb}
use Rattle.std.proofs.Math.Logic.{⊎_elim}
use Rattle.std.proofs.Math.ListN.{length-set}
use Rattle.std.proofs.lemmas.List.{length-replicate, get_or-replicate}
use Rattle.std.proofs.Math.Seq.{get_or-set_other}
use Rattle.base.specs.common.laws.Decide.{lt_or_ge, eq_or_ne}
use Rattle.base.specs.common.Count.{same}
use Rattle.base.specs.common.laws.Count.{same_cases}
use Rattle.base.specs.numbers.Numbers.{EMPTY}
use Rattle.mesh.specs.Mesh.{next_of, end_of, pair_of, table_to, turn_of, whole_of, Leftmost, Paired}
use Rattle.mesh.specs.laws.Next.{next_lt}
use Rattle.mesh.specs.laws.Table.{table_length, table_leftmost, leftmost_one}
use Rattle.mesh.specs.laws.WalkSteps.{WalkCounting, walk_go, counting_start, counting_step}
use Rattle.mesh_check.specs.fan.Counts.{ends_to}
use Rattle.mesh_check.specs.fan.laws.Owed.{never_one}
use Rattle.mesh_check.specs.degrees.Packed.{EndsApart, Lowest, Lowests, Lefts, Leftmosts, unpacked, spare, Unpacks, LongWalks}

-- ---- the lowest, from above

pub lowest_start : (tri : List ℕ) (w n : ℕ) → n ≡ length tri → Lowests tri n (replicate w EMPTY)
lowest_start tri w n q s l =
    let l' : s < w = rw (length-replicate w EMPTY) at l in
    rw (q, get_or-replicate w s EMPTY 0 l') (record {
      within = omega arith;
      counted = omega arith;
      none = λ _. (refl, λ e h k. absurd (omega arith));
      some = λ h. absurd (omega arith);
      lowest = λ e h k. absurd (omega arith);
    })

module _ (tri work : List ℕ) (n v : ℕ) (few : length tri < 524288) (ln : n < length tri) (g : Lowests tri (n + 1) work)
    (h : v ≡ (get_or work (end_of tri n) 0 / 524288 - 1) * 524288 + n) (room : 0 < get_or work (end_of tri n) 0 / 524288) where
  more : (s : ℕ) → ends_to tri s (n + 1) ≡ ends_to tri s n + same (end_of tri n) s
  more s = rw add-one

  here : end_of tri n < length work → Lowest tri n (end_of tri n) v
  here l =
      let m = get_or work (end_of tri n) 0 in
      let o = g (end_of tri n) l in
      let q : v / 524288 ≡ m / 524288 - 1 = omega (arith, h) in
      let r : v % 524288 ≡ n = omega (arith, h) in
      record {
        within = omega (arith, o.within);
        counted = ⊎_elim (λ z. omega (arith, o.within, o.counted, more (end_of tri n), z.1)) (λ z. absurd (z.0 refl)) (same_cases (end_of tri n) (end_of tri n));
        none = λ k. absurd (omega (arith, o.within));
        some = λ _. rw r (ln, refl);
        lowest = λ e k _ _. rw r k;
      }

  elsewhere : (s : ℕ) → s < length work → end_of tri n ≢ s → Lowest tri n s (get_or work s 0)
  elsewhere s l d =
      let o = g s l in
      record {
        within = o.within;
        counted = ⊎_elim (λ z. absurd (d z.0)) (λ z. omega (arith, o.counted, more s, z.1)) (same_cases (end_of tri n) s);
        none = λ k. let p = o.none k in (p.0, λ e a b q. ⊎_elim (λ z. d (rw z at q)) (λ z. p.1 e (omega arith) b q) (eq_or_ne e n));
        some = o.some;
        lowest = λ e a b q. ⊎_elim (λ z. absurd (d (rw z at q))) (λ z. o.lowest e (omega arith) b q) (eq_or_ne e n);
      }

  pub lowest_step : end_of tri n < length work → Lowests tri n (set work (end_of tri n) v)
  lowest_step i s l =
      let l' : s < length work = rw (length-set work (end_of tri n) v) at l in
      ⊎_elim
      (λ z. rw (← z, get_or-set_same work (end_of tri n) v 0 i) (here i))
      (λ z. rw (get_or-set_other work (end_of tri n) s v 0 (λ y. z (sym y))) (elsewhere s l' z))
      (eq_or_ne (end_of tri n) s)

-- the same at the site s₀ that half-edge n ends at
pub lowest_turn : (tri work : List ℕ) (n s₀ v : ℕ) → length tri < 524288 → n < length tri → Lowests tri (n + 1) work → s₀ ≡ end_of tri n
    → v ≡ (get_or work s₀ 0 / 524288 - 1) * 524288 + n → 0 < get_or work s₀ 0 / 524288 → s₀ < length work → Lowests tri n (set work s₀ v)
lowest_turn tri work n s₀ v few ln g q h r i = rw q (lowest_step tri work n v few ln g (rw q at h) (rw q at r) (rw q at i))

-- ---- then the unpaired

pub lefts_start : (tri he work : List ℕ) → Lowests tri 0 work → Leftmosts tri he 0 work
lefts_start tri he work g s l =
    let o = g s l in
    record {
      within = o.within;
      counted = omega (arith, o.counted);
      none = λ k. let p = o.none k in (p.0, λ e. p.1 e (omega arith));
      some = o.some;
      last = λ e k. absurd (omega arith);
      lowest = λ _ e. o.lowest e (omega arith);
    }

module _ (tri he work : List ℕ) (n : ℕ) (g : Leftmosts tri he n work) where
  -- half-edge n changes nothing at site s: it ends elsewhere, or it is paired
  left : (s : ℕ) → s < length work → (end_of tri n ≡ s → pair_of he n ≢ EMPTY) → Lefts tri he (n + 1) s (get_or work s 0)
  left s l d =
      let o = g s l in
      record {
        within = o.within;
        counted = o.counted;
        none = o.none;
        some = o.some;
        last = λ e k q u. ⊎_elim (λ z. absurd (d (rw z at q) (rw z at u))) (λ z. o.last e (omega arith) q u) (eq_or_ne e n);
        lowest = o.lowest;
      }

  pub lefts_pass : pair_of he n ≢ EMPTY → Leftmosts tri he (n + 1) work
  lefts_pass h s l = left s l (λ _. h)

  module _ (v : ℕ) (few : length tri < 524288) (ln : n < length tri) (u : pair_of he n ≡ EMPTY) (h : v ≡ get_or work (end_of tri n) 0 / 524288 * 524288 + n) where
    taken : end_of tri n < length work → Lefts tri he (n + 1) (end_of tri n) v
    taken l =
        let o = g (end_of tri n) l in
        let q : v / 524288 ≡ get_or work (end_of tri n) 0 / 524288 = omega (arith, h) in
        let r : v % 524288 ≡ n = omega (arith, h) in
        record {
          within = rw q o.within;
          counted = rw q o.counted;
          none = λ k. absurd ((o.none (rw q at k)).1 n ln refl);
          some = λ _. rw r (ln, refl);
          last = λ e k _ _. rw r (omega arith, u);
          lowest = λ d. absurd (d (rw r u));
        }

    pub lefts_take : end_of tri n < length work → Leftmosts tri he (n + 1) (set work (end_of tri n) v)
    lefts_take i s l =
        let l' : s < length work = rw (length-set work (end_of tri n) v) at l in
        ⊎_elim
        (λ z. rw (← z, get_or-set_same work (end_of tri n) v 0 i) (taken i))
        (λ z. rw (get_or-set_other work (end_of tri n) s v 0 (λ y. z (sym y))) (left s l' (λ y. absurd (z y))))
        (eq_or_ne (end_of tri n) s)

pub lefts_turn : (tri he work : List ℕ) (n s₀ v : ℕ) → length tri < 524288 → n < length tri → Leftmosts tri he n work → pair_of he n ≡ EMPTY → s₀ ≡ end_of tri n
    → v ≡ get_or work s₀ 0 / 524288 * 524288 + n → s₀ < length work → Leftmosts tri he (n + 1) (set work s₀ v)
lefts_turn tri he work n s₀ v few ln g u q h i = rw q (lefts_take tri he work n g v few ln u (rw q at h) (rw q at i))

-- ---- unpacked

pub unpacks_start : (he old : List ℕ) → Unpacks he old old 0
unpacks_start he old = record { long = refl; done = λ s l. absurd (omega arith); rest = λ s l. refl }

module _ (he old new : List ℕ) (n : ℕ) (g : Unpacks he old new n) where
  -- an entry of a site without half-edges stays
  pub unpacks_pass : 8191 ≤ get_or new n 0 / 524288 → Unpacks he old new (n + 1)
  unfolding unpacked
  unpacks_pass h =
      let q = g.rest n (omega arith) in
      record {
        long = g.long;
        done = λ s l.
            ⊎_elim
            (λ z. rw z (rw (le-ltb (get_or old n 0 / 524288) 8191 (rw q at h)) q, omega (arith, rw q at h)))
            (λ z. g.done s (omega arith))
            (eq_or_ne s n);
        rest = λ s l. g.rest s (omega arith);
      }

  pub unpacks_step : n < length new → (t d : ℕ) → get_or new n 0 / 524288 < 8191 → t ≡ get_or new n 0 % 524288 → d ≡ 8191 - get_or new n 0 / 524288
      → d ≤ length (whole_of he t) + spare he t → Unpacks he old (set new n t) (n + 1)
  unfolding unpacked
  unpacks_step i t d h p q r =
      let w = g.rest n (omega arith) in
      record {
        long = length-set new n t ∙ g.long;
        done = λ s l.
            ⊎_elim
            (λ z. rw z (rw (get_or-set_same new n t 0 i) (rw (lt-ltb (get_or old n 0 / 524288) 8191 (rw w at h)) (rw (← w) p), rw (← w) (rw (← q) r))))
            (λ z. rw (get_or-set_other new n s t 0 z) (g.done s (omega arith)))
            (eq_or_ne s n);
        rest = λ s l. get_or-set_other new n s t 0 (omega arith) ∙ g.rest s (omega arith);
      }

-- ---- what a walk may lack

pub spare_open : (he : List ℕ) (t : ℕ) → pair_of he t ≡ EMPTY → spare he t ≡ 0
unfolding spare
spare_open he t u = rw (eq-eqb (pair_of he t) EMPTY u)

pub spare_paired : (he : List ℕ) (t : ℕ) → pair_of he t ≢ EMPTY → spare he t ≡ 1
unfolding spare
spare_paired he t u = rw (ne_eqb (pair_of he t) EMPTY u)

pub spare_one : (he : List ℕ) (t : ℕ) → spare he t ≤ 1
spare_one he t = ⊎_elim (λ u. omega (arith, spare_open he t u)) (λ u. omega (arith, spare_paired he t u)) (eq_or_ne (pair_of he t) EMPTY)

-- it does not lack: the leftmost half-edge of site s is paired only where all are
none_lacking : (tri he : List ℕ) → length he ≡ length tri → Paired tri he → EndsApart tri → (s t : ℕ) → Leftmost tri he (length tri) s t
    → ends_to tri s (length tri) ≤ length (whole_of he t) + spare he t → ends_to tri s (length tri) ≤ length (whole_of he t)
none_lacking tri he long ok apart s t o h =
    let k : ends_to tri s (length he) ≡ ends_to tri s (length tri) = ap (ends_to tri s) long in
    ⊎_elim
    (λ u. omega (arith, h, spare_open he t u))
    (λ u. omega (
      arith,
      never_one tri he ok t s (λ l. (o.some (omega (arith, ok.small))).1) (λ e l. apart e (rw (← long) l)) (λ e l q z. u (o.last e (rw (← long) l) q z).1)
          (omega (arith, h, spare_paired he t u)),
    ))
    (eq_or_ne (pair_of he t) EMPTY)

-- ---- the table

module _ (tri he : List ℕ) (few : length tri < 524288) (s m : ℕ) (o : Lefts tri he (length tri) s m) where
  lefts_leftmost : Leftmost tri he (length tri) s (unpacked m)
  unfolding unpacked
  lefts_leftmost =
      ⊎_elim
      (λ k. rw (lt-ltb (m / 524288) 8191 k) (record {
        none = λ z. absurd (omega (arith, (o.some k).0));
        some = λ _. o.some k;
        last = o.last;
        lowest = o.lowest;
      }))
      (λ k. rw (le-ltb (m / 524288) 8191 k) (record {
        none = λ _. (o.none k).1;
        some = λ z. absurd (z (o.none k).0);
        last = λ e l q. absurd ((o.none k).1 e l q);
        lowest = λ _ e l q. absurd ((o.none k).1 e l q);
      }))
      (lt_or_ge (m / 524288) 8191)

module _ (tri he : List ℕ) (w : ℕ) (old new : List ℕ) (threes : length tri % 3 ≡ 0) (few : length tri < 524288) (named : (k : ℕ) → k < length tri → get_or tri k 0 < w)
    (q : length old ≡ w) (g : Leftmosts tri he (length tri) old) (r : Unpacks he old new (length old)) where
  new_left : (s : ℕ) → s < length old → Leftmost tri he (length tri) s (get_or new s 0)
  new_left s l = rw (r.done s l).0 (lefts_leftmost tri he few s _ (g s l))

  pub long_walks : length he ≡ length tri → Paired tri he → EndsApart tri → LongWalks tri he w new
  long_walks long ok apart = record {
    table =
        ext_get_or 0 new (table_to tri he w (length tri)) (r.long ∙ q ∙ sym (table_length tri he w (length tri))) (λ s l.
        let l' : s < length old = rw r.long at l in
        leftmost_one tri he (length tri) s _ _ (new_left s l')
        (table_leftmost tri he w (length tri) s (omega arith) (λ e h. named (next_of e) (next_lt threes h)) (rw q at l')));
    reached = λ s l. let l' : s < length old = rw q l in none_lacking tri he long ok apart s (get_or new s 0) (new_left s l') (rw (← (g s l').counted) (r.done s l').1);
  }

-- ---- the walk

-- it is counted from t where that is paired, as if one entry were before it; else from the next
module _ (he : List ℕ) (t e x : ℕ) (q : e ≡ t) where
  pub counting_first : e < length he → pair_of he e ≡ EMPTY → x ≡ turn_of he t e → WalkCounting he t x (2 - 1 - spare he t)
  counting_first l u r =
      let k : 2 - 1 - spare he t ≡ 1 = omega (arith, spare_open he t (rw q at u)) in
      rw k (counting_step he t e 0 x (rw q (counting_start he t)) (omega arith) l r)

  pub counting_there : pair_of he e ≢ EMPTY → x ≡ e → WalkCounting he t x (2 - 1 - spare he t)
  counting_there u r =
      let k : 2 - 1 - spare he t ≡ 0 = omega (arith, spare_paired he t (rw q at u)) in
      rw (k, r, q) (counting_start he t)

-- a walk that has come to a half-edge of the mesh has one entry more than before it
pub counted_on : (he : List ℕ) (t e n : ℕ) → WalkCounting he t e n → n < length he → e < length he → n + 1 ≤ length (whole_of he t)
counted_on he t e n g l h =
    let k : length he - n ≡ suc (length he - (n + 1)) = omega arith in
    omega (arith, rw (k, walk_go he t (length he - (n + 1)) e h) at g.sum)
