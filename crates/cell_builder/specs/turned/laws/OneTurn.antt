-- One turn at a half-edge. Where the table's entry of its site has come by and the fan is closed, the cell is there or the site is idle, and a try changes nothing; where
-- the site is on the hull, its cell is there, or it is idle and a try changes nothing if the edge that closes its ring misses the box.
-- A site whose table entry is e ends at e, so the try there settles it. The cells of other sites stay.
use Rattle.std.specs.Prelude.{◌≡◌, Bool, List, [], ◌⊎◌, ◌≢◌, ℕ, ◌+◌, ◌/◌, ◌≤◌, ◌<◌, length, get_or}
use Rattle.std.proofs.Math.Path.{refl}
use Rattle.std.proofs.Common.{sym, ap, ◌∙◌, inl, inr, ⊎_elim, arith}
use Rattle.std.proofs.Math.Bool.{true, false}
use Prim.{tt}
use Rattle.std.proofs.Math.Dec.{leb, eqb}
use borrow.Author.Tests.{leb-true, leb-false, eqb-true, eqb-false}
use Rattle.base.specs.common.Pick.{pick}
use Rattle.base.specs.common.laws.Decide.{eq_or_ne}
use Rattle.base.specs.numbers.Numbers.{EMPTY}
use Rattle.mesh.specs.Mesh.{end_of, pair_of, leftmost_of, Leftmost}
use Rattle.mesh.specs.Hull.{next_place}
use Rattle.mesh.specs.laws.Border.{after_lt, hull_border, closed_fan}
use Rattle.mesh.specs.laws.Closed.{ClosedAt}
use Rattle.mesh.specs.laws.Facts.{paired, end_site, tab_cases, tab_length, tab_some}
use Rattle.mesh.specs.laws.Table.{table_leftmost}
use Rattle.definition.specs.declared.Fault.{Fault}
use Rattle.definition.specs.Fault.{Outcome, ok, refused}
use Rattle.definition.specs.Build.{CellState, ring_from, clip_into, is_empty}
use Rattle.definition.specs.laws.Gives.{Gives, picked}
use Rattle.build_laws.specs.laws.AllCells.{is_empty_lem}
use Rattle.build_laws.specs.laws.Runs.{true_false}
use Rattle.cell_builder.specs.turned.laws.IdleSites.{IdleSite, ClosesOutside, idle_grown, idle_shrunk, idle_try, closed_closes, try_idle}
use Rattle.cell_builder.specs.declared.tried.Frame.{Frame}
use Rattle.cell_builder.specs.tried.SlicesInvariant.{plan, Ground, Fanned, edge_try}
use Rattle.cell_builder.specs.turned.Marks.{mark_of}
use Rattle.cell_builder.specs.turned.Turns.{due_of, HasEntry, AllHaveEntries, HullsIdle, SettledBefore, SettledAfter}
use Rattle.cell_builder.specs.turned.laws.Onward.{Onward, OthersStay, others_stay}

gives_all : (P : CellState → Type 0) (o : Outcome Fault CellState) → ((r : CellState) → P r) → Gives P o
gives_all P (ok r) h = h r
gives_all P (refused e) h = tt

module _ {tri he hull table : List ℕ} {f : Frame} {off : List ℕ} {g : Ground} {s : CellState} (a : Onward (plan tri he hull table f off) g s) where
  pub in_list : {e : ℕ} → e < length tri → e < length he
  in_list h = rw a.on.mesh.same h

  has_entry : {e : ℕ} → e < length tri → HasEntry tri he table e
  has_entry {e} h =
      let top = a.on.mesh in
      let site = end_site top e (in_list h) in
      rw a.on.table_is (rw (tab_length top) site, (tab_some top (end_of tri e) site e (in_list h) refl).0)

  pub all_entries_lem : AllHaveEntries tri he table
  all_entries_lem = record { threes = a.on.mesh.threes; few = a.on.few_entries; each = λ e h. has_entry h }

  -- the table's entry of a site
  pub leftmost : (k : ℕ) → k < g.sites → Leftmost tri he (length tri) k (get_or table k 0)
  leftmost k l =
      let top = a.on.mesh in
      rw a.on.table_is (table_leftmost tri he g.sites (length tri) k (omega (arith, top.small)) (λ e h. end_site top e (in_list h)) l)

  -- a paired one tells that the fan is closed
  pub closed : (k : ℕ) → k < g.sites → pair_of he (get_or table k 0) ≢ EMPTY → ClosedAt tri he k
  closed k l n =
      let top = a.on.mesh in
      closed_fan tri he hull g.sites k (paired top) top.border (λ e h q u. n ((leftmost k l).last e (rw (← top.same) h) q u).1)

  -- an unpaired one that the site is on the hull
  pub on_hull_lem : (k : ℕ) → get_or table k 0 < length he → end_of tri (get_or table k 0) ≡ k → pair_of he (get_or table k 0) ≡ EMPTY → (i : ℕ) × (i < length hull) × (get_or hull i 0 ≡ k)
  on_hull_lem k l q u =
      let o = (hull_border tri he hull g.sites a.on.mesh.border (get_or table k 0) l u).0 in
      (next_place (length hull) o.0, after_lt (length hull) o.0 o.1, sym o.3 ∙ q)

  -- two different sites have no entry in common
  pub other_entry : (k e : ℕ) → k < g.sites → e < length tri → k ≢ end_of tri e → get_or table k 0 ≢ e
  other_entry k e l h n z =
      let w : get_or (leftmost_of tri he g.sites) k 0 ≡ e = rw a.on.table_is at z in
      ⊎_elim
      (λ m. omega (arith, a.on.mesh.small))
      (λ m. n (sym m.1 ∙ ap (end_of tri) w))
      (tab_cases a.on.mesh k l)

  -- ---- an idle site's try, where the edge that closes its ring misses the box

  module _ {e : ℕ} (h : e < length tri) where
    idle : IdleSite f.bounds (length tri / 3) tri he g.x.verts (end_of tri e)
        → (IdleSite f.bounds (length tri / 3) tri he s.verts (end_of tri e) → ClosesOutside f.bounds he s.verts e) → edge_try (plan tri he hull table f off) e s ≡ ok s
    idle i closes =
        let now = idle_grown a.on.mesh f.bounds (end_of tri e) (omega (arith, a.on.low)) a.grown i in
        picked (λ (o : Outcome Fault CellState). o ≡ ok s) (is_empty (get_or s.cells (end_of tri e) [])) _ _
        (λ t. idle_try a.on.mesh f.bounds (end_of tri e) s e (in_list h) refl now (closes now) (is_empty_lem _ t))
        (λ t. refl)

    -- on the hull
    pub retry_nothing : HullsIdle (plan tri he hull table f off) g s → pair_of he (get_or table (end_of tri e) 0) ≡ EMPTY → ClosesOutside f.bounds he s.verts e
        → edge_try (plan tri he hull table f off) e s ≡ ok s
    retry_nothing known u c =
        ⊎_elim
        (λ q. rw q)
        (λ i. idle i (λ _. c))
        (known e h u)

  module _ {m : List ℕ} {e : ℕ} (b : SettledBefore (plan tri he hull table f off) g m e s) (h : e < length tri) where
    abbrev site : ℕ
    site = end_of tri e

    abbrev entry : ℕ
    entry = get_or table site 0

    abbrev nc : ℕ
    nc = length tri / 3

    abbrev try : Outcome Fault CellState
    try = edge_try (plan tri he hull table f off) e s

    pub in_sites : site < g.sites
    in_sites = end_site a.on.mesh e (in_list h)

    pub grown_room : nc ≤ length g.x.verts
    grown_room = omega (arith, a.on.low)

    -- the cell is there
    pub there : is_empty (get_or s.cells site []) ≡ false → try ≡ ok s
    there q = rw q

    pub inner_nothing : pair_of he entry ≢ EMPTY → entry < e → try ≡ ok s
    inner_nothing n l =
        ⊎_elim
        there
        (λ i. idle h i (λ now. closed_closes a.on.mesh f.bounds site s e (in_list h) refl (closed site in_sites n) now))
        (b.inner site in_sites n l)

    pub hull_nothing : mark_of m e ≡ 0 → pair_of he entry ≡ EMPTY → try ≡ ok s
    hull_nothing z u = there (b.hulls.marked e h u z)

    -- what is not due changes nothing, and its entry has come by
    not_due : due_of tri he table e ≡ false → (try ≡ ok s) × (entry < e)
    unfolding due_of
    not_due = by (leb e entry) refl
      where
        by : (t : Bool) → leb e entry ≡ t → pick t (λ _. true) (λ _. eqb (pair_of he entry) EMPTY) ≡ false → (try ≡ ok s) × (entry < e)
        by true q z = absurd (true_false refl z)
        by false q z = (inner_nothing (eqb-false _ _ z) (leb-false e entry q), leb-false e entry q)

    -- what is due and inner has its entry to come
    pub due_inner : due_of tri he table e ≡ true → pair_of he entry ≢ EMPTY → e ≤ entry
    unfolding due_of
    due_inner d n = by (leb e entry) refl d
      where
        by : (t : Bool) → leb e entry ≡ t → pick t (λ _. true) (λ _. eqb (pair_of he entry) EMPTY) ≡ true → e ≤ entry
        by true q z = leb-true e entry q
        by false q z = absurd (n (eqb-true _ _ z))

    -- ---- nothing to do

    same_settled : entry < e → SettledBefore (plan tri he hull table f off) g m (e + 1) s
    same_settled l = record {
      inner = λ k lk n m. ⊎_elim (λ z. b.inner k lk n (rw z l)) (λ z. b.inner k lk n (omega (arith, other_entry k e lk h z))) (eq_or_ne k site);
      hulls = b.hulls;
    }

    pub turn_skipped : due_of tri he table e ≡ false → (edge_try (plan tri he hull table f off) e s ≡ ok s) × SettledBefore (plan tri he hull table f off) g m (e + 1) s
    turn_skipped d = let w = not_due d in (w.0, same_settled w.1)

    -- ---- a try

    abbrev Made : CellState → Type 0
    Made r = (is_empty (get_or r.cells site []) ≡ false) ⊎ IdleSite f.bounds nc tri he g.x.verts site

    abbrev Kept : CellState → Type 0
    Kept r = is_empty (get_or s.cells site []) ≡ false → r ≡ s

    stay : Gives (OthersStay site s) try
    stay = picked (Gives (OthersStay site s)) (is_empty (get_or s.cells site [])) _ _ (λ _. others_stay f.bounds nc site (ring_from he e) s) (λ _ k n. refl)

    kept : Gives Kept try
    kept =
        picked (Gives Kept) (is_empty (get_or s.cells site [])) _ _
        (λ t. gives_all Kept (clip_into f.bounds nc site (ring_from he e) s) (λ r z. absurd (true_false t z)))
        (λ _ z. refl)

    -- at the table's entry of an inner site
    made : Fanned (plan tri he hull table f off) g → pair_of he entry ≢ EMPTY → e ≡ entry → Gives Made try
    made fan n is =
        picked (Gives Made) (is_empty (get_or s.cells site [])) _ _
        (λ t. by (clip_into f.bounds nc site (ring_from he e) s) refl)
        (λ t. inl t)
      where
        wide : site < length s.cells
        wide = rw a.width in_sites

        left : (r : CellState) → clip_into f.bounds nc site (ring_from he e) s ≡ ok r → (t : Bool) → is_empty (get_or r.cells site []) ≡ t → Made r
        left r q true t =
            inr (idle_shrunk a.on.mesh f.bounds site grown_room a.grown
            (try_idle a.on.mesh f.bounds site s e (in_list h) refl fan in_sites (is ∙ ap (λ (l : List ℕ). get_or l site 0) a.on.table_is) wide q (is_empty_lem _ t)))
        left r q false t = inl t

        by : (o : Outcome Fault CellState) → clip_into f.bounds nc site (ring_from he e) s ≡ o → Gives Made o
        by (ok r) q = left r q (is_empty (get_or r.cells site [])) refl
        by (refused x) q = tt

    tried_settled : due_of tri he table e ≡ true → (o : Outcome Fault CellState) → Gives (OthersStay site s) o → Gives Kept o
        → (pair_of he entry ≢ EMPTY → e ≡ entry → Gives Made o) → Gives (SettledBefore (plan tri he hull table f off) g m (e + 1)) o
    tried_settled d (ok r) others same new = record {
      inner = λ k lk n m.
          ⊎_elim
          (λ z. let n' : pair_of he entry ≢ EMPTY = rw z at n in rw z (new n' (omega (arith, due_inner d n', rw z at m))))
          (λ z. ⊎_elim (λ x. inl (rw (others k z) x)) (λ x. inr x) (b.inner k lk n (omega (arith, other_entry k e lk h z))))
          (eq_or_ne k site);
      hulls = record {
        marked = λ k lk u y.
            let x = b.hulls.marked k lk u y in
            ⊎_elim
            (λ z. rw (same (rw z at x)) x)
            (λ z. rw (others (end_of tri k) z) x)
            (eq_or_ne (end_of tri k) site);
        idle = λ k lk u.
            ⊎_elim
            (λ x. ⊎_elim (λ z. inl (rw (same (rw z at x)) x)) (λ z. inl (rw (others (end_of tri k) z) x)) (eq_or_ne (end_of tri k) site))
            (λ x. inr x)
            (b.hulls.idle k lk u);
      };
    }
    tried_settled d (refused x) others same new = tt

    pub turn_tried : Fanned (plan tri he hull table f off) g → due_of tri he table e ≡ true → SettledAfter (plan tri he hull table f off) g m e s
    turn_tried fan d = tried_settled d try stay kept (made fan)
