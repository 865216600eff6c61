-- The loop that puts all cells in their places: what stands ahead of it is as it was.
use Rattle.std.specs.Prelude.{◌≡◌, refl, Bool, true, false, List, [], ◌++◌, ◌≢◌, ℕ, ◌+◌, ◌-◌, ◌≤◌, ◌<◌, length, get_or, set, take, drop}
use Rattle.std.proofs.Common.{ap, ◌∙◌, add-one, arith}
use Rattle.base.specs.common.Count.{occ}
use Rattle.mesh.specs.Mesh.{whole_of, total_to}
use Rattle.build_laws.specs.laws.Runs.{true_false}
use Rattle.cell_memory.specs.layout.Regions.{Region, Filled}
use Rattle.cell_memory.specs.layout.laws.Compacted.{Compacting, Moved, to_is, region_within, region_end, region_moved, region_ahead, moved_step}
use Rattle.cell_memory.specs.staging.Staging.{Staged}
use Rattle.cell_builder.specs.placed.Placed.{BackCell, WalkedRound, WalkedCell, CellReady, CellOf, Placeable, CellsReady}
use Rattle.cell_builder.specs.placed.laws.BothEnds.{walked_length}

-- ---- one cell

-- what is walked ends where its region has room
pub back_fits : {he : List ℕ} {t n : ℕ} {c : List ℕ} {at : ℕ} {old new : List ℕ} {end : ℕ} → BackCell he t n c → Staged c at old new end → (at ≤ end) × (end ≤ at + n)
back_fits {t = t} b s = (omega (arith, s.ended), omega (arith, s.ended, ap length b.is, walked_length t b.along, b.short))

-- the same of an equal cell
abbrev pub back_as : {he : List ℕ} {t n : ℕ} {c : List ℕ} (d : List ℕ) → d ≡ c → BackCell he t n c → BackCell he t n d
back_as d q b = record { along = b.along; backs = b.backs; some = b.some; short = b.short; is = q ∙ b.is }

-- the same, as it is handed on
abbrev pub back_at : (he : List ℕ) (t u at n : ℕ) (c : List ℕ) → t ≡ u → BackCell he u n c → BackCell he t (at + n - at) c
back_at he t u at n c q b = record { along = b.along; backs = rw q b.backs; some = b.some; short = omega (arith, b.short); is = rw q b.is }

pub full_at : (at n k : ℕ) → n ≤ k → at + n - at ≤ k
full_at at n k h = omega arith

-- ---- what is walked

module _ {he : List ℕ} {t at end : ℕ} {c old new : List ℕ} (le : at ≤ end) (b : BackCell he t (end - at) c) where
  pub crowd_walked : (last : ℕ) → Staged c at old new last → WalkedCell at end old new c (length b.along) true last (last - at)
  crowd_walked last s =
      let f = back_fits b s in
      let long : length c ≡ length b.along = ap length b.is ∙ walked_length t b.along in
      record { low = f.0; high = omega (arith, f.1); counts = omega (arith, s.ended); written = λ _. s }

  pub round_walked : (r : Bool) → r ≡ true → WalkedRound at end old new c (length b.along) r → WalkedCell at end old new c (length b.along) false end (end - at)
  round_walked true q w = record { low = le; high = omega arith; counts = w.says; written = λ full. w.written (full refl) }
  round_walked false q w = absurd (true_false q refl)

  pub broken_walked : (r : Bool) → WalkedRound at end old new c (length b.along) r → WalkedCell at end old new c (length b.along) false end 0
  broken_walked r w = record { low = le; high = omega arith; counts = omega arith; written = λ full. w.written (full refl) }

-- what is moved down
pub late_placed : {he table m ix : List ℕ} {at from to s end : ℕ} → CellReady he table m ix at from to s → Filled ix from to end → (new : List ℕ)
    → new ≡ take at ix ++ take (end - from) (drop from ix) ++ drop (at + (end - from)) ix → (c : List ℕ) → Region ix from to c → Staged c at ix new (at + (end - from))
late_placed {ix = ix} {at = at} {from = from} {to = to} {end = end} r f new q c k = record {
  ended = omega (arith, region_end ix from to end c k f);
  written = region_moved ix from to end c k f r.within at r.low new q;
}

-- ---- the loop

-- steps counted at s more than were counted before it
pub steps_more : (he table : List ℕ) (s steps x : ℕ) → steps ≤ total_to he table s → x ≤ length (whole_of he (get_or table s 0)) → steps + x ≤ total_to he table (s + 1)
unfolding total_to
steps_more he table s steps x p q = rw add-one (omega arith)

pub steps_all : (he table : List ℕ) (s n steps : ℕ) → s ≡ n → steps ≤ total_to he table s → steps ≤ total_to he table n
steps_all he table s n steps q h = rw (← q) h

module _ (he table m ix₀ off₀ ix off : List ℕ) (n w from s to : ℕ) (g : Compacting ix₀ off₀ ix off n w from s) (h : s < n)
    (p : Placeable he table m ix₀ off₀ n) (t : to ≡ get_or off (s + 1) 0) where
  next : to ≡ get_or off₀ (s + 1) 0
  next = to_is ix₀ off₀ ix off n w from s to g h p.rising t

  pub cell_ready : CellReady he table m ix w from to s
  cell_ready =
      let r = region_within ix₀ off₀ ix off n w from s to g h p.rising t in
      record {
        site = omega (arith, p.sites);
        threes = p.threes;
        few = p.few;
        pairs = p.pairs;
        low = g.low;
        rise = r.0;
        within = r.1;
        walk = rw (g.place, next) (p.walks s h);
      }

  pub cell_placed : (e : ℕ) (new : List ℕ) → e ≤ w + (to - from) → (crowd : ℕ) → ((c : List ℕ) → CellOf he table m ix from to s crowd c → Staged c w ix new e)
      → (owners : List ℕ) → ((k : ℕ) → k ≢ crowd → occ k owners ≤ 2)
      → (cells : List (List ℕ)) → length cells ≡ n → CellsReady he table m ix₀ off₀ owners cells → Moved ix₀ off₀ ix off cells w from s → Moved ix₀ off₀ new (set off s w) cells e to (s + 1)
  cell_placed e new hi crowd place owners few cells all there moved =
      let c = get_or cells s [] in
      let k : CellOf he table m ix₀ from to s crowd c = rw (g.place, next) (there crowd few s (omega (arith, all))) in
      let st = place c (record { late = λ x. region_ahead ix₀ ix from to c moved.ahead (k.late x); early = k.early; full = k.full }) in
      moved_step ix₀ off₀ ix off n w from s to g h p.rising t cells all moved e new (omega (arith, st.ended)) st.ended st.written
