-- One edge of the ring: what the store left, then the entries after it.
use Rattle.std.specs.Prelude.{ℕ, ◌+◌, ◌*◌, ◌≤◌, ◌<◌, ◌^◌, ◌≡◌, refl, Bool, true, false, List, [], ◌++◌, eqb, Float, length, take, drop}
use Rattle.std.proofs.Common.{sym, ap, ◌∙◌, subst, arith, eq-eqb}
use Rattle.std.proofs.lemmas.Bool.{false≢true}
use Rattle.std.specs.Float.{nan}
use Rattle.std.proofs.lemmas.List.{length-map}
use Rattle.base.specs.common.laws.Stores.{take_sets, drop_sets}
use Rattle.plane.specs.declared.points.Point.{Point}
use Rattle.plane.specs.points.Flat.{points}
use Rattle.plane.specs.points.Plane.{at}
use Rattle.plane.specs.sides.Sides.{which_of}
use Rattle.plane.specs.declared.boxes.BoundingBox.{BoundingBox}
use Rattle.vertices.specs.Add.{Added}
use Rattle.vertices.specs.Store.{Holds, Leaves}
use Rattle.vertices.specs.laws.Store.{poured_points, poured_none, kept_vertex}
use Rattle.definition.specs.Fault.{Outcome, ok, refused}
use Rattle.definition.specs.Cell.{Entry, Taken, Ins, last_or, insert_edge, Change, EdgeClip, missed, once, twice, unmarked}
use Rattle.definition.specs.declared.Reused.{Reused}
use Rattle.definition.specs.Reused.{reused, CountsReused}
use Rattle.definition.specs.Sides.{Sided, SidedCorners}
use Rattle.build_laws.specs.laws.SidedEdge.{ClipSided}
use Rattle.clipping.specs.corners.CellEntries.{EntryRoom, EntriesPut, places}
use Rattle.definition.specs.Short.{link, change, took_one, took_two}
use Rattle.clipping.specs.edges.EdgeClip.{ClipsEdge, VerticesGrown}
use Rattle.clipping.specs.EdgeOutcome.{EdgeRoom, Alters, Did, Changes}
use Rattle.clipping.specs.declared.edges.Env.{Env}
use Rattle.clipping.specs.declared.corners.CellSoFar.{CellSoFar}
use Rattle.clipping.specs.declared.Changed.{Changed}
use Rattle.clipping.specs.declared.edges.Crossed.{Crossed}
use Rattle.clipping.specs.declared.edges.Crossed.TheVariants.{Missed, Once, Twice}
use Rattle.clipping.specs.corners.laws.CellEntries.{puts_then, puts_more, puts_none}

-- ---- entries before the store's part of the list

module _ {s m : ℕ} {i : Ins} {a b : CellSoFar} {l l₁ : List ℕ} (k : ℕ) (p : EntriesPut s m i a l b l₁) (f : EntryRoom s m a k) where
  puts_within : a.end + length (unmarked i.new) ≤ k
  puts_within =
      let h = p.place in
      let g = p.fit in
      let r = f.room in
      omega (arith, length-map i.new (λ (e : Entry). e.at))

  pub puts_below : EntriesPut s m i a (take k l) b (take k l₁)
  puts_below =
      record {
        slice = ap (take k) p.slice ∙ take_sets k (unmarked i.new) l a.end;
        owners = p.owners;
        place = p.place;
        last = p.last;
        four = p.four;
        fit = p.fit;
      }

  pub puts_tail : drop k l₁ ≡ drop k l
  puts_tail = ap (drop k) p.slice ∙ drop_sets k (unmarked i.new) l a.end puts_within

pub did :
    (env : Env) {vs : List Point} {i : Ins} {cell cell₁ : CellSoFar} {v v₁ : List Float} {ix ix₁ ix₂ : List ℕ} {n : ℕ}
    → Leaves env.centers env.limit vs v ix n v₁ ix₁
    → EntriesPut env.site 3 i cell ix₁ cell₁ ix₂
    → EntryRoom env.site 3 cell env.limit
    → Did env 3 vs i cell v ix n cell₁ v₁ ix₂
did env l p f =
    record {
      verts = l.verts;
      holds = rw (puts_tail env.limit p f) l.holds;
      puts = rw l.body at (puts_below env.limit p f);
    }

pub changes :
    (env : Env) (count : ℕ) (r : Changed) (ix₂ : List ℕ) (o : Outcome ℕ Change) {vs : List Point} {cell : CellSoFar} {v v₁ : List Float} {ix ix₁ : List ℕ} {n : ℕ}
    → EntryRoom env.site 3 cell env.limit
    → Leaves env.centers env.limit vs v ix n v₁ ix₁
    → VerticesGrown 2 count n v v₁
    → Alters env.site vs o n cell ix₁ r ix₂
    → Changes env count o cell v ix r v₁ ix₂
changes env count r ix₂ (ok d) f l g a = rw (a.1, a.3) (a.0, a.2, a.4, g, did env l a.5 f, a.6)
changes env count r ix₂ (refused k) f l g a = a

pub leaves_none : {nc limit count : ℕ} {v : List Float} {ix : List ℕ} → Holds nc count v (drop limit ix) → Leaves nc limit (points count v) v ix count v ix
leaves_none {nc} {limit} {count} {v} h = record { verts = poured_none count v h.room; body = refl; holds = h }

pub grown_none : (most n : ℕ) (v : List Float) → VerticesGrown most n n v v
grown_none most n v = record { low = omega arith; high = omega arith; kept = refl }

fits_up : {s m : ℕ} {a : CellSoFar} {k : ℕ} (n : ℕ) → EntryRoom s m a k → k ≤ n → EntryRoom s m a n
fits_up n f h =
    let r = f.room in
    record { four = f.four; real = f.real; room = omega arith }

-- ---- an edge by its crossings: `does` says what the definition makes of them

module _ (env : Env) (count : ℕ) (cell : CellSoFar) (v : List Float) (ix : List ℕ) (r : Changed) (k : EdgeClip) (g : Crossed) (v₁ : List Float) (ix₁ : List ℕ)
    (fits : EntryRoom env.site 3 cell env.limit) (does : EdgeClip → Outcome ℕ Change) (c : ClipsEdge env.centers env.limit count k v ix g v₁ ix₁) where
  -- none: nothing was added
  pub by_missed : g ≡ Missed → Changes env count (does missed) cell v ix r v ix → Changes env count (does k) cell v ix r v₁ ix₁
  by_missed q h = go k (rw q at c)
    where
      go : (k : EdgeClip) → ClipsEdge env.centers env.limit count k v ix Missed v₁ ix₁ → Changes env count (does k) cell v ix r v₁ ix₁
      go missed d = rw (d.0, d.1) h
      go (once a) d = absurd d
      go (twice a t) d = absurd d

  pub by_once :
      {f n : ℕ} {u : Reused} (ix₂ : List ℕ)
      → g ≡ Once f n u
      → ((a : Added) → f ≡ a.at → points n v₁ ≡ a.verts → CountsReused 2 (took_one a) u → Alters env.site a.verts (does (once a)) n cell ix₁ r ix₂)
      → Changes env count (does k) cell v ix r v₁ ix₂
  by_once {f} {n} {u} ix₂ q h = go k (rw q at c)
    where
      go : (k : EdgeClip) → ClipsEdge env.centers env.limit count k v ix (Once f n u) v₁ ix₁ → Changes env count (does k) cell v ix r v₁ ix₂
      go missed d = absurd d
      go (once a) d = changes env count r ix₂ (does (once a)) fits d.3 d.2 (h a d.0 (poured_points d.3.verts) d.4)
      go (twice a t) d = absurd d

  pub by_twice :
      {f s n : ℕ} {u : Reused} (ix₂ : List ℕ)
      → g ≡ Twice f s n u
      → ((a t : Added) → f ≡ a.at → s ≡ t.at → points n v₁ ≡ t.verts → CountsReused 2 (took_two a t) u → Alters env.site t.verts (does (twice a t)) n cell ix₁ r ix₂)
      → Changes env count (does k) cell v ix r v₁ ix₂
  by_twice {f} {s} {n} {u} ix₂ q h = go k (rw q at c)
    where
      go : (k : EdgeClip) → ClipsEdge env.centers env.limit count k v ix (Twice f s n u) v₁ ix₁ → Changes env count (does k) cell v ix r v₁ ix₂
      go missed d = absurd d
      go (once a) d = absurd d
      go (twice a t) d = changes env count r ix₂ (does (twice a t)) fits d.5 d.4 (h a t d.0 d.1 (poured_points d.5.verts) d.6)

-- no point taken again
pub none_counted : CountsReused 2 [] (reused 0 0 0)
none_counted = record { is = refl; few = omega arith }

-- no crossing and nothing to do
pub changes_none :
    (env : Env) (count : ℕ) (cell : CellSoFar) (v : List Float) (ix : List ℕ) (opened : Bool)
    → EdgeRoom env count cell v ix
    → (opened ≡ true → cell.last < count)
    → Changes env count (ok (change (points count v) cell.owners [] opened [])) cell v ix (record { refusal = 0; count = count; opened = opened; cell = cell; reused = reused 0 0 0 }) v ix
changes_none env count cell v ix opened m low =
    (refl, refl, low, grown_none 2 count v, did env (leaves_none m.holds) (puts_more 3 (omega arith) (puts_none env.site cell ix m.fits.four)) m.fits, none_counted)

-- ---- sides: a vertex that is kept is on its side as before, and so are the corners

pub sided_still : (b : BoundingBox) (v v₁ : List Float) (n m i : ℕ) → take (2 * n) v₁ ≡ take (2 * n) v → n ≤ m → i < n → Sided b (points n v) i → Sided b (points m v₁) i
sided_still b v v₁ n m i e h k s = subst (λ (p : Point). which_of b p < 4) (sym (kept_vertex v v₁ n m i (at nan nan) e h k)) s

pub corners_still :
    (b : BoundingBox) (nc : ℕ) (v v₁ : List Float) (n m : ℕ)
    → take (2 * n) v₁ ≡ take (2 * n) v
    → n ≤ m
    → nc + 4 ≤ n
    → SidedCorners b nc (points n v)
    → SidedCorners b nc (points m v₁)
corners_still b nc v v₁ n m e h k s = record { box = s.box; corner = λ c l. sided_still b v v₁ n m (nc + c) e h (omega arith) (s.corner c l) }

-- n vertices after the crossings, of which f is one, on a side: room for the entries, as a caller needs it
pub record CrossedRoom (env : Env) (count : ℕ) (cell : CellSoFar) (v : List Float) (n f : ℕ) (v₁ : List Float) (ix₁ : List ℕ) : Type 0 where
  pub fits : EntryRoom env.site 3 cell (length ix₁)
  pub room : 2 * n ≤ length v₁
  pub first : f < n
  pub more : count ≤ n
  pub corners : env.centers + 4 ≤ n
  pub small : n ≤ 2 ^ 32
  pub sided : Sided env.bounds (points n v₁) f
  -- a last entry that was on a side is
  pub last : cell.last < count → Sided env.bounds (points count v) cell.last → Sided env.bounds (points n v₁) cell.last

-- the crossings are on the sides
module _ (env : Env) (count : ℕ) (cell : CellSoFar) (v : List Float) (ix : List ℕ) (k : EdgeClip) (g : Crossed) (v₁ : List Float) (ix₁ : List ℕ)
    (m : EdgeRoom env count cell v ix) (on_sides : ClipSided env.bounds env.centers env.site k) (c : ClipsEdge env.centers env.limit count k v ix g v₁ ix₁)
    (same : length ix₁ ≡ length ix) where
  abbrev OnSides : EdgeClip → Type 0
  OnSides = ClipSided env.bounds env.centers env.site

  room_for : (n first : ℕ) → first < n → VerticesGrown 2 count n v v₁ → Holds env.centers n v₁ (drop env.limit ix₁) → Sided env.bounds (points n v₁) first
      → CrossedRoom env count cell v n first v₁ ix₁
  room_for n first l w h s = record {
    fits = fits_up (length ix₁) m.fits (omega (arith, m.list, same));
    room = h.room;
    first = l;
    more = w.low;
    corners = omega (arith, m.corners, w.low);
    small = omega (arith, m.small, w.high);
    sided = s;
    last = λ b o. sided_still env.bounds v v₁ count n cell.last w.kept w.low b o;
  }

  -- where the store says so, as the definition does
  stored : (n f : ℕ) (r : ℕ) (ws : List Point) → points n v₁ ≡ ws → f ≡ r → Sided env.bounds ws r → Sided env.bounds (points n v₁) f
  stored n f r ws e i s = rw (e, i) s

  pub room_once : {f n : ℕ} {u : Reused} → g ≡ Once f n u → CrossedRoom env count cell v n f v₁ ix₁
  room_once {f} {n} {u} is = go k (rw is at c) on_sides
    where
      go : (k : EdgeClip) → ClipsEdge env.centers env.limit count k v ix (Once f n u) v₁ ix₁ → OnSides k → CrossedRoom env count cell v n f v₁ ix₁
      go missed d s = absurd d
      go (once a) d s = room_for n f d.1 d.2 d.3.holds (stored n f a.at a.verts (poured_points d.3.verts) d.0 s)
      go (twice a t) d s = absurd d

  pub room_twice : {f s n : ℕ} {u : Reused} → g ≡ Twice f s n u → CrossedRoom env count cell v n f v₁ ix₁ × (s < n) × Sided env.bounds (points n v₁) s
  room_twice {f} {s} {n} {u} is = go k (rw is at c) on_sides
    where
      go : (k : EdgeClip) → ClipsEdge env.centers env.limit count k v ix (Twice f s n u) v₁ ix₁ → OnSides k
          → CrossedRoom env count cell v n f v₁ ix₁ × (s < n) × Sided env.bounds (points n v₁) s
      go missed d o = absurd d
      go (once a) d o = absurd d
      go (twice a t) d o =
          let e = poured_points d.5.verts in
          (room_for n f d.2 d.4 d.5.holds (stored n f a.at t.verts e d.0 o.0), d.3, stored n s t.at t.verts e d.1 o.1)

-- ---- edges along the box, as outcomes of a step

few : (t : Bool) → 1 + places t ≤ 3
few true = omega arith
few false = omega arith

module _ (site count : ℕ) (vs : List Point) (cell : CellSoFar) (ix : List ℕ) (led : CellSoFar) (ix₁ : List ℕ) where
  pub alters_enter :
      (ts : List Taken) (u : Reused) (x : Ins)
      → CountsReused 2 ts u
      → EntriesPut site 1 x cell ix led ix₁
      → Alters site vs (ok (change vs x.owners x.new false ts)) count cell ix (record { refusal = 0; count = count; opened = false; cell = led; reused = u }) ix₁
  alters_enter ts u x w h = (refl, refl, refl, refl, λ e. absurd (false≢true e), puts_more 3 (omega arith) h, w)

  module _ (b : BoundingBox) (nc first second : ℕ) (opened t : Bool) (ts : List Taken) (u : Reused) (w : CountsReused 2 ts u) (done : CellSoFar) (ix₂ : List ℕ) where
    pub alters_cross :
        (x : Ins)
        → EntriesPut site 1 x cell ix led ix₁
        → EntriesPut site (places t) (insert_edge b nc site vs led.owners led.last first second) led ix₁ done ix₂
        → done.last < count
        → Alters site vs
        (ok (change vs (insert_edge b nc site vs x.owners (last_or cell.last x.new) first second).owners
        (x.new ++ (insert_edge b nc site vs x.owners (last_or cell.last x.new) first second).new) opened ts))
        count cell ix (record { refusal = 0; count = count; opened = opened; cell = done; reused = u }) ix₂
    alters_cross x h g low = (
      refl,
      refl,
      refl,
      refl,
      λ e. low,
      puts_more 3 (few t) (puts_then h
          (subst (λ (n : ℕ). EntriesPut site (places t) (insert_edge b nc site vs x.owners n first second) led ix₁ done ix₂) h.last
          (subst (λ (os : List ℕ). EntriesPut site (places t) (insert_edge b nc site vs os led.last first second) led ix₁ done ix₂) h.owners g))),
      w,
    )

-- a cell that is not open needs no leading edge
module _ (b : BoundingBox) (nc site : ℕ) (vs : List Point) (cell : CellSoFar) (ix : List ℕ) (first : ℕ) where
  pub link_opened :
      (opened : Bool) (led : CellSoFar) (ix₁ : List ℕ)
      → opened ≡ true
      → EntriesPut site (places (eqb cell.last cell.last)) (insert_edge b nc site vs cell.owners cell.last cell.last first) cell ix led ix₁
      → EntriesPut site 1 (link b nc site vs cell.owners opened cell.last first) cell ix led ix₁
  link_opened opened led ix₁ e h = rw e (rw (eq-eqb cell.last cell.last refl) at h)

  pub link_closed :
      (opened : Bool)
      → opened ≡ false
      → length cell.owners ≡ 4
      → EntriesPut site 1 (link b nc site vs cell.owners opened cell.last first) cell ix cell ix
  link_closed opened e f = rw e (puts_more 1 (omega arith) (puts_none site cell ix f))
