-- The search: what is left out is nearer to no corner, and where every place is passed no corner is nearer to any site.
use Rattle.std.specs.Prelude.{◌≡◌, refl, Bool, false, ◌⊎◌, ℕ, ◌+◌, ◌-◌, ◌*◌, ◌/◌, ◌%◌, ◌≤◌, ◌<◌, ltb, Float, length, get_or, set}
use Rattle.std.proofs.Math.Path.{sym, ap}
use Rattle.std.proofs.Common.{◌∙◌, subst, inl, inr, le_trans, le_of_eq, le_of_lt, lt_of_lt_of_le, mul-le-mul_right, div-add-mod', lit≤, get_or-set_same}
use Rattle.std.proofs.Math.Bool.{true}
use mathlib.Core.List.{List, []}
use Rattle.std.proofs.Math.Logic.{⊎_elim}
use Prim.{tt}
use native.Mathlib.Omega.{arith}
use borrow.Author.Tests.{ltb-true}
use Rattle.std.specs.Float.Ieee.Nearest.{div_mono}
use borrow.Author.Rules.{read_below}
use Rattle.base.specs.common.laws.Decide.{lt_or_ge}
use Rattle.ring_area.specs.lowest.Lowest.{lowest, any_below}
use Rattle.ring_area.specs.lowest.laws.Loops.{no_both, passed_end, lowest_takes, none_below, some_below, none_taken}
use Rattle.plane.specs.points.Finite.{point_weaken, site_bounded}
use Rattle.plane.specs.points.Flat.{point_at}
use Rattle.plane.specs.points.Rules.{ok_site}
use Rattle.plane.specs.declared.points.Point.{Point}
use Rattle.walks.specs.shared.Cells.{cell_of}
use Rattle.areas.specs.laws.Entries.{cell_corners}
use Rattle.areas.specs.Steps.{RingsKept}
use Rattle.auditing.specs.nearer.Nearer.{beyond, no_lists, other_at, held_count, beyond_at, nearer_at, corner_nearer, cell_nearer, site_nearer}
use Rattle.auditing.specs.nearer.Steps.{PiecesKept}
use Rattle.auditing.specs.nearer.laws.Pieces.{site_is}
use Rattle.audit_truth.specs.Held.{HeldPoint, AllHeld}
use Rattle.certifying.specs.declared.windows.Window.{Window}
use Rattle.certifying.specs.tree.Steps.{SitesHeld, Order, NodeNamed, node_off, OffFrom, LevelSafe, RingSafe, FoundPast, PassedFrom, ListedAt, Sifted, ListedAsked, PiecesHeld, TreeSafe}
use Rattle.certifying.specs.tree.Tree.{corner_past}
use Rattle.certifying.specs.windows.Windows.{NotMinus, EdgesHeld, OffWindow, off_of}
use Rattle.certifying.specs.windows.laws.LeftOut.{at_most_self, left_out, off_window}

-- ---- blocks that are left out
module _ {sites : List Float} {room : List ℕ} {w base : ℕ} {c : Window} (s : LevelSafe sites room w base c) (j : ℕ) (J : j < length sites / 2) where
  starts : j % w ≡ 0 → j / w * w ≡ j
  starts e = go (j / w * w) (j % w) (div-add-mod' j w) e
    where
      go : (a b : ℕ) → a + b ≡ j → b ≡ 0 → a ≡ j
      go a b h e = omega arith

  block_there : j % w ≡ 0 → j / w * w < length sites / 2
  block_there e = subst (λ (k : ℕ). k < length sites / 2) (sym (starts e)) J

  pub block_named : j % w ≡ 0 → NodeNamed sites room (base + 4 * (j / w))
  block_named e = (s.level.nodes (j / w) (block_there e)).named

  pub block_fits : base + 4 * (j / w) + 3 < length room
  block_fits = go (j / w) (length sites / 2 / w) (div_mono j w (length sites / 2) w s.level.some s.level.some (mul-le-mul_right w (le_of_lt J))) s.level.fits
    where
      go : (i q : ℕ) → i ≤ q → base + 4 * (q + 1) ≤ length room → base + 4 * i + 3 < length room
      go i q a b = omega arith

  pub block_out : j % w ≡ 0 → node_off sites room c (base + 4 * (j / w)) ≡ true → OffFrom sites room c j (j + w)
  block_out e t i a b h =
      let n = s.level.nodes (j / w) (block_there e) in
      let k = n.each i (le_trans (le_of_eq (starts e)) a) (lt_of_lt_of_le b (le_of_eq (ap (λ (q : ℕ). q + w) (sym (starts e))))) h in
      off_window c s.edges _ _ _ _ (s.held.each _ n.named.left).x (s.held.each _ n.named.top).y (s.held.each _ n.named.right).x (s.held.each _ n.named.bottom).y
      (point_at sites (get_or room i 0)) k.left k.top k.right k.bottom t

-- one site
pub site_out : {sites : List Float} {room : List ℕ} {c : Window} → SitesHeld sites → Order (length sites / 2) room → EdgesHeld c → (j : ℕ) → j < length sites / 2 → {w : ℕ} {o : Point}
    → w ≡ get_or room j 0 → o ≡ point_at sites w → {t : Bool} → t ≡ off_of c o.x o.y o.x o.y → t ≡ true → OffFrom sites room c j (j + 1)
site_out {sites} {room} {c} held order h j J {w} {o} e f g t i a b k =
    let p = point_at sites (get_or room i 0) in
    let is : o ≡ p = f ∙ ap (point_at sites) (e ∙ ap (λ (q : ℕ). get_or room q 0) (only i a b)) in
    let hp : HeldPoint p = held.each (get_or room i 0) (order.named i k) in
    off_window c h p.x p.y p.x p.y hp.x hp.y hp.x hp.y p (at_most_self p.x) (at_most_self p.y) (at_most_self p.x) (at_most_self p.y)
    (subst (λ (q : Point). off_of c q.x q.y q.x q.y ≡ true) is (sym g ∙ t))
  where
    only : (i : ℕ) → j ≤ i → i < j + 1 → j ≡ i
    only i a b = omega arith

-- ---- one step
module _ {far : Float} {sites : List Float} {room : List ℕ} {w : Window} {q : Point} {v : List Float} {cell : List ℕ} (s : RingSafe far sites room w q v cell) (j : ℕ)
    (J : j < length sites / 2) where
  pub passed_out : {r : ℕ} → OffFrom sites room w j (j + r) → 0 < r → r ≤ 4096 → PassedFrom far sites room q v cell j r
  unfolding corner_past
  passed_out {r} a p m = record {
    none = λ i x y z k h. left_out w s.keeps.edges q (point_at v (get_or cell k 0)) s.own (s.corners.each k h) (point_at sites (get_or room i 0))
        (s.held.each _ (s.tree.order.named i z)) far s.plus (s.keeps.each k h) (a i x y z);
    stop = λ e. absurd (no r p e);
    most = m;
  }
    where
      no : (r : ℕ) → 0 < r → r ≡ 0 → ⊥
      no r p e = omega arith

  pub passed_stop : {t : Bool} {list : List ℕ} {count : ℕ} → ListedAsked far sites room q v cell list count t → t ≡ true → PassedFrom far sites room q v cell j 0
  passed_stop a h = record { none = λ i x y z k l. absurd (omega arith); stop = λ _. a.found h; most = omega arith }

  pub passed_block : {to count : ℕ} {list : List ℕ} {t : Bool} → j < to → to ≤ j + 16 → Sifted sites room w j to count list → ListedAsked far sites room q v cell list count t → t ≡ false
      → PassedFrom far sites room q v cell j (to - j)
  unfolding corner_past
  passed_block {to} {count} {list} p m a b e = record {
    none = λ i x y z k h. ⊎_elim
        (λ o. left_out w s.keeps.edges q (point_at v (get_or cell k 0)) s.own (s.corners.each k h) (point_at sites (get_or room i 0))
        (s.held.each _ (s.tree.order.named i z)) far s.plus (s.keeps.each k h) o)
        (λ l. none_taken (corner_past far q (point_at sites (get_or room i 0)) v cell) (length cell)
        (subst (λ (n : ℕ). any_below (corner_past far q (point_at sites (get_or room n 0)) v cell) (length cell) ≡ false) l.is (b.none e l.at l.below)) k h)
        (a.each i x (within i y));
    stop = λ z. absurd (no z);
    most = omega arith;
  }
    where
      within : (i : ℕ) → i < j + (to - j) → i < to
      within i y = omega arith

      no : to - j ≡ 0 → ⊥
      no z = omega arith

-- ---- the places of a block
module _ {sites : List Float} {room : List ℕ} {w : Window} {from : ℕ} where
  pub sift_none : (list : List ℕ) → Sifted sites room w from from 0 list
  sift_none list = record { few = omega arith; named = λ k h. absurd (omega arith); each = λ i a b. absurd (omega arith) }

  module _ (c : ℕ) {j count : ℕ} {list : List ℕ} (a : Sifted sites room w from j count list) (h : count < length list) (J : j < length sites / 2) where
    carried : (i : ℕ) → OffWindow w (point_at sites (get_or room i 0)) ⊎ ListedAt list count i → OffWindow w (point_at sites (get_or room i 0)) ⊎ ListedAt (set list count j) (count + c) i
    carried i = ⊎_elim inl (λ l. inr (record { at = l.at; below = omega (arith, l.below); is = read_below ℕ list count l.at j 0 i l.below l.is }))

    before_named : (k : ℕ) → k < count → get_or (set list count j) k 0 < j + 1
    before_named k l = subst (λ (n : ℕ). n < j + 1) (sym (read_below ℕ list count k j 0 _ l refl)) (omega (arith, a.named k l))

    sift_out : OffFrom sites room w j (j + 1) → c ≡ 0 → Sifted sites room w from (j + 1) (count + c) (set list count j)
    sift_out g e = record {
      few = omega (arith, a.few);
      named = λ k l. before_named k (omega arith);
      each = λ i x y. ⊎_elim (λ b. carried i (a.each i x b)) (λ b. inl (g i b y (omega arith))) (lt_or_ge i j);
    }

    sift_in : c ≡ 1 → Sifted sites room w from (j + 1) (count + c) (set list count j)
    sift_in e = record {
      few = omega (arith, a.few);
      named = λ k l. ⊎_elim (before_named k) (λ b. subst (λ (n : ℕ). n < j + 1) (sym (last k l b)) (omega arith)) (lt_or_ge k count);
      each = λ i x y. ⊎_elim (λ b. carried i (a.each i x b))
          (λ b. inr (record { at = count; below = omega arith; is = get_or-set_same list count j 0 h ∙ same i b y })) (lt_or_ge i j);
    }
      where
        same : (i : ℕ) → j ≤ i → i < j + 1 → j ≡ i
        same i b y = omega arith

        own : (k : ℕ) → k < count + c → count ≤ k → k ≡ count
        own k l b = omega arith

        last : (k : ℕ) → k < count + c → count ≤ k → get_or (set list count j) k 0 ≡ j
        last k l b = ap (λ (n : ℕ). get_or (set list count j) n 0) (own k l b) ∙ get_or-set_same list count j 0 h

    pub sift_more : {t : Bool} {x : ℕ} → x ≡ j → (t ≡ true → OffFrom sites room w j (j + 1)) → (t ≡ true → c ≡ 0) → (t ≡ false → c ≡ 1)
        → Sifted sites room w from (j + 1) (count + c) (set list count x)
    sift_more {t = true} x g e f = subst (λ (y : ℕ). Sifted sites room w from (j + 1) (count + c) (set list count y)) (sym x) (sift_out (g refl) (e refl))
    sift_more {t = false} x g e f = subst (λ (y : ℕ). Sifted sites room w from (j + 1) (count + c) (set list count y)) (sym x) (sift_in (f refl))

-- the loop's end
pub sift_to : {sites : List Float} {room : List ℕ} {w : Window} {from j to count : ℕ} {list : List ℕ} → Sifted sites room w from j count list → j ≤ to → to ≤ j → Sifted sites room w from to count list
sift_to {sites} {room} {w} {from} {j} {to} {count} {list} a h g = subst (λ (n : ℕ). Sifted sites room w from n count list) (same h g) a
  where
    same : j ≤ to → to ≤ j → j ≡ to
    same h g = omega arith

-- ---- the listed places
module _ (far : Float) (sites : List Float) (room : List ℕ) (s : Point) (v : List Float) (cell list : List ℕ) where
  abbrev pub listed_past : ℕ → Bool
  listed_past k = any_below (corner_past far s (point_at sites (get_or room (get_or list k 0) 0)) v cell) (length cell)

  pub listed_is : (k : ℕ) {m n : ℕ} {o : Point} {t : Bool} → m ≡ get_or list k 0 → n ≡ get_or room m 0 → o ≡ point_at sites n → t ≡ any_below (corner_past far s o v cell) (length cell) → t ≡ listed_past k
  listed_is k e f g h = h ∙ ap (λ (p : Point). any_below (corner_past far s p v cell) (length cell)) (g ∙ ap (point_at sites) (f ∙ ap (λ (m : ℕ). get_or room m 0) e))

  abbrev pub AskedTo : ℕ → Type 0
  AskedTo k = (i : ℕ) → i < k → listed_past i ≡ false

  pub asked_more : (k : ℕ) {t : Bool} → AskedTo k → t ≡ listed_past k → t ≡ false → AskedTo (k + 1)
  asked_more k a e f i h = ⊎_elim (a i) (λ b. subst (λ (n : ℕ). listed_past n ≡ false) (last i h b) (sym e ∙ f)) (lt_or_ge i k)
    where
      last : (i : ℕ) → i < k + 1 → k ≤ i → k ≡ i
      last i h b = omega arith

  pub asked_found : (k count : ℕ) {t : Bool} → get_or list k 0 < length sites / 2 → t ≡ listed_past k → t ≡ true → ListedAsked far sites room s v cell list count true
  asked_found k count h e f = record { found = λ _. record { place = get_or list k 0; within = h; past = sym e ∙ f }; none = λ z. absurd (no_both z) }

  pub asked_all : (k count : ℕ) → AskedTo k → count ≤ k → ListedAsked far sites room s v cell list count false
  asked_all k count a h = record { found = λ z. absurd (no_both (sym z)); none = λ _ i l. a i (omega arith) }

-- ---- all places
abbrev pub NonePast : Float → List Float → List ℕ → Point → List Float → List ℕ → ℕ → Type 0
NonePast far sites room s v cell j = (i : ℕ) → i < j → i < length sites / 2 → (k : ℕ) → k < length cell → corner_past far s (point_at sites (get_or room i 0)) v cell k ≡ false

pub none_more : {far : Float} {sites : List Float} {room : List ℕ} {s : Point} {v : List Float} {cell : List ℕ} {j r : ℕ} → NonePast far sites room s v cell j
    → PassedFrom far sites room s v cell j r → NonePast far sites room s v cell (j + r)
none_more {j = j} a p i h n k l = ⊎_elim (λ b. a i b n k l) (λ b. p.none i b h n k l) (lt_or_ge i j)

module _ (far : Float) (sites : List Float) (s : ℕ) (v : List Float) (cell : List ℕ) {room : List ℕ} (o : Order (length sites / 2) room) {p : Point} (P : p ≡ point_at sites s) where
  past_is : (i k : ℕ) → corner_past far p (point_at sites i) v cell k ≡ beyond_at far (point_at v (get_or cell k 0)) sites s [] true i
  unfolding corner_past beyond_at other_at
  past_is i k = ap (λ (q : Point). beyond far (point_at v (get_or cell k 0)) q (point_at sites i)) P

  pub ring_found : FoundPast far sites room p v cell → true ≡ cell_nearer far sites s [] true v cell
  unfolding cell_nearer corner_nearer nearer_at held_count
  ring_found f =
      let j = f.place in
      let q = corner_past far p (point_at sites (get_or room j 0)) v cell in
      let k = lowest q (length cell) in
      let K = ltb-true k (length cell) f.past in
      sym (some_below (corner_nearer far sites s [] true v cell) k K
      (some_below (beyond_at far (point_at v (get_or cell k 0)) sites s [] true) (get_or room j 0) (o.named j f.within) (sym (past_is (get_or room j 0) k) ∙ lowest_takes q (length cell) K)))

  pub ring_none : {j : ℕ} → NonePast far sites room p v cell j → length sites / 2 ≤ j → false ≡ cell_nearer far sites s [] true v cell
  unfolding cell_nearer corner_nearer nearer_at held_count
  ring_none {j} a h =
      sym (none_below (corner_nearer far sites s [] true v cell) (length cell) (λ k K.
      none_below (beyond_at far (point_at v (get_or cell k 0)) sites s [] true) (length sites / 2) (λ i I.
      let q = o.placed i I in
      sym (past_is i k) ∙ ap (λ (n : ℕ). corner_past far p (point_at sites n) v cell k) (sym q.is) ∙ a q.place (lt_of_lt_of_le q.within h) q.within k K)))

pub empty_none : (far : Float) (sites : List Float) (s : ℕ) (v : List Float) (cell : List ℕ) → length cell ≡ 0 → false ≡ cell_nearer far sites s [] true v cell
unfolding cell_nearer
empty_none far sites s v cell e = sym (none_below (corner_nearer far sites s [] true v cell) (length cell) (λ k h. absurd (no k (length cell) h e)))
  where
    no : (k n : ℕ) → k < n → n ≡ 0 → ⊥
    no k n h e = omega arith

-- where no window was found
pub all_asked : (far : Float) (sites : List Float) (s : ℕ) (v : List Float) (cell : List ℕ) {none : List ℕ} {k : ℕ} → none ≡ []
    → k ≡ lowest (corner_nearer far sites s none true v cell) (length cell) → ltb k (length cell) ≡ cell_nearer far sites s [] true v cell
unfolding cell_nearer
all_asked far sites s v cell e f = rw (f, e) refl

pub piece_is : (far : Float) (sites v : List Float) (off ix : List ℕ) (s : ℕ) {t : Bool} {cell : List ℕ} → cell ≡ cell_of off ix s → t ≡ cell_nearer far sites s [] true v cell
    → t ≡ site_nearer far sites [] [] v off ix s
unfolding no_lists cell_of
piece_is far sites v off ix s e f = site_is far sites [] [] v off ix s {all = true} {part = []} refl refl e f

-- ---- the pieces in the order of the tree
abbrev pub NoneBefore : (ℕ → Bool) → List ℕ → ℕ → Type 0
NoneBefore p room j = (i : ℕ) → i < j → p (get_or room i 0) ≡ false

module _ (p : ℕ → Bool) (room : List ℕ) where
  pub before_more : {j w : ℕ} {t : Bool} → NoneBefore p room j → w ≡ get_or room j 0 → t ≡ p w → t ≡ false → NoneBefore p room (j + 1)
  before_more {j} a e f g i h = ⊎_elim (a i) (λ b. ap (λ (k : ℕ). p (get_or room k 0)) (last i h b) ∙ ap p (sym e) ∙ sym f ∙ g) (lt_or_ge i j)
    where
      last : (i : ℕ) → i < j + 1 → j ≤ i → i ≡ j
      last i h b = omega arith

  pub before_all_lem : {n j : ℕ} → Order n room → NoneBefore p room j → n ≤ j → n ≡ lowest p n
  before_all_lem {n} {j} o a h =
      passed_end (record { most = omega arith; none = λ i I. let q = o.placed i I in ap p (sym q.is) ∙ a q.place (lt_of_lt_of_le q.within h) }) (omega arith)

-- ---- what a caller owes follows from rules 6, 16, 18 and 24
pub safe_by_rules : {far : Float} {sites v : List Float} {off ix : List ℕ} → NotMinus far → PiecesKept sites v off ix → length sites / 2 ≤ 65536
    → ((i : ℕ) → i < length sites / 2 → ok_site (point_at sites i) ≡ true) → RingsKept v off ix → TreeSafe far sites v off ix
safe_by_rules {sites = sites} p k few ok rings = record {
  plus = p;
  pieces = k;
  few = few;
  sites_bounded = λ i h. point_weaken {j = 400} (lit≤ tt) (site_bounded (point_at sites i) (ok i h));
  corners_bounded = λ s h. (cell_corners rings s (omega (arith, k.cut.many))).bounded;
}

-- ---- as the code makes them
pub past_corner : (far : Float) (s o : Point) (v : List Float) (cell : List ℕ) (k : ℕ) {t : Bool} {p : Point} {w : ℕ} → w ≡ get_or cell k 0 → p ≡ point_at v w → t ≡ beyond far p s o
    → t ≡ corner_past far s o v cell k
unfolding corner_past
past_corner far s o v cell k x y e = e ∙ ap (λ (q : Point). beyond far q s o) (y ∙ ap (point_at v) x)

pub node_parts : (sites : List Float) (room : List ℕ) (c : Window) (at : ℕ) {i j k l : ℕ} {p q r b : Point} → i ≡ get_or room at 0 → p ≡ point_at sites i → j ≡ get_or room (at + 1) 0 → q ≡ point_at sites j
    → k ≡ get_or room (at + 2) 0 → r ≡ point_at sites k → l ≡ get_or room (at + 3) 0 → b ≡ point_at sites l → off_of c p.x q.y r.x b.y ≡ node_off sites room c at
node_parts sites room c at e f g h x y z w = rw (f, h, y, w, e, g, x, z) refl

pub sites_held : {far : Float} {sites v : List Float} {off ix : List ℕ} → TreeSafe far sites v off ix → AllHeld sites → SitesHeld sites
sites_held a h = record {
  each = λ i g. let p = a.sites_bounded i g in record { x = record { held = h (2 * i); bounded = p.x }; y = record { held = h (2 * i + 1); bounded = p.y } };
}

pub pieces_held : {far : Float} {sites v : List Float} {off ix : List ℕ} → TreeSafe far sites v off ix → AllHeld v → PiecesHeld sites v off ix
pieces_held a h s g = record {
  each = λ k l. let p = a.corners_bounded s g k l in record { x = record { held = h _; bounded = p.x }; y = record { held = h _; bounded = p.y } };
}
