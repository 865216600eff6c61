-- What clipping a ring does to its cell, the sum of its edges: at most two vertices and three entries for each, beside the corners that the site owns,
-- and no vertex at all where the cell stays empty.
use Rattle.std.proofs.Math.Path.{◌≡◌, sym, subst}
use Rattle.std.specs.Prelude.{refl, Bool, ◌⊎◌, ◌≢◌, ℕ, suc, ◌+◌, ◌*◌, ◌≤◌, ◌<◌, ltb, get_or, take, drop}
use Rattle.std.proofs.Common.{ap, ◌∙◌, inl, arith, length-append, take-append-drop, ltb-true}
use Rattle.std.proofs.Math.Bool.{true, false}
use mathlib.Core.List.{List, [], ◌∷◌, ◌++◌, reverse}
use Rattle.std.proofs.Math.Logic.{inr, ⊎_elim}
use Rattle.std.proofs.Math.ListN.{length}
use Rattle.std.proofs.lemmas.List.{length-reverse}
use Rattle.base.specs.numbers.Numbers.{EMPTY}
use Rattle.plane.specs.declared.points.Point.{Point}
use Rattle.plane.specs.declared.boxes.BoundingBox.{BoundingBox}
use Rattle.definition.specs.Fault.{at_edge}
use Rattle.definition.specs.Cell.{Entry, last_or, Taken, Change, clip_step, in_box, Tip, RingPart, step_to, steps_to, first_inside, turned, clip_from, clip_cell}
use Rattle.definition.specs.Short.{tip, parts_joined}
use Rattle.definition.specs.laws.Gives.{Gives, gives_both, gives_given, gives_map, gives_then, gives_at, picked}
use Rattle.definition.specs.Measures.{ValidEntries, new_points}
use Rattle.definition.specs.laws.Puts.{Puts}
use Rattle.definition.proofs.laws.Puts.{puts_none, puts_more, puts_then, placed_below}
use Rattle.build_laws.specs.laws.Grown.{new_append, Grown, grown_none, grown_then}
use Rattle.build_laws.specs.laws.Edge.{Edge, clip_step_lem, stays_open}
use Rattle.build_laws.specs.laws.Inside.{in_center, in_grown, first_inside_lem}

-- ---- a run of edges

-- m edges from t on
pub record Ring (P : ℕ → Type 0) (nc site : ℕ) (t : Tip) (m : ℕ) (r : RingPart) : Type 0 where
  pub grown : Grown t.verts (new_points r.steps) r.tip.verts
  pub twos : length r.steps ≤ 2 * m
  pub plain_or_crossing : ℕ
  pub threes : plain_or_crossing ≤ 3 * m
  pub puts : Puts P nc site (length r.tip.verts) plain_or_crossing t.owners r.new r.tip.owners
  -- a point is added only with an entry
  pub idle : (1 ≤ plain_or_crossing) ⊎ (r.steps ≡ [])
  -- the cell is opened only with an entry
  pub entered : r.tip.opened ≡ true → (1 ≤ plain_or_crossing) ⊎ (t.opened ≡ true)

-- a cell on its way, over the vertices vs that it began with; started says whether it began inside
pub record Underway (b : BoundingBox) (nc : ℕ) (vs : List Point) (started : Bool) (t : Tip) : Type 0 where
  pub more : ℕ
  pub grown : Grown vs more t.verts
  pub four : length t.owners ≡ 4
  pub inside : t.p_in ≡ true → in_box b nc vs t.p ≡ true
  -- an open cell has a last entry, and a cell that began inside is open outside
  pub last : t.opened ≡ true → t.last < length t.verts
  pub out : started ≡ true → t.p_in ≡ false → t.opened ≡ true

last_below : (P : ℕ → Type 0) (nc n l : ℕ) (es : List Entry) → nc + 4 ≤ n → ValidEntries P nc n es → l < n → last_or l es < n
last_below P nc n l [] room h k = k
last_below P nc n l (e ∷ es) room h k = last_below P nc n e.at es room h.1 (placed_below P nc n e.mark e.at room h.0)

last_some : (P : ℕ → Type 0) (nc n l : ℕ) (es : List Entry) → nc + 4 ≤ n → ValidEntries P nc n es → 1 ≤ length es → last_or l es < n
last_some P nc n l [] room h k = absurd (omega arith)
last_some P nc n l (e ∷ es) room h k = last_below P nc n e.at es room h.1 (placed_below P nc n e.mark e.at room h.0)

pub turned_length : (f : ℕ) (ring : List ℕ) → length (turned f ring) ≡ length ring
unfolding turned
turned_length f ring =
    length-append (reverse (take f ring)) (reverse (drop f ring))
    ∙ ap (λ (n : ℕ). n + length (reverse (drop f ring))) (length-reverse (take f ring))
    ∙ ap (λ (n : ℕ). length (take f ring) + n) (length-reverse (drop f ring))
    ∙ sym (length-append (take f ring) (drop f ring))
    ∙ ap length (take-append-drop f ring)

module _ (b : BoundingBox) (nc site : ℕ) (real : site ≢ EMPTY) (vs : List Point) (room : nc + 4 ≤ length vs) (started : Bool) where
  abbrev pub Inside : ℕ → Type 0
  Inside v = in_box b nc vs v ≡ true

  abbrev pub After : Tip → RingPart → Type 0
  After t c = Ring Inside nc site t 1 c × Underway b nc vs started c.tip

  abbrev Did : Tip → ℕ → Change → Type 0
  Did t q d = Edge Inside nc site t.verts t.owners t.opened d × (started ≡ true → in_box b nc t.verts q ≡ false → d.opened ≡ true)

  did : (t : Tip) (q : ℕ) → Underway b nc vs started t → Gives (Did t q) (clip_step b nc site t.p t.p_in q (in_box b nc t.verts q) t.verts t.owners t.opened t.last)
  did t q h =
      let o = clip_step b nc site t.p t.p_in q (in_box b nc t.verts q) t.verts t.owners t.opened t.last in
      gives_both _ _ o
      (clip_step_lem Inside b nc site real t.p t.p_in q _ t.verts t.owners t.opened t.last (omega (arith, h.grown.longer)) h.four
      (λ e. (h.inside e, in_center b nc vs t.p (h.inside e))))
      (gives_given (started ≡ true) _ o (λ s. gives_given (in_box b nc t.verts q ≡ false) _ o
      (λ out. stays_open b nc site t.p t.p_in q _ t.verts t.owners t.opened t.last out (h.out s))))

  pub step_to_lem : (t : Tip) (q : ℕ) → Underway b nc vs started t → Gives (After t) (step_to b nc site t q)
  unfolding step_to
  step_to_lem t q h =
      gives_then (Did t q) (After t)
      (at_edge site t.p q (clip_step b nc site t.p t.p_in q (in_box b nc t.verts q) t.verts t.owners t.opened t.last)) _
      (gives_at (Did t q) site t.p q (clip_step b nc site t.p t.p_in q (in_box b nc t.verts q) t.verts t.owners t.opened t.last) (did t q h))
      (λ d w.
      let g = w.0 in
      let n : nc + 4 ≤ length d.verts = omega (arith, h.grown.longer, g.grown.longer) in (
        record { grown = g.grown; twos = omega (arith, g.two); plain_or_crossing = g.plain_or_crossing; threes = omega (arith, g.three); puts = g.puts; idle = g.idle; entered = g.entered },
        record {
          more = h.more + new_points d.steps;
          grown = grown_then h.grown g.grown;
          four = g.puts.owners ∙ h.four;
          inside = λ e. sym (in_grown b nc vs t.verts h.more q (omega arith) h.grown) ∙ e;
          last = λ e. ⊎_elim
              (λ k. last_some Inside nc (length d.verts) t.last d.new n g.puts.placed (omega (arith, g.puts.rest)))
              (λ o. last_below Inside nc (length d.verts) t.last d.new n g.puts.placed (omega (arith, h.last o, g.grown.longer)))
              (g.entered e);
          out = w.1;
        },
      ))

  idle_then : {k j : ℕ} {ts us : List Taken} → (1 ≤ k) ⊎ (ts ≡ []) → (1 ≤ j) ⊎ (us ≡ []) → (1 ≤ k + j) ⊎ (ts ++ us ≡ [])
  idle_then {k} {j} {ts} {us} h g =
      ⊎_elim (λ x. inl (omega arith)) (λ x. ⊎_elim (λ y. inl (omega arith)) (λ y. inr (rw x y)) g) h

  ring_then : {m k : ℕ} (t : Tip) (c d : RingPart) → Ring Inside nc site t m c → Ring Inside nc site c.tip k d → Ring Inside nc site t (m + k) (parts_joined c d)
  ring_then t c d h g = record {
    grown = subst (λ (n : ℕ). Grown t.verts n d.tip.verts) (sym (new_append c.steps d.steps)) (grown_then h.grown g.grown);
    twos = omega (arith, length-append c.steps d.steps, h.twos, g.twos);
    plain_or_crossing = h.plain_or_crossing + g.plain_or_crossing;
    threes = omega (arith, h.threes, g.threes);
    puts = puts_then Inside nc site real (puts_more Inside nc site (omega (arith, g.grown.longer)) h.puts) g.puts;
    idle = idle_then h.idle g.idle;
    entered = λ e. ⊎_elim (λ x. inl (omega arith)) (λ x. ⊎_elim (λ y. inl (omega arith)) (λ y. inr y) (h.entered x)) (g.entered e);
  }

  pub steps_to_lem : (qs : List ℕ) (t : Tip) → Underway b nc vs started t → Gives (Ring Inside nc site t (length qs)) (steps_to b nc site qs t)
  unfolding steps_to
  steps_to_lem [] t h = record {
    grown = grown_none t.verts;
    twos = omega arith;
    plain_or_crossing = 0;
    threes = omega arith;
    puts = puts_none Inside nc site _ t.owners;
    idle = inr refl;
    entered = λ e. inr e;
  }
  steps_to_lem (q ∷ qs) t h =
      gives_then (After t) (Ring Inside nc site t (suc (length qs))) (step_to b nc site t q) _ (step_to_lem t q h)
      (λ c x. gives_then (Ring Inside nc site c.tip (length qs)) (Ring Inside nc site t (suc (length qs))) (steps_to b nc site qs c.tip) _ (steps_to_lem qs c.tip x.1)
      (λ d y. subst (λ (n : ℕ). Ring Inside nc site t n (parts_joined c d)) (omega arith) (ring_then t c d x.0 y)))

  pub begin : (os : List ℕ) (p : ℕ) → length os ≡ 4 → (started ≡ true → Inside p) → Underway b nc vs started (tip vs os EMPTY p started false)
  begin os p four h = record {
    more = 0;
    grown = grown_none vs;
    four = four;
    inside = h;
    last = λ e. let y : ◌≡◌ {A = ℕ} 0 1 = cc in absurd (omega arith);
    out = λ e f. let y : ◌≡◌ {A = ℕ} 0 1 = cc in absurd (omega arith);
  }

  clip_from_lem : (ring os : List ℕ) (f : ℕ) → length os ≡ 4 → (started ≡ true → Inside (get_or ring f 0))
      → Gives (Ring Inside nc site (tip vs os EMPTY (get_or ring f 0) started false) (length ring)) (clip_from b nc site ring vs os f started)
  unfolding clip_from
  clip_from_lem ring os f four h =
      let t = tip vs os EMPTY (get_or ring f 0) started false in
      subst (λ (n : ℕ). Gives (Ring Inside nc site t n) (steps_to b nc site (turned f ring) t)) (turned_length f ring) (steps_to_lem (turned f ring) t (begin os _ four h))

-- ---- the whole ring

-- what the try at a ring of m vertices gives: the vertices and owners it leaves, the cell's entries
pub record RingClipped (b : BoundingBox) (nc site : ℕ) (vs : List Point) (os : List ℕ) (m : ℕ) (r : RingPart) : Type 0 where
  pub grown : Grown vs (new_points r.steps) r.tip.verts
  pub twos : length r.steps ≤ 2 * m
  pub plain_or_crossing : ℕ
  pub threes : plain_or_crossing ≤ 3 * m
  pub puts : Puts (λ v. in_box b nc vs v ≡ true) nc site (length r.tip.verts) plain_or_crossing os r.new r.tip.owners
  -- a try that leaves its cell empty adds no vertex
  pub idle : r.new ≡ [] → r.steps ≡ []

module _ (b : BoundingBox) (nc site : ℕ) (real : site ≢ EMPTY) (vs : List Point) (room : nc + 4 ≤ length vs) (ring os : List ℕ) (four : length os ≡ 4) where
  clipped : (started : Bool) (f : ℕ) → (started ≡ true → in_box b nc vs (get_or ring f 0) ≡ true) → Gives (RingClipped b nc site vs os (length ring)) (clip_from b nc site ring vs os f started)
  clipped started f h =
      gives_map _ _ (clip_from b nc site ring vs os f started) (clip_from_lem b nc site real vs room started ring os f four h)
      (λ r g. record {
        grown = g.grown;
        twos = g.twos;
        plain_or_crossing = g.plain_or_crossing;
        threes = g.threes;
        puts = g.puts;
        idle = λ e. ⊎_elim (λ k. absurd (omega (arith, g.puts.rest, ap length e))) (λ k. k) g.idle;
      })

  pub clip_cell_lem : Gives (RingClipped b nc site vs os (length ring)) (clip_cell b nc site ring vs os)
  unfolding clip_cell
  clip_cell_lem =
      picked (Gives (RingClipped b nc site vs os (length ring))) (ltb (first_inside b nc vs ring) (length ring)) _ _
      (λ e. clipped true _ (λ z. first_inside_lem b nc vs ring (ltb-true _ _ e)))
      (λ e. clipped false 0 (λ z. let y : ◌≡◌ {A = ℕ} 0 1 = cc in absurd (omega arith)))
