-- What one edge of a ring does to a cell: it adds at most two vertices and at most three entries beside the corners, and without an entry no vertex.
use Rattle.std.proofs.Math.Path.{◌≡◌, refl, subst}
use Rattle.std.proofs.Common.{◌∙◌}
use Rattle.std.specs.Prelude.{Bool, List, [], ◌⊎◌, ◌≢◌, ℕ, ◌+◌, ◌≤◌, ◌<◌, eqb, length}
use Rattle.std.proofs.Math.Bool.{true, false}
use Rattle.std.proofs.Math.Logic.{inl, inr}
use native.Mathlib.Omega.{arith}
use borrow.Author.Tests.{eq-eqb}
use Rattle.base.specs.common.Pick.{pick}
use Rattle.base.specs.numbers.Numbers.{EMPTY}
use Rattle.plane.specs.declared.points.Point.{Point}
use Rattle.plane.specs.sides.Sides.{which_of}
use Rattle.plane.specs.declared.boxes.BoundingBox.{BoundingBox}
use Rattle.definition.specs.Cell.{last_or, Taken, Ins, with_corners, led, insert_edge, vertex_at, EdgeClip, missed, once, twice, Change, leave, enter_at, enter, cross_at, cross, clip_step}
use Rattle.definition.specs.Short.{insert_at, link, took_one, took_two}
use Rattle.definition.specs.laws.Gives.{Gives}
use Rattle.definition.specs.laws.Puts.{Puts}
use Rattle.definition.proofs.laws.Puts.{puts_none, puts_then, puts_plain, puts_crossing, puts_corners}
use Rattle.definition.specs.Measures.{new_points}
use Rattle.build_laws.specs.laws.Grown.{Grown, grown_none, grown_then, ClippedTo, clip_edge_lem}

pub record Edge (P : ℕ → Type 0) (nc site : ℕ) (vs : List Point) (os : List ℕ) (opened : Bool) (d : Change) : Type 0 where
  pub grown : Grown vs (new_points d.steps) d.verts
  pub two : length d.steps ≤ 2
  pub plain_or_crossing : ℕ
  pub three : plain_or_crossing ≤ 3
  pub puts : Puts P nc site (length d.verts) plain_or_crossing os d.new d.owners
  -- a point is added only with an entry
  pub idle : (1 ≤ plain_or_crossing) ⊎ (d.steps ≡ [])
  -- a cell is opened only with an entry
  pub entered : d.opened ≡ true → (1 ≤ plain_or_crossing) ⊎ (opened ≡ true)

module _ (P : ℕ → Type 0) (b : BoundingBox) (nc site : ℕ) (real : site ≢ EMPTY) where
  -- an inserted edge: one entry beside the corners, or two where the first is not the last entry
  module _ (vs : List Point) (os : List ℕ) (four : length os ≡ 4) where
    abbrev Insert : ℕ → Ins → Type 0
    Insert k i = Puts P nc site (length vs) k os i.new i.owners

    insert_sides : (last first second f s : ℕ) → nc ≤ second → second < length vs → (eqb last first ≡ false → (nc ≤ first) × (first < length vs))
        → Insert (pick (eqb last first) (λ _. 1) (λ _. 2)) (insert_at nc site last first second os f s)
    insert_sides last first second f s lo hi lead = by (eqb last first) lead (puts_corners P nc site real (length vs) f s second os four lo hi)
      where
        by : (t : Bool) → (t ≡ false → (nc ≤ first) × (first < length vs)) → Insert 1 (with_corners nc site f s second os)
            → Insert (pick t (λ _. 1) (λ _. 2)) (led t first (with_corners nc site f s second os))
        by true l h = h
        by false l h = puts_then P nc site real (puts_crossing P nc site (length vs) first os (l refl).0 (l refl).1) h

    -- from the last entry
    insert_on : (last second : ℕ) → nc ≤ second → second < length vs → Insert 1 (insert_edge b nc site vs os last last second)
    unfolding insert_edge
    insert_on last second lo hi =
        let e = eq-eqb last last refl in
        subst (λ (t : Bool). Insert (pick t (λ _. 1) (λ _. 2)) (insert_at nc site last last second os (which_of b (vertex_at vs last)) (which_of b (vertex_at vs second)))) e
        (insert_sides last last second _ _ lo hi (λ z. let y : ◌≡◌ {A = ℕ} 0 1 = cc in absurd (omega arith)))

    insert_new : (last first second : ℕ) → nc ≤ first → first < length vs → nc ≤ second → second < length vs
        → (k : ℕ) × (1 ≤ k) × (k ≤ 2) × Insert k (insert_edge b nc site vs os last first second)
    unfolding insert_edge
    insert_new last first second lo hi lo₂ hi₂ = by (eqb last first) (insert_edge b nc site vs os last first second)
        (insert_sides last first second (which_of b (vertex_at vs first)) (which_of b (vertex_at vs second)) lo₂ hi₂ (λ z. (lo, hi)))
      where
        by : (t : Bool) (i : Ins) → Insert (pick t (λ _. 1) (λ _. 2)) i → (k : ℕ) × (1 ≤ k) × (k ≤ 2) × Insert k i
        by true i h = (1, omega arith, omega arith, h)
        by false i h = (2, omega arith, omega arith, h)

  -- the three kinds of edge that meet the box's border
  leave_edge : (p : ℕ) (vs : List Point) (os : List ℕ) (opened : Bool) (k : EdgeClip) → P p → p < nc → ClippedTo nc vs k → Gives (Edge P nc site vs os opened) (leave p os k)
  unfolding leave
  leave_edge p vs os opened missed h l c = tt
  leave_edge p vs os opened (once r) h l c = record {
    grown = grown_then c.grown (grown_none _);
    two = omega arith;
    plain_or_crossing = 2;
    three = omega arith;
    puts = puts_then P nc site real (puts_plain P nc site _ p os h l) (puts_crossing P nc site _ r.at os c.after c.below);
    idle = inl (omega arith);
    entered = λ z. inl (omega arith);
  }
  leave_edge p vs os opened (twice r t) h l c = record {
    grown = grown_then c.0.grown (grown_then c.1.grown (grown_none _));
    two = omega arith;
    plain_or_crossing = 2;
    three = omega arith;
    puts = puts_then P nc site real (puts_plain P nc site _ p os h l) (puts_crossing P nc site _ r.at os c.0.after (omega (arith, c.0.below, c.1.grown.longer)));
    idle = inl (omega arith);
    entered = λ z. inl (omega arith);
  }

  enter_at_lem : (vs ws : List Point) (os : List ℕ) (opened : Bool) (last first : ℕ) (ts : List Taken) → length os ≡ 4 → Grown vs (new_points ts) ws
      → length ts ≤ 2 → nc ≤ first → first < length ws → Edge P nc site vs os opened (enter_at b nc site ws os last first ts)
  unfolding enter_at
  enter_at_lem vs ws os opened last first ts four g two lo hi =
      record { grown = g; two = two; plain_or_crossing = 1; three = omega arith; puts = insert_on ws os four last first lo hi; idle = inl (omega arith); entered = λ z. inl (omega arith) }

  enter_edge : (vs : List Point) (os : List ℕ) (opened : Bool) (last : ℕ) (k : EdgeClip) → length os ≡ 4 → ClippedTo nc vs k
      → Gives (Edge P nc site vs os opened) (enter b nc site os last k)
  unfolding enter
  enter_edge vs os opened last missed four c = tt
  enter_edge vs os opened last (once r) four c = enter_at_lem vs r.verts os opened last r.at (took_one r) four (grown_then c.grown (grown_none _)) (omega arith) c.after c.below
  enter_edge vs os opened last (twice r t) four c =
      enter_at_lem vs t.verts os opened last r.at (took_two r t) four (grown_then c.0.grown (grown_then c.1.grown (grown_none _)))
      (omega arith) c.0.after (omega (arith, c.0.below, c.1.grown.longer))

  link_edge : (vs : List Point) (os : List ℕ) (opened : Bool) (last first : ℕ) → length os ≡ 4 → nc ≤ first → first < length vs
      → (k : ℕ) × (k ≤ 1) × Puts P nc site (length vs) k os (link b nc site vs os opened last first).new (link b nc site vs os opened last first).owners
  link_edge vs os true last first four lo hi = (1, omega arith, insert_on vs os four last first lo hi)
  link_edge vs os false last first four lo hi = (0, omega arith, puts_none P nc site (length vs) os)

  cross_at_lem : (vs ws : List Point) (os : List ℕ) (opened : Bool) (last first second : ℕ) (ts : List Taken) → length os ≡ 4 → Grown vs (new_points ts) ws
      → length ts ≤ 2 → nc ≤ first → first < length ws → nc ≤ second → second < length ws → Edge P nc site vs os opened (cross_at b nc site ws os opened last first second ts)
  unfolding cross_at
  cross_at_lem vs ws os opened last first second ts four g two lo hi lo₂ hi₂ =
      let h = link_edge ws os opened last first four lo hi in
      let w = insert_new ws (link b nc site ws os opened last first).owners (h.2.owners ∙ four) (last_or last (link b nc site ws os opened last first).new) first second lo hi lo₂ hi₂ in
      record {
        grown = g;
        two = two;
        plain_or_crossing = h.0 + w.0;
        three = omega (arith, h.1, w.2);
        puts = puts_then P nc site real h.2 w.3;
        idle = inl (omega (arith, w.1));
        entered = λ z. inr z;
      }

  cross_edge : (vs : List Point) (os : List ℕ) (opened : Bool) (last : ℕ) (k : EdgeClip) → length os ≡ 4 → ClippedTo nc vs k
      → Gives (Edge P nc site vs os opened) (cross b nc site vs os opened last k)
  unfolding cross
  cross_edge vs os opened last missed four c = record {
    grown = grown_none vs;
    two = omega arith;
    plain_or_crossing = 0;
    three = omega arith;
    puts = puts_none P nc site (length vs) os;
    idle = inr refl;
    entered = λ z. inr z;
  }
  cross_edge vs os opened last (once r) four c = tt
  cross_edge vs os opened last (twice r t) four c =
      cross_at_lem vs t.verts os opened last r.at t.at (took_two r t) four (grown_then c.0.grown (grown_then c.1.grown (grown_none _)))
      (omega arith) c.0.after (omega (arith, c.0.below, c.1.grown.longer)) c.1.after c.1.below

  pub clip_step_lem : (p : ℕ) (p_in : Bool) (q : ℕ) (qIn : Bool) (vs : List Point) (os : List ℕ) (opened : Bool) (last : ℕ) → nc ≤ length vs
      → length os ≡ 4 → (p_in ≡ true → P p × (p < nc)) → Gives (Edge P nc site vs os opened) (clip_step b nc site p p_in q qIn vs os opened last)
  unfolding clip_step
  clip_step_lem p true q true vs os opened last room four h = record {
    grown = grown_none vs;
    two = omega arith;
    plain_or_crossing = 1;
    three = omega arith;
    puts = puts_plain P nc site _ p os (h refl).0 (h refl).1;
    idle = inr refl;
    entered = λ z. inr z;
  }
  clip_step_lem p true q false vs os opened last room four h = leave_edge p vs os opened _ (h refl).0 (h refl).1 (clip_edge_lem b nc vs p q room)
  clip_step_lem p false q true vs os opened last room four h = enter_edge vs os opened last _ four (clip_edge_lem b nc vs q p room)
  clip_step_lem p false q false vs os opened last room four h = cross_edge vs os opened last _ four (clip_edge_lem b nc vs p q room)

-- an edge that ends outside leaves the cell open, where it began inside or the cell was open
module _ (b : BoundingBox) (nc site : ℕ) where
  abbrev Open : Change → Type 0
  Open d = d.opened ≡ true

  leave_open : (p : ℕ) (os : List ℕ) (k : EdgeClip) → Gives Open (leave p os k)
  unfolding leave
  leave_open p os missed = tt
  leave_open p os (once r) = refl
  leave_open p os (twice r t) = refl

  cross_open : (vs : List Point) (os : List ℕ) (opened : Bool) (last : ℕ) (k : EdgeClip) → opened ≡ true → Gives Open (cross b nc site vs os opened last k)
  unfolding cross cross_at
  cross_open vs os opened last missed h = h
  cross_open vs os opened last (once r) h = tt
  cross_open vs os opened last (twice r t) h = h

  pub stays_open : (p : ℕ) (p_in : Bool) (q : ℕ) (qIn : Bool) (vs : List Point) (os : List ℕ) (opened : Bool) (last : ℕ) → qIn ≡ false
      → (p_in ≡ false → opened ≡ true) → Gives Open (clip_step b nc site p p_in q qIn vs os opened last)
  unfolding clip_step
  stays_open p true q true vs os opened last out h = let z : ◌≡◌ {A = ℕ} 0 1 = cc in absurd (omega arith)
  stays_open p true q false vs os opened last out h = leave_open p os _
  stays_open p false q true vs os opened last out h = let z : ◌≡◌ {A = ℕ} 0 1 = cc in absurd (omega arith)
  stays_open p false q false vs os opened last out h = cross_open vs os opened last _ (h refl)
