-- What holds of the cells at each point of the build, and that a further try keeps it. Wrapping: a corner stands in no cell and is with its owner as found, or it is
-- struck out and stands once, in that owner's cell. Room: what was added is paid for by the sites whose cells are filled, each once, by its share u.
use Rattle.std.specs.Prelude.{◌≡◌, true, ◌⊎◌, ◌≢◌, ℕ, ◌+◌, ◌*◌, ◌≤◌, ◌<◌, set}
use Rattle.std.proofs.Math.Path.{refl, ap}
use Rattle.std.proofs.Common.{sym, ◌∙◌, inl, inr, ⊎_elim, arith, length-set, length-append, get_or-set_same}
use mathlib.Core.List.{List, [], ◌∷◌, ◌++◌}
use Rattle.std.proofs.Math.ListN.{length, get_or}
use Rattle.std.proofs.Math.Seq.{get_or-set_other}
use Rattle.base.specs.common.laws.Decide.{eq_or_ne}
use Rattle.base.specs.common.Count.{occ}
use Rattle.base.specs.numbers.Numbers.{EMPTY}
use Rattle.plane.specs.declared.points.Point.{Point}
use Rattle.plane.specs.declared.boxes.BoundingBox.{BoundingBox}
use Rattle.definition.specs.Cell.{Entry, Taken, in_box, RingPart, clip_cell}
use Rattle.definition.specs.Build.{wrapped_in, all_wrapped, CellState, clip_into}
use Rattle.definition.specs.Short.{cell_state}
use Rattle.definition.specs.laws.Gives.{Gives, gives_then}
use Rattle.definition.specs.Measures.{ValidEntries, new_points, weigh}
use Rattle.definition.proofs.laws.Puts.{all_more, all_turned}
use Rattle.build_laws.specs.laws.Grown.{new_append, new_le, Grown, grown_then}
use Rattle.build_laws.specs.laws.Inside.{in_grown}
use Rattle.build_laws.specs.laws.Ring.{RingClipped, clip_cell_lem}
use Rattle.build_laws.specs.laws.Weigh.{weigh_put, all_occ, all_length}

-- the share of site i, where its cell is filled
abbrev pub filled_share : (ℕ → ℕ) → ℕ → List Entry → ℕ
filled_share u i [] = 0
filled_share u i (e ∷ es) = u i

-- vs are the vertices, found the owners and begun the steps to begin with, n is the number of sites
pub record CellsSoFar (b : BoundingBox) (nc n : ℕ) (u : ℕ → ℕ) (vs : List Point) (found : List ℕ) (begun : List Taken) (s : CellState) : Type 0 where
  pub width : length s.cells ≡ n
  pub four : length s.owners ≡ 4
  -- vertices
  pub more : ℕ
  pub grown : Grown vs more s.verts
  pub added : new_points s.steps ≡ new_points begun + more
  pub twos : more ≤ 2 * weigh (filled_share u) 0 s.cells
  -- steps that add a point or take one again
  pub steps : length s.steps ≤ length begun + 2 * weigh (filled_share u) 0 s.cells
  -- entries
  pub threes : weigh (λ i c. length c) 0 s.cells ≤ 3 * weigh (filled_share u) 0 s.cells + length (all_wrapped s.cells)
  pub region : (k : ℕ) → k < n → length (get_or s.cells k []) ≤ 3 * u k + occ k found
  pub placed : (k : ℕ) → ValidEntries (λ v. in_box b nc vs v ≡ true) nc (length s.verts) (get_or s.cells k [])
  -- corners
  pub owned : (k : ℕ) → k ≢ EMPTY → occ k s.owners ≤ occ k found
  pub struck : length (all_wrapped s.cells) + occ EMPTY found ≡ occ EMPTY s.owners
  pub corner : (c : ℕ) → c < 4 → ((get_or s.owners c 0 ≡ get_or found c 0) × (occ (nc + c) (all_wrapped s.cells) ≡ 0)) ⊎
      ((get_or s.owners c 0 ≡ EMPTY) × (occ (nc + c) (all_wrapped s.cells) ≡ 1))
  pub taken : (c k : ℕ) → c < 4 → 0 < occ (nc + c) (wrapped_in (get_or s.cells k [])) → k ≡ get_or found c 0

-- an empty try costs nothing, another one its site's share
two_for : (u : ℕ → ℕ) (k m : ℕ) (es : List Entry) (ts : List Taken) → m ≤ u k → length ts ≤ 2 * m
    → (es ≡ [] → ts ≡ []) → length ts ≤ 2 * filled_share u k es
two_for u k m [] ts h g e = omega (arith, ap length (e refl))
two_for u k m (x ∷ es) ts h g e = omega arith

three_for : (u : ℕ → ℕ) (k m p w : ℕ) (es : List Entry) → m ≤ u k → p ≤ 3 * m → length es ≡ p + w → length es ≤ 3 * filled_share u k es + w
three_for u k m p w [] h g f = omega arith
three_for u k m p w (x ∷ es) h g f = omega arith

-- the cell of site s, set
set_cases : (cs : List (List Entry)) (s k : ℕ) (c : List Entry) → s < length cs → ((k ≡ s) × (get_or (set cs s c) k [] ≡ c)) ⊎ ((k ≢ s) × (get_or (set cs s c) k [] ≡ get_or cs k []))
set_cases cs s k c h = ⊎_elim (λ q. inl (q, rw q (get_or-set_same cs s c [] h))) (λ q. inr (q, get_or-set_other cs s k c [] q)) (eq_or_ne k s)

module _ (b : BoundingBox) (nc n : ℕ) (u : ℕ → ℕ) (vs : List Point) (found : List ℕ) (begun : List Taken) (room : nc + 4 ≤ length vs) where
  module _ (site : ℕ) (real : site ≢ EMPTY) (l : site < n) (ring : List ℕ) (paid : length ring ≤ u site) (s : CellState)
      (h : CellsSoFar b nc n u vs found begun s) (empty : get_or s.cells site [] ≡ []) where
    abbrev C : RingPart → Type 0
    C = RingClipped b nc site s.verts s.owners (length ring)

    abbrev after : RingPart → CellState
    after c = cell_state c.tip.verts c.tip.owners (set s.cells site c.new) (s.steps ++ c.steps)

    in_cells : site < length s.cells
    in_cells = rw h.width l

    put : (w : ℕ → List Entry → ℕ) (c : RingPart) → w site [] ≡ 0 → weigh w 0 (set s.cells site c.new) ≡ weigh w 0 s.cells + w site c.new
    put w c z = weigh_put w s.cells site c.new in_cells empty z

    occ_put : (v : ℕ) (c : RingPart) → occ v (all_wrapped (set s.cells site c.new)) ≡ occ v (all_wrapped s.cells) + occ v (wrapped_in c.new)
    unfolding wrapped_in
    occ_put v c = all_occ v 0 (set s.cells site c.new) ∙ put (λ j d. occ v (wrapped_in d)) c refl ∙ ap (λ (m : ℕ). m + occ v (wrapped_in c.new)) (sym (all_occ v 0 s.cells))

    length_put : (c : RingPart) → length (all_wrapped (set s.cells site c.new)) ≡ length (all_wrapped s.cells) + length (wrapped_in c.new)
    unfolding wrapped_in
    length_put c = all_length 0 (set s.cells site c.new) ∙ put (λ j d. length (wrapped_in d)) c refl ∙ ap (λ (m : ℕ). m + length (wrapped_in c.new)) (sym (all_length 0 s.cells))

    held_after : (c : RingPart) → C c → CellsSoFar b nc n u vs found begun (after c)
    held_after c g =
        let f = put (filled_share u) c refl in
        let w = length_put c in
        let t = two_for u site (length ring) c.new c.steps paid g.twos g.idle in
        let e = three_for u site (length ring) g.plain_or_crossing (length (wrapped_in c.new)) c.new paid g.threes g.puts.rest in
        record {
          width = length-set s.cells site c.new ∙ h.width;
          four = g.puts.owners ∙ h.four;
          more = h.more + new_points c.steps;
          grown = grown_then h.grown g.grown;
          added = new_append s.steps c.steps ∙ omega (arith, h.added);
          twos = omega (arith, h.twos, new_le c.steps);
          steps = omega (arith, h.steps, length-append s.steps c.steps);
          threes = omega (arith, h.threes, put (λ i d. length d) c refl);
          region = λ k lk.
              ⊎_elim
              (λ q. rw q.1 (rw q.0 (omega (arith, g.puts.rest, g.threes, g.puts.counted, h.owned site real))))
              (λ q. rw q.1 (h.region k lk))
              (set_cases s.cells site k c.new in_cells);
          placed = λ k.
              ⊎_elim
              (λ q. rw q.1 (all_turned (λ v. in_box b nc s.verts v ≡ true) nc site (λ v. in_box b nc vs v ≡ true) _
              (λ v i. sym (in_grown b nc vs s.verts h.more v (omega arith) h.grown) ∙ i) c.new g.puts.placed))
              (λ q. rw q.1 (all_more (λ v. in_box b nc vs v ≡ true) nc site (length s.verts) (length c.tip.verts) (omega (arith, g.grown.longer)) (get_or s.cells k []) (h.placed k)))
              (set_cases s.cells site k c.new in_cells);
          owned = λ k z. omega (arith, g.puts.others k z, h.owned k z);
          struck = omega (arith, g.puts.struck, h.struck);
          corner = λ i li.
              let o = occ_put (nc + i) c in
              ⊎_elim
              (λ x. ⊎_elim
              (λ y. inl (x.0 ∙ y.0, omega (arith, x.1, y.1)))
              (λ y. inr (x.0 ∙ y.0, omega (arith, x.1, y.1)))
              (h.corner i li))
              (λ x. ⊎_elim
              (λ y. inr (x.1, omega (arith, x.2, y.1)))
              (λ y. absurd (real (sym x.0 ∙ y.0)))
              (h.corner i li))
              (g.puts.corner i li);
          taken = λ i k li p.
              ⊎_elim
              (λ q. q.0 ∙ ⊎_elim
              (λ x. absurd (omega (arith, x.1, rw q.1 at p)))
              (λ x. ⊎_elim (λ y. sym x.0 ∙ y.0) (λ y. absurd (real (sym x.0 ∙ y.0))) (h.corner i li))
              (g.puts.corner i li))
              (λ q. h.taken i k li (rw q.1 at p))
              (set_cases s.cells site k c.new in_cells);
        }

    -- the cells of other sites stay
    pub clip_into_lem : Gives (λ (r : CellState). CellsSoFar b nc n u vs found begun r × ((k : ℕ) → k ≢ site → get_or r.cells k [] ≡ get_or s.cells k [])) (clip_into b nc site ring s)
    unfolding clip_into
    clip_into_lem =
        gives_then C (λ (r : CellState). CellsSoFar b nc n u vs found begun r
        × ((k : ℕ) → k ≢ site → get_or r.cells k [] ≡ get_or s.cells k [])) (clip_cell b nc site ring s.verts s.owners) _
        (clip_cell_lem b nc site real s.verts (omega (arith, h.grown.longer)) ring s.owners h.four)
        (λ c g. (held_after c g, λ k q. get_or-set_other s.cells site k c.new [] q))
