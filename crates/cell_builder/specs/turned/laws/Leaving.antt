-- Early cells left out: a try of another site does the same with them and without them, and the definition's try at an early site's table entry is one more left out.
use Rattle.std.specs.Prelude.{◌≡◌, Bool, true, false, List, [], ◌++◌, ◌≢◌, ℕ, ◌/◌, ◌<◌, Float, length, get_or, set}
use Rattle.std.proofs.Math.Path.{refl}
use Rattle.std.proofs.Common.{sym, ap, ◌∙◌, inl, inr, ⊎_elim, length-set, get_or-set_same, get_or-set_other}
use Rattle.base.specs.common.Pick.{pick}
use Rattle.base.specs.common.laws.Decide.{eq_or_ne}
use Rattle.plane.specs.declared.points.Point.{Point}
use Rattle.mesh.specs.Mesh.{end_of}
use Rattle.definition.specs.declared.Fault.{Fault}
use Rattle.definition.specs.Fault.{Outcome, ok, refused, and_then}
use Rattle.definition.specs.Cell.{Entry, Taken, RingPart, clip_cell}
use Rattle.definition.specs.Build.{CellState, ring_from, clip_into, is_empty}
use Rattle.definition.specs.Short.{cell_state}
use Rattle.cell_builder.specs.declared.finish.Progress.{Progress}
use Rattle.cell_builder.specs.tried.SlicesInvariant.{Plan, Ground, Amid, edge_try}
use Rattle.cell_builder.specs.tried.laws.Early.{early_cell}
use Rattle.cell_builder.specs.turned.Marks.{LeftOut}
use Rattle.cell_builder.specs.turned.laws.Onward.{Onward}

-- refused alike, or cells of which R holds
abbrev pub Alike : (CellState → CellState → Type 0) → Outcome Fault CellState → Outcome Fault CellState → Type 0
Alike R (ok a) (ok b) = R a b
Alike R (ok a) (refused y) = ⊥
Alike R (refused x) (ok b) = ⊥
Alike R (refused x) (refused y) = x ≡ y

module _ {w : Plan} {g : Ground} where
  pub left_none : {Q : ℕ → Type 0} (c : CellState) → LeftOut w g Q c c
  left_none c = record { verts = refl; owners = refl; steps = refl; width = refl; each = λ k l. inl refl }

  pub left_more : {Q R : ℕ → Type 0} {c t : CellState} → ((k : ℕ) → k < g.sites → Q k → R k) → LeftOut w g Q c t → LeftOut w g R c t
  left_more h o = record {
    verts = o.verts;
    owners = o.owners;
    steps = o.steps;
    width = o.width;
    each = λ k l. ⊎_elim (λ x. inl x) (λ x. inr (h k l x.0, x.1, x.2)) (o.each k l);
  }

  pub left_onward : {Q : ℕ → Type 0} {c t : CellState} {p : Progress} {v : List Float} {ix : List ℕ} → Amid w g t p v ix → LeftOut w g Q c t → Onward w g c
  left_onward {v = v} {ix = ix} a o = record {
    numbers = length v;
    indexes = length ix;
    on = a.on;
    more = a.held.more;
    grown = rw o.verts a.held.grown;
    width = o.width ∙ a.held.width;
  }

  module _ {Q : ℕ → Type 0} {c t : CellState} (o : LeftOut w g Q c t) (wide : length t.cells ≡ g.sites) {site : ℕ} (l : site < g.sites) where
    -- one cell set in both
    set_both : (vs : List Point) (os : List ℕ) (new : List Entry) (ts : List Taken)
        → LeftOut w g Q (cell_state vs os (set c.cells site new) (c.steps ++ ts)) (cell_state vs os (set t.cells site new) (t.steps ++ ts))
    set_both vs os new ts = record {
      verts = refl;
      owners = refl;
      steps = ap (λ (x : List Taken). x ++ ts) o.steps;
      width = length-set c.cells site new ∙ o.width ∙ sym (length-set t.cells site new);
      each = λ k lk.
          ⊎_elim
          (λ q. inl (rw q (get_or-set_same c.cells site new [] (rw (o.width, wide) l) ∙ sym (get_or-set_same t.cells site new [] (rw wide l)))))
          (λ q.
          let x = get_or-set_other c.cells site k new [] q in
          let y = get_or-set_other t.cells site k new [] q in
          ⊎_elim (λ z. inl (x ∙ z ∙ sym y)) (λ z. inr (z.0, y ∙ z.1, x ∙ z.2)) (o.each k lk))
          (eq_or_ne k site);
    }

    into_alike : (ring : List ℕ) → Alike (LeftOut w g Q) (clip_into w.frame.bounds (length w.triangles / 3) site ring c) (clip_into w.frame.bounds (length w.triangles / 3) site ring t)
    unfolding clip_into and_then
    into_alike ring = rw (o.verts, o.owners) (go (clip_cell w.frame.bounds (length w.triangles / 3) site ring t.verts t.owners))
      where
        go : (r : Outcome Fault RingPart) → Alike (LeftOut w g Q)
            (and_then r (λ k. ok (cell_state k.tip.verts k.tip.owners (set c.cells site k.new) (c.steps ++ k.steps))))
            (and_then r (λ k. ok (cell_state k.tip.verts k.tip.owners (set t.cells site k.new) (t.steps ++ k.steps))))
        go (ok k) = set_both k.tip.verts k.tip.owners k.new k.steps
        go (refused x) = refl

  pub try_alike : {Q : ℕ → Type 0} {c t : CellState} → LeftOut w g Q c t → length t.cells ≡ g.sites → (e : ℕ) → end_of w.triangles e < g.sites
      → get_or c.cells (end_of w.triangles e) [] ≡ get_or t.cells (end_of w.triangles e) [] → Alike (LeftOut w g Q) (edge_try w e c) (edge_try w e t)
  try_alike {Q} {c} {t} o wide e l same = rw same (by (is_empty (get_or t.cells (end_of w.triangles e) [])))
    where
      by : (x : Bool) → Alike (LeftOut w g Q)
          (pick x (λ _. clip_into w.frame.bounds (length w.triangles / 3) (end_of w.triangles e) (ring_from w.halfedges e) c) (λ _. ok c))
          (pick x (λ _. clip_into w.frame.bounds (length w.triangles / 3) (end_of w.triangles e) (ring_from w.halfedges e) t) (λ _. ok t))
      by true = into_alike o wide l (ring_from w.halfedges e)
      by false = o

  -- a cell that is left out, filled in c alone
  module _ {Q R : ℕ → Type 0} {c t : CellState} (o : LeftOut w g Q c t) (wide : length t.cells ≡ g.sites) {site : ℕ} (l : site < g.sites)
      (others : (k : ℕ) → k ≢ site → Q k → R k) (new : List Entry) where
    pub left_one : R site → get_or t.cells site [] ≡ [] → new ≡ early_cell w.halfedges (get_or w.table site 0)
        → LeftOut w g R (cell_state c.verts c.owners (set c.cells site new) c.steps) t
    left_one r blank q = record {
      verts = o.verts;
      owners = o.owners;
      steps = o.steps;
      width = length-set c.cells site new ∙ o.width;
      each = λ k lk.
          ⊎_elim
          (λ z. inr (rw z r, rw z blank, rw z (get_or-set_same c.cells site new [] (rw (o.width, wide) l) ∙ q)))
          (λ z.
          let x = get_or-set_other c.cells site k new [] z in
          ⊎_elim (λ y. inl (x ∙ y)) (λ y. inr (others k z y.0, y.1, x ∙ y.2)) (o.each k lk))
          (eq_or_ne k site);
    }
