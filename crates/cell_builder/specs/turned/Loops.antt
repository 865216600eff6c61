-- The loops over tries: at all hull places, at all half-edges, and one after the other.
use Rattle.std.specs.Prelude.{◌≡◌, List, [], ◌≢◌, ℕ, ◌/◌, ◌<◌, Float, length, get_or}
use Rattle.base.specs.numbers.Numbers.{EMPTY}
use Rattle.mesh.specs.Mesh.{pair_of}
use Rattle.definition.specs.declared.Fault.{Fault}
use Rattle.definition.specs.Fault.{Outcome, ok, refused, and_then}
use Rattle.definition.specs.Build.{CellState, clip_hull, clip_rest}
use Rattle.cell_builder.specs.declared.finish.Progress.{Progress}
use Rattle.cell_builder.specs.tried.SlicesInvariant.{Plan, Ground, Fanned, Amid, Does, SomeHeld, AtRest}
use Rattle.cell_builder.specs.tried.laws.Early.{early_cell}
use Rattle.cell_builder.specs.turned.Marks.{Covers, MadeLast, LeftOut}
use Rattle.cell_builder.specs.turned.Turns.{HullsKnown, SettledBefore}

-- ---- the definition's loops, by a plan

abbrev pub hull_tries : Plan → Ground → CellState → Outcome Fault CellState
hull_tries w g s = clip_hull w.frame.bounds (length w.triangles / 3) w.halfedges w.hull w.table g.x.at 0 (length w.hull) s

abbrev pub edge_tries : Plan → CellState → Outcome Fault CellState
edge_tries w s = clip_rest w.frame.bounds (length w.triangles / 3) w.triangles w.halfedges 0 (length w.triangles) s

-- ---- what the functions need: some cells that the slices hold

-- all cells are empty
pub record HullsAmid (w : Plan) (p : Progress) (v : List Float) (ix : List ℕ) : Type 0 where
  pub g : Ground
  pub s : CellState
  pub amid : Amid w g s p v ix
  pub blank : (k : ℕ) → k < g.sites → get_or s.cells k [] ≡ []

-- the marks m cover what is outside
abbrev pub MarksCover : Plan → Ground → List ℕ → Type 0
MarksCover w g m = Covers w.frame.bounds g.x.verts w.triangles w.table m (length w.triangles)

-- inner sites' cells are empty
abbrev pub InnerBlank : Plan → Ground → CellState → Type 0
InnerBlank w g s = (k : ℕ) → k < g.sites → pair_of w.halfedges (get_or w.table k 0) ≢ EMPTY → get_or s.cells k [] ≡ []

-- early sites' cells are empty
abbrev pub EarlyBlank : Plan → Ground → List ℕ → CellState → Type 0
EarlyBlank w g m t = (k : ℕ) → k < g.sites → MadeLast w.halfedges w.table m k → get_or t.cells k [] ≡ []

-- of cells that all half-edges have come by, the early ones are left out: they are c, and t are held
pub record LeftAmid (w : Plan) (g : Ground) (m : List ℕ) (c t : CellState) (p : Progress) (v : List Float) (ix : List ℕ) : Type 0 where
  pub settled : SettledBefore w g m (length w.triangles) c
  pub left : LeftOut w g (MadeLast w.halfedges w.table m) c t
  pub blank : EarlyBlank w g m t
  pub amid : Amid w g t p v ix

-- the cells c, of which the slices hold all but those of early sites
pub record LateAmid (w : Plan) (g : Ground) (m : List ℕ) (c : CellState) (p : Progress) (v : List Float) (ix : List ℕ) : Type 0 where
  pub held : CellState
  pub amid : Amid w g held p v ix
  pub verts : c.verts ≡ held.verts
  pub owners : c.owners ≡ held.owners
  pub steps : c.steps ≡ held.steps
  pub width : length c.cells ≡ length held.cells
  pub late : (k : ℕ) → k < g.sites → (MadeLast w.halfedges w.table m k → ⊥) → get_or c.cells k [] ≡ get_or held.cells k []
  pub early : (k : ℕ) → k < g.sites → MadeLast w.halfedges w.table m k → get_or c.cells k [] ≡ early_cell w.halfedges (get_or w.table k 0)

-- ---- what the functions give, of whatever cells the slices v and ix held: the definition's outcome in r, v₁ and ix₁

-- at first: all are empty
abbrev pub AtFirst : Plan → Progress → List Float → List ℕ → (Ground → CellState → Type 0) → Type 0
AtFirst w p v ix P =
    (g : Ground) (s : CellState) → ((k : ℕ) → k < g.sites → get_or s.cells k [] ≡ []) → Amid w g s p v ix → P g s

-- at all hull places
abbrev pub HullsTried : Plan → Progress → List Float → List ℕ → Progress → List Float → List ℕ → Type 0
HullsTried w p v ix r v₁ ix₁ = AtFirst w p v ix (λ g s. Does w g (hull_tries w g s) r v₁ ix₁)

-- the outcome, but that early cells are left out
abbrev pub DoesLeft : Plan → Ground → List ℕ → Outcome Fault CellState → Progress → List Float → List ℕ → Type 0
DoesLeft w g m (ok c) p v ix = (t : CellState) × LeftAmid w g m c t p v ix
DoesLeft w g m (refused e) p v ix = (p.fault ≡ e) × (0 < e.number)

-- at all half-edges, where rule 10 holds; else some cells
abbrev pub RestTried : Plan → List ℕ → Progress → List Float → List ℕ → Progress → List Float → List ℕ → Type 0
RestTried w m p v ix r v₁ ix₁ =
    AtRest w p v ix (λ g s. SomeHeld w g r v₁ ix₁ × (Fanned w g → InnerBlank w g s → HullsKnown w g m s → MarksCover w g m → DoesLeft w g m (edge_tries w s) r v₁ ix₁))

-- the same with the marks alone
abbrev pub DoesLate : Plan → Ground → List ℕ → Outcome Fault CellState → Progress → List Float → List ℕ → Type 0
DoesLate w g m (ok c) p v ix = LateAmid w g m c p v ix
DoesLate w g m (refused e) p v ix = (p.fault ≡ e) × (0 < e.number)

-- at all hull places, and then at all half-edges, where rule 10 holds; else some cells
abbrev pub AllTried : Plan → Progress → List Float → List ℕ → List ℕ → Progress → List Float → List ℕ → Type 0
AllTried w p v ix m r v₁ ix₁ =
    AtFirst w p v ix (λ g s. SomeHeld w g r v₁ ix₁ × (Fanned w g → DoesLate w g m (and_then (hull_tries w g s) (λ t. edge_tries w t)) r v₁ ix₁))
