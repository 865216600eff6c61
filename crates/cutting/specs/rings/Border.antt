-- Theorem: the edges at infinity, one for each place of the hull, in the opposite order make one closed ring (`border_closed`).
use Rattle.std.specs.Prelude.{◌≡◌, refl, List, [], ◌∷◌, ℕ, zero, suc, ◌≤◌, ◌<◌, length, get_or}
use Rattle.std.proofs.Common.{sym, ap, ◌∙◌, ⊎_elim, arith}
use Rattle.mesh.specs.Mesh.{start_of}
use Rattle.mesh.specs.Hull.{next_place, next_site}
use Rattle.mesh.specs.Accepted.{Topology}
use Rattle.mesh.specs.laws.Border.{after_cases, after_lt}
use Rattle.mesh.specs.laws.Facts.{leftmost_unpaired}
use Rattle.cutting.specs.cuts.Rings.{RingEdge}
use Rattle.cutting.specs.cuts.Named.{EdgeName, far, ChainedEdges, ClosedEdges}
use Rattle.cutting.specs.rings.Names.{edge_of}
use Rattle.cutting.specs.rings.Rings.{starts_at}

module _ {tri he hull : List ℕ} {sites : ℕ} (ok : Topology tri he hull sites) where
  -- the half-edge on the hull that ends at place i
  abbrev pub arrives : ℕ → ℕ
  arrives i = starts_at ok (get_or hull i 0)

  -- it starts at the place before
  from_before : (i : ℕ) → i < length hull → start_of tri (arrives (next_place (length hull) i)) ≡ get_or hull i 0
  from_before i l =
      let e = ok.border.edges i l in
      let there = (ok.border.fresh (next_place (length hull) i) (after_lt (length hull) i l)).0 in
      ap (start_of tri) (leftmost_unpaired ok (next_site hull i) there e.0 e.1 e.4 e.2) ∙ e.3

  from_last : (n : ℕ) → length hull ≡ suc n → start_of tri (arrives 0) ≡ get_or hull n 0
  from_last n q = ⊎_elim
      (λ w. ap (λ (i : ℕ). start_of tri (arrives i)) (sym w.1) ∙ from_before n (omega arith))
      (λ w. absurd (w.0 (omega arith)))
      (after_cases (length hull) n)

  from_one : (n : ℕ) → suc n < length hull → start_of tri (arrives (suc n)) ≡ get_or hull n 0
  from_one n l = ⊎_elim
      (λ w. absurd (omega (arith, w.0)))
      (λ w. (let q : next_place (length hull) n ≡ suc n = w.1 ∙ omega arith in ap (λ (i : ℕ). start_of tri (arrives i)) (sym q) ∙ from_before n (omega arith)))
      (after_cases (length hull) n)

  -- the edges at infinity of the places below k, the last first
  abbrev pub border_names : ℕ → List EdgeName
  border_names zero = []
  border_names (suc k) = far (arrives k) ∷ border_names k

  module _ {C K : Type 0} (center end : ℕ → C) (on : ℕ → K) (line : K) where
    abbrev edges : EdgeName → RingEdge C K
    edges = edge_of tri he (starts_at ok) center end on line

    chained : (n : ℕ) → length hull ≡ suc n → (k : ℕ) → k ≤ length hull → ChainedEdges edges (end (arrives n)) (border_names k)
    chained n q zero l = tt
    chained n q (suc zero) l = (ap (λ (s : ℕ). end (starts_at ok s)) (from_last n q), tt)
    chained n q (suc (suc k)) l = (ap (λ (s : ℕ). end (starts_at ok s)) (from_one k l), chained n q (suc k) (omega arith))

    pub border_closed : ClosedEdges edges (border_names (length hull))
    border_closed = go (length hull) refl
      where
        go : (h : ℕ) → length hull ≡ h → ClosedEdges edges (border_names h)
        go zero q = tt
        go (suc n) q = chained n q (suc n) (omega arith)
