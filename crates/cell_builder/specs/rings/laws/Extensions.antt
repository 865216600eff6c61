-- The loop over the hull's edges follows the definition: what is left of it, from the vertices and numbers that stand, is the whole.
use Rattle.std.specs.Prelude.{◌≡◌, refl, Bool, true, false, ◌&&◌, ℕ, suc, ◌+◌, ◌-◌, ◌*◌, ◌/◌, ◌≤◌, ◌<◌, Float, set, take, drop}
use Rattle.std.proofs.Common.{sym, ap, ◌∙◌, subst, ⊎_elim, add-zero, add-one, length-set, length-append, drop-set-lt}
use mathlib.Core.List.{List, [], ◌∷◌, ◌++◌}
use Rattle.std.proofs.Math.Nat.{sub-zero}
use native.Mathlib.Omega.{arith}
use Rattle.std.proofs.Math.ListN.{length}
use Rattle.std.proofs.lemmas.List.Edits.{sets}
use Rattle.std.proofs.Math.Seq.{take-set-lt}
use Rattle.base.specs.common.laws.Stores.{sets_join}
use Rattle.plane.specs.points.Flat.{points, point_at}
use Rattle.plane.specs.declared.points.Point.{Point}
use Rattle.vertices.specs.Add.{add_vertex}
use Rattle.vertices.specs.Store.{Holds, Poured, Leaves, PlacedAs}
use Rattle.vertices.specs.declared.Placed.{Placed}
use Rattle.vertices.specs.laws.Store.{poured_points, poured_none, poured_then, added_kept, kept_vertex}
use Rattle.mesh.specs.Mesh.{start_of, end_of}
use Rattle.mesh.specs.Hull.{next_place}
use Rattle.mesh.specs.laws.Border.{after_lt, after_cases}
use Rattle.definition.specs.Cell.{Taken, took, extension}
use Rattle.definition.specs.Build.{finite, extended, extend_from}
use Rattle.definition.specs.Short.{extensions}
use Rattle.definition.specs.declared.Reused.{Reused}
use Rattle.definition.specs.Reused.{if_old, reused, reused_in, together}
use Rattle.definition.proofs.laws.Reused.{reused_join}
use Rattle.cell_builder.specs.rings.Extensions.{ray_of, ray_over, far_along, extended_ray, edge_at, HullReached, PointAhead, PointsFrom, ExtendedBy, ExtendsInto}
use Rattle.cell_builder.specs.declared.rings.extensions.Ray.{Ray}
use Rattle.cell_builder.specs.declared.rings.extensions.Passed.{Passed}

-- the extension is the circumcenter's ray, extended
pub extended_is : (sites : List Float) (tri : List ℕ) (vs : List Point) (e : ℕ) → extended sites tri vs e ≡ extended_ray (ray_over sites tri vs e)
unfolding extended ray_of far_along
extended_is sites tri vs e = refl

-- and stays the same when a vertex is added
pub extended_kept :
    (sites : List Float) (tri : List ℕ) (nc n : ℕ) (p : Point) (v v₁ : List Float) (m e : ℕ) → Poured (add_vertex nc (points n v) p).verts v m v₁ → 2 * n ≤ length v → n ≤ m → e / 3 < n
    → extended sites tri (points m v₁) e ≡ extended sites tri (points n v) e
extended_kept sites tri nc n p v v₁ m e h r l c =
    extended_is sites tri (points m v₁) e
    ∙ ap (λ (q : Point). extended_ray (ray_of q (point_at sites (start_of tri e)) (point_at sites (end_of tri e)))) (kept_vertex v v₁ n m (e / 3) _ (added_kept nc n p v v₁ m h r) l c)
    ∙ sym (extended_is sites tri (points n v) e)

-- the half-edge of a hull place, and its circumcenter among the vertices
module _ {sites : List Float} {tri hull table : List ℕ} {v : List Float} {count : ℕ} (x : HullReached sites tri hull table v count) (i : ℕ) (h : i < length hull) where
  pub reached_edge : edge_at hull table i < length tri
  reached_edge = x.extends.edges (next_place (length hull) i) (after_lt (length hull) i h)

  pub reached_center : edge_at hull table i / 3 < count
  reached_center = omega (arith, reached_edge, x.extends.threes, x.centers)

-- two rays extended are the extensions of a hull place and of the one after it
pub two_rays :
    (sites : List Float) (tri hull table : List ℕ) (vs : List Point) (i j : ℕ) (r s : Ray) (t : Point × Point) → r ≡ ray_over sites tri vs (edge_at hull table i)
    → s ≡ ray_over sites tri vs (edge_at hull table j) → j ≡ next_place (length hull) i → (t.0 ≡ extended_ray r) × (t.1 ≡ extended_ray s) → PointsFrom sites tri hull table vs i t
two_rays sites tri hull table vs i j r s t a b e h = record {
  first = h.0 ∙ ap extended_ray a ∙ sym (extended_is sites tri vs (edge_at hull table i));
  second = λ _. h.1 ∙ ap extended_ray (b ∙ ap (λ (k : ℕ). ray_over sites tri vs (edge_at hull table k)) e) ∙ sym (extended_is sites tri vs (edge_at hull table (next_place (length hull) i)));
}

one_le : (b : Bool) → if_old b 1 ≤ 1
one_le true = omega arith
one_le false = omega arith

-- one extension more
one_old : (old : ℕ) (b : Bool) → reused (old + if_old b 1) 0 0 ≡ together (reused old 0 0) (reused (if_old b 1 + 0) (if_old b 0 + 0) (if_old b 0 + 0))
one_old old true = rw (add-zero old) refl
one_old old false = refl

module _ (sites : List Float) (tri hull table : List ℕ) (nc limit at count : ℕ) (v₀ : List Float) (ix₀ : List ℕ) where
  pub record Extending (v : List Float) (ix : List ℕ) (n old i : ℕ) : Type 0 where
    pub within : i ≤ length hull
    pub xs : List ℕ
    pub ts : List Taken
    pub xs_long : length xs ≡ i
    pub reused : reused old 0 0 ≡ reused_in ts
    pub few : old ≤ i
    pub whole :
        extend_from sites tri hull table nc 0 (length hull) (extensions (points count v₀) [] [])
        ≡ extend_from sites tri hull table nc i (length hull - i) (extensions (points n v) xs ts)
    pub verts : Poured (points n v) v₀ n v
    pub numbers : take limit ix ≡ sets (take limit ix₀) at xs
    pub holds : Holds nc n v (drop limit ix)
    pub grown : n ≤ count + i
    pub long_v : length v ≡ length v₀
    pub long_ix : length ix ≡ length ix₀

  pub extending_start : Holds nc count v₀ (drop limit ix₀) → Extending v₀ ix₀ count 0 0
  extending_start h = record {
    within = omega arith;
    xs = [];
    ts = [];
    xs_long = refl;
    reused = refl;
    few = omega arith;
    whole = rw sub-zero;
    verts = poured_none count v₀ h.room;
    numbers = refl;
    holds = h;
    grown = omega arith;
    long_v = refl;
    long_ix = refl;
  }

  module _ (x : ExtendsInto sites tri hull table nc count limit at v₀ ix₀) (v : List Float) (ix : List ℕ) (n old i : ℕ) (g : Extending v ix n old i) (h : i < length hull) where
    pub turn_room : 2 * n + 2 ≤ length v
    turn_room = omega (arith, x.room_v, g.grown, g.long_v)

    pub turn_reaches : HullReached sites tri hull table v n
    turn_reaches = record { nc = nc; extends = x.extends; centers = g.holds.centers; room = g.holds.room }

    -- the extension that was worked out ahead, after a turn's vertex was added
    pub turn_ahead :
        (p : Point) (t : Point × Point) → PointsFrom sites tri hull table (points n v) i t → (v₁ : List Float) (m : ℕ) → Poured (add_vertex nc (points n v) p).verts v m v₁ → n ≤ m
        → PointAhead sites tri hull table (points m v₁) (i + 1) t.1
    turn_ahead p t f v₁ m w l k o = f.second (omega arith) ∙ ap (λ (j : ℕ). extended sites tri (points n v) (edge_at hull table j)) place ∙ sym kept
      where
        place : next_place (length hull) i ≡ i + 1
        place = ⊎_elim (λ u. absurd (omega arith)) (λ u. u.1) (after_cases (length hull) i)

        kept : extended sites tri (points m v₁) (edge_at hull table (i + 1)) ≡ extended sites tri (points n v) (edge_at hull table (i + 1))
        kept = extended_kept sites tri nc n p v v₁ m (edge_at hull table (i + 1)) w g.holds.room l (reached_center turn_reaches (i + 1) k)

  module _ (v : List Float) (ix : List ℕ) (n old i : ℕ) (g : Extending v ix n old i) (h : i < length hull) (p : Point) (q : p ≡ extended sites tri (points n v) (edge_at hull table i)) where
    rest :
        extend_from sites tri hull table nc 0 (length hull) (extensions (points count v₀) [] [])
        ≡ extend_from sites tri hull table nc i (suc (length hull - (i + 1))) (extensions (points n v) g.xs g.ts)
    rest = let k : length hull - i ≡ suc (length hull - (i + 1)) = omega arith in rw (← k) g.whole

    pub extending_bad :
        (finite p.x && finite p.y) ≡ false → (r : Passed) → r.place ≡ i → (v₁ : List Float) (ix₁ : List ℕ)
        → ExtendedBy (extend_from sites tri hull table nc 0 (length hull) (extensions (points count v₀) [] [])) (length hull) nc limit at v₀ ix₀ r v₁ ix₁
    unfolding extend_from
    extending_bad b r e v₁ ix₁ = rw (rest, ← q, b, e) (refl, h)

    module _ (b : (finite p.x && finite p.y) ≡ true) (x : ExtendsInto sites tri hull table nc count limit at v₀ ix₀) (r : Placed)
        (v₁ : List Float) (ix₁ : List ℕ) (same-v : length v₁ ≡ length v) (same-ix : length ix₁ ≡ length ix)
        (a : PlacedAs n (add_vertex nc (points n v) p) r) (l : Leaves nc limit (add_vertex nc (points n v) p).verts v ix r.count v₁ ix₁) where
      stand : points r.count v₁ ≡ (add_vertex nc (points n v) p).verts
      stand = poured_points l.verts

      step_whole :
          extend_from sites tri hull table nc 0 (length hull) (extensions (points count v₀) [] [])
          ≡ extend_from sites tri hull table nc (i + 1) (length hull - (i + 1))
          (extensions (points r.count v₁) (g.xs ++ r.at ∷ []) (g.ts ++ took extension (add_vertex nc (points n v) p) ∷ []))
      unfolding extend_from
      step_whole =
          let more :
          extend_from sites tri hull table nc 0 (length hull) (extensions (points count v₀) [] [])
          ≡ extend_from sites tri hull table nc (suc i) (length hull - (i + 1))
          (extensions (add_vertex nc (points n v) p).verts (g.xs ++ (add_vertex nc (points n v) p).at ∷ []) (g.ts ++ took extension (add_vertex nc (points n v) p) ∷ [])) =
          rest ∙ rw (← q, b) in
          rw (stand, a.at) (subst (λ k. extend_from sites tri hull table nc 0 (length hull)
          (extensions (points count v₀) [] []) ≡ extend_from sites tri hull table nc k (length hull - (i + 1))
          (extensions (add_vertex nc (points n v) p).verts (g.xs ++ (add_vertex nc (points n v) p).at ∷ []) (g.ts ++ took extension (add_vertex nc (points n v) p) ∷ []))) (sym (add-one i)) more)

      step_numbers : take limit (set ix₁ (at + i) r.at) ≡ sets (take limit ix₀) at (g.xs ++ r.at ∷ [])
      step_numbers =
          let s : set (sets (take limit ix₀) at g.xs) (at + i) r.at ≡ sets (take limit ix₀) at (g.xs ++ r.at ∷ []) = sets_join g.xs
          (r.at ∷ []) (take limit ix₀) at (at + i) (omega (arith, g.xs_long)) in
          take-set-lt limit ix₁ (at + i) r.at (omega (arith, x.room_ix)) ∙ cc (l.body, g.numbers)

      step_reused : (new : ℕ) → new ≡ old + if_old r.fresh 1 → reused new 0 0 ≡ reused_in (g.ts ++ took extension (add_vertex nc (points n v) p) ∷ [])
      step_reused new e =
          let more = took extension (add_vertex nc (points n v) p) ∷ [] in
          ap (λ (k : ℕ). reused k 0 0) (e ∙ ap (λ (t : Bool). old + if_old t 1) a.fresh)
          ∙ one_old old (add_vertex nc (points n v) p).fresh
          ∙ ap (λ (x : Reused). together x (reused_in more)) g.reused
          ∙ sym (reused_join g.ts more)

      pub extending_step : (y new : ℕ) → y ≡ r.at → new ≡ old + if_old r.fresh 1 → Extending v₁ (set ix₁ (at + i) y) r.count new (i + 1)
      extending_step y new e w = rw e (record {
        within = omega arith;
        xs = g.xs ++ r.at ∷ [];
        ts = g.ts ++ took extension (add_vertex nc (points n v) p) ∷ [];
        xs_long = rw (length-append, g.xs_long);
        reused = step_reused new w;
        few = omega (arith, w, g.few, one_le r.fresh);
        whole = step_whole;
        verts = rw stand (poured_then g.verts l.verts a.low (omega (arith, g.grown, x.room_v)));
        numbers = step_numbers;
        holds = rw (drop-set-lt limit ix₁ (at + i) r.at (omega (arith, x.room_ix))) l.holds;
        grown = omega (arith, g.grown, a.high);
        long_v = same-v ∙ g.long_v;
        long_ix = length-set ix₁ (at + i) r.at ∙ same-ix ∙ g.long_ix;
      })

  pub extending_end :
      (v : List Float) (ix : List ℕ) (n old i : ℕ) → Extending v ix n old i → length hull ≤ i → (r : Passed) → r.place ≡ i → r.count ≡ n → r.reused ≡ old
      → ExtendedBy (extend_from sites tri hull table nc 0 (length hull) (extensions (points count v₀) [] [])) (length hull) nc limit at v₀ ix₀ r v ix
  unfolding extend_from
  extending_end v ix n old i g h r e f o =
      let q : i ≡ length hull = omega (arith, g.within) in
      let z : length hull - i ≡ 0 = omega arith in
      rw (g.whole, z) (e ∙ q, g.xs_long ∙ q, record { verts = rw f g.verts; reused = rw o g.reused; numbers = g.numbers; holds = rw f g.holds })
