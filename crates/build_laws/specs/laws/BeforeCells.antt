-- Before the cells: the loops over circumcenters and extensions are refused at the lowest offender of rules 11 and 12; where there is none they give all of these.
use Rattle.std.specs.Prelude.{◌≡◌, Bool, false, ◌&&◌, Float, length, get_or}
use Rattle.std.proofs.Math.Path.{refl, ap}
use Rattle.std.proofs.Common.{sym, ◌∙◌}
use Rattle.std.proofs.Math.Bool.{true}
use mathlib.Core.List.{List, [], ◌∷◌, ◌++◌}
use Rattle.std.proofs.Math.Logic.{⊎_elim}
use Prim.Native.Nat.{ℕ, zero, suc, ◌/◌, ◌≤◌, ◌<◌}
use native.Mathlib.Omega.{arith}
use Rattle.std.specs.Float.Ieee.{nan}
use Rattle.std.proofs.Math.ListN.{length-append, get_or-append}
use Rattle.std.proofs.Math.Seq.{get_or_at}
use Rattle.base.specs.common.Pick.{pick}
use Rattle.base.specs.common.laws.Decide.{lt_or_ge}
use Rattle.base.specs.common.Refusals.{Keeps, Breaks}
use Rattle.plane.specs.points.Plane.{at}
use Rattle.plane.specs.declared.points.Point.{Point}
use Rattle.plane.specs.centers.Circumcenter.{ok_center}
use Rattle.plane.specs.boxes.Box.{corners_of}
use Rattle.plane.specs.declared.boxes.BoundingBox.{BoundingBox}
use Rattle.vertices.specs.Add.{add_vertex}
use Rattle.mesh.specs.Mesh.{leftmost_of}
use Rattle.mesh.specs.Accepted.{mesh, Accepted, site_count}
use Rattle.mesh.specs.Hull.{next_site}
use Rattle.mesh.specs.laws.Facts.{topology, end_site, tab_some}
use Rattle.base.specs.numbers.Numbers.{refused_circumcenter, refused_extension}
use Rattle.definition.specs.declared.Fault.{Fault}
use Rattle.definition.specs.Fault.{Outcome, ok, refused, and_then}
use Rattle.definition.specs.Cell.{vertex_at, took, extension}
use Rattle.definition.specs.Build.{center_at, centers_from, finite, extended, Extensions, extend_from}
use Rattle.definition.specs.Short.{fault, extensions}
use Rattle.build_laws.specs.Tries.{center_rule, centers_to, extension_at, extension_rule, ExtendedTo}
use Rattle.build_laws.specs.laws.Runs.{true_false, ok_same, refused_same, not_both, then_ok, loop, run, loop_run, run_refused, refused_run, run_keeps}
use Rattle.build_laws.specs.laws.Grown.{Grown, grown_then, add_vertex_lem}

not_true : (t : Bool) → (t ≡ true → ⊥) → t ≡ false
not_true true h = absurd (h refl)
not_true false h = refl

-- a choice that is refused where its test fails
pick_ok : {F A : Type 0} (t : Bool) (a b : A) (f : F) → pick t (λ _. ok a) (λ _. refused f) ≡ ok b → (t ≡ true) × (b ≡ a)
pick_ok true a b f h = (refl, sym (ok_same h))
pick_ok false a b f h = absurd (not_both (sym h))

pick_refused : {F A : Type 0} (t : Bool) (a : A) (f g : F) → pick {A = Outcome F A} t (λ _. ok a) (λ _. refused f) ≡ refused g → (t ≡ false) × (g ≡ f)
pick_refused true a f g h = absurd (not_both h)
pick_refused false a f g h = (refl, sym (refused_same h))

ok_pick : {F A : Type 0} (t : Bool) (a : A) (f : F) → t ≡ true → pick {A = Outcome F A} t (λ _. ok a) (λ _. refused f) ≡ ok a
ok_pick t a f h = rw h refl

refused_pick : {F A : Type 0} (t : Bool) (a : A) (f g : F) → t ≡ false → g ≡ f → pick {A = Outcome F A} t (λ _. ok a) (λ _. refused f) ≡ refused g
refused_pick t a f g h q = rw (h, q) refl

-- what follows such a choice is chosen with it
pick_then : {F A B : Type 0} (t : Bool) (a : A) (f : F) (next other : A → Outcome F B) → other a ≡ next a
    → pick t (λ _. other a) (λ _. refused f) ≡ and_then (pick t (λ _. ok a) (λ _. refused f)) next
unfolding and_then
pick_then true a f next other h = h
pick_then false a f next other h = refl

-- ---- circumcenters

module _ (sites : List Float) (tri : List ℕ) where
  abbrev Kept : ℕ → Type 0
  Kept t = ok_center (center_at sites tri t) ≡ true

  abbrev center_step : ℕ → List Point → Outcome Fault (List Point)
  center_step t vs = pick (ok_center (center_at sites tri t)) (λ _. ok (vs ++ center_at sites tri t ∷ [])) (λ _. refused (fault refused_circumcenter t 0 0))

  centers_loop : (k t : ℕ) (vs : List Point) → centers_from sites tri t k vs ≡ loop center_step t k vs
  unfolding centers_from loop
  centers_loop zero t vs = refl
  centers_loop (suc k) t vs =
      let ws = vs ++ center_at sites tri t ∷ [] in
      pick_then (ok_center (center_at sites tri t)) ws (fault refused_circumcenter t 0 0) (loop center_step (suc t) k) (centers_from sites tri (suc t) k) (centers_loop k (suc t) ws)

  centers_run : (k : ℕ) → centers_from sites tri 0 k [] ≡ run center_step k []
  centers_run k = centers_loop k 0 [] ∙ loop_run center_step k []

  abbrev CentersDone : ℕ → List Point → Type 0
  CentersDone k vs = ((u : ℕ) → u < k → Kept u) × (vs ≡ centers_to sites tri k)

  centers_done : (k : ℕ) {vs : List Point} → run center_step k [] ≡ ok vs → CentersDone k vs
  unfolding centers_to run
  centers_done k h =
      run_keeps center_step CentersDone 0 [] refl ((λ u l. absurd (omega arith)), refl) k (omega arith)
      (λ i u v lo hi at e d.
      let w = pick_ok (ok_center (center_at sites tri i)) _ v _ e in (
        (λ j l. ⊎_elim (λ m. d.0 j m) (λ m. let z : j ≡ i = omega arith in rw z w.0) (lt_or_ge j i)),
        w.1 ∙ ap (λ (c : List Point). c ++ center_at sites tri i ∷ []) d.1,
      ))
      h

  centers_kept : (k : ℕ) → ((u : ℕ) → u < k → Kept u) → run center_step k [] ≡ ok (centers_to sites tri k)
  unfolding centers_to run
  centers_kept zero h = refl
  centers_kept (suc k) h = then_ok (center_step k) (centers_kept k (λ u l. h u (omega arith))) ∙ ok_pick _ _ _ (h k (omega arith))

  pub centers_ok : {vs : List Point} → centers_from sites tri 0 (length tri / 3) [] ≡ ok vs → Keeps (center_rule sites tri) × (vs ≡ centers_to sites tri (length tri / 3))
  centers_ok h = centers_done (length tri / 3) (sym (centers_run (length tri / 3)) ∙ h)

  pub kept_centers : Keeps (center_rule sites tri) → centers_from sites tri 0 (length tri / 3) [] ≡ ok (centers_to sites tri (length tri / 3))
  kept_centers h = centers_run (length tri / 3) ∙ centers_kept (length tri / 3) h

  pub centers_refused : {f : Fault} → centers_from sites tri 0 (length tri / 3) [] ≡ refused f → Breaks (center_rule sites tri) f
  centers_refused {f} h =
      let w = run_refused center_step (length tri / 3) [] (sym (centers_run (length tri / 3)) ∙ h) in
      let d = pick_refused (ok_center (center_at sites tri w.0)) _ _ f w.4 in
      (w.0, record { within = omega (arith, w.2); before = (centers_done w.0 w.3).0; at = λ l p. true_false p d.0 }, w.2, d.1)

  pub broken_centers : {f : Fault} → Breaks (center_rule sites tri) f → centers_from sites tri 0 (length tri / 3) [] ≡ refused f
  broken_centers {f} (k, first, l, q) =
      centers_run (length tri / 3) ∙ refused_run center_step (length tri / 3) k [] (centers_to sites tri k) l (centers_kept k first.before)
      (refused_pick _ _ _ f (not_true (ok_center (center_at sites tri k)) (first.at l)) q)

  pub centers_length : (k : ℕ) → length (centers_to sites tri k) ≡ k
  unfolding centers_to
  centers_length zero = refl
  centers_length (suc k) = omega (arith, length-append (centers_to sites tri k) (center_at sites tri k ∷ []), centers_length k)

  pub centers_at : (k t : ℕ) → t < k → vertex_at (centers_to sites tri k) t ≡ center_at sites tri t
  unfolding centers_to
  centers_at zero t l = absurd (omega arith)
  centers_at (suc k) t l =
      ⊎_elim
      (λ m. get_or-append (centers_to sites tri k) (center_at sites tri k ∷ []) (at nan nan) t (omega (arith, centers_length k)) ∙ centers_at k t m)
      (λ m.
      let z : t ≡ k = omega arith in
      get_or_at (centers_to sites tri k) (center_at sites tri k) [] (at nan nan) t (omega (arith, centers_length k)) ∙ ap (center_at sites tri) (sym z))
      (lt_or_ge t k)

-- ---- extensions

module _ {sites : List Float} {tri he hull : List ℕ} (a : Accepted (mesh sites tri he hull)) (b : BoundingBox) where
  abbrev centers : List Point
  centers = centers_to sites tri (length tri / 3)

  abbrev edge_to : ℕ → ℕ
  edge_to i = get_or (leftmost_of tri he (site_count sites)) (next_site hull i) 0

  edge_there : (i : ℕ) → i < length hull → edge_to i / 3 < length tri / 3
  edge_there i l =
      let top = topology a in
      let w = top.border.edges i l in
      let s : next_site hull i < site_count sites = rw w.4 at (end_site top w.0 w.1) in
      let t = tab_some top (next_site hull i) s w.0 w.1 w.4 in
      omega (arith, t.0, top.same, top.threes)

  abbrev Over : List Point → Type 0
  Over vs = (m : ℕ) × Grown centers m vs

  -- the extension goes out from a circumcenter, which no added vertex changes
  same_extension : (vs : List Point) → Over vs → (i : ℕ) → i < length hull → extended sites tri vs (edge_to i) ≡ extension_at (mesh sites tri he hull) i
  unfolding extended
  same_extension vs g i l = rw (g.1.kept (edge_to i / 3) (omega (arith, edge_there i l, centers_length sites tri (length tri / 3)))) refl

  abbrev added : ℕ → Extensions → Extensions
  added i x =
      let r = add_vertex (length tri / 3) x.verts (extended sites tri x.verts (edge_to i)) in
      extensions r.verts (x.at ++ r.at ∷ []) (x.steps ++ took extension r ∷ [])

  abbrev finite_in : List Point → ℕ → Bool
  finite_in vs i = finite (extended sites tri vs (edge_to i)).x && finite (extended sites tri vs (edge_to i)).y

  abbrev extend_step : ℕ → Extensions → Outcome Fault Extensions
  extend_step i x = pick (finite_in x.verts i) (λ _. ok (added i x)) (λ _. refused (fault refused_extension i 0 0))

  extend_loop : (k i : ℕ) (x : Extensions) → extend_from sites tri hull (leftmost_of tri he (site_count sites)) (length tri / 3) i k x ≡ loop extend_step i k x
  unfolding extend_from loop
  extend_loop zero i x = refl
  extend_loop (suc k) i x =
      pick_then (finite_in x.verts i) (added i x) (fault refused_extension i 0 0) (loop extend_step (suc i) k)
      (extend_from sites tri hull (leftmost_of tri he (site_count sites)) (length tri / 3) (suc i) k) (extend_loop k (suc i) (added i x))

  abbrev begin : Extensions
  begin = extensions (centers ++ corners_of b) [] []

  extend_run : (k : ℕ) → extend_from sites tri hull (leftmost_of tri he (site_count sites)) (length tri / 3) 0 k begin ≡ run extend_step k begin
  extend_run k = extend_loop k 0 begin ∙ loop_run extend_step k begin

  abbrev Finite : ℕ → Type 0
  Finite i = (finite (extension_at (mesh sites tri he hull) i).x && finite (extension_at (mesh sites tri he hull) i).y) ≡ true

  begin_over : Over (centers ++ corners_of b)
  begin_over = (length (corners_of b), record { longer = length-append centers (corners_of b); kept = λ i l. get_or-append centers (corners_of b) (at nan nan) i l })

  abbrev ExtendDone : ℕ → Extensions → Type 0
  ExtendDone k x = ((u : ℕ) → u < k → Finite u) × Over x.verts

  add_over : (i : ℕ) (x : Extensions) → Over x.verts → Over (added i x).verts
  add_over i x g =
      let r = add_vertex_lem (length tri / 3) x.verts (extended sites tri x.verts (edge_to i)) (omega (arith, g.1.longer, centers_length sites tri (length tri / 3))) in
      (_, grown_then g.1 r.grown)

  extend_done : (k : ℕ) → k ≤ length hull → {x : Extensions} → run extend_step k begin ≡ ok x → ExtendDone k x
  unfolding run
  extend_done k most h =
      run_keeps extend_step ExtendDone 0 begin refl ((λ u l. absurd (omega arith)), begin_over) k (omega arith)
      (λ i u v lo hi at e d.
      let w = pick_ok (finite_in u.verts i) (added i u) v _ e in
      let s = same_extension u.verts d.1 i (omega arith) in
      let f : Finite i = rw s at w.0 in (
        (λ j l. ⊎_elim (λ m. d.0 j m) (λ m. let z : j ≡ i = omega arith in rw z f) (lt_or_ge j i)),
        rw w.1 (add_over i u d.1),
      ))
      h

  -- where the first k are finite there are k extensions
  extend_kept : (k : ℕ) → k ≤ length hull → ((u : ℕ) → u < k → Finite u) → (x : Extensions) × (run extend_step k begin ≡ ok x)
  unfolding run
  extend_kept zero most h = (begin, refl)
  extend_kept (suc k) most h =
      let w = extend_kept k (omega arith) (λ u l. h u (omega arith)) in
      let d = extend_done k (omega arith) w.1 in
      let f : finite_in w.0.verts k ≡ true = rw (same_extension w.0.verts d.1 k (omega arith)) (h k (omega arith)) in
      (added k w.0, then_ok (extend_step k) w.1 ∙ ok_pick _ _ _ f)

  pub extend_ok : {x : Extensions} → ExtendedTo (mesh sites tri he hull) b (length hull) x → Keeps (extension_rule (mesh sites tri he hull))
  extend_ok h = (extend_done (length hull) (omega arith) (sym (extend_run (length hull)) ∙ h)).0

  pub extend_grown : {x : Extensions} → ExtendedTo (mesh sites tri he hull) b (length hull) x → (m : ℕ) × Grown (centers_to sites tri (length tri / 3)) m x.verts
  extend_grown h = (extend_done (length hull) (omega arith) (sym (extend_run (length hull)) ∙ h)).1

  pub extend_refused : {f : Fault} → extend_from sites tri hull (leftmost_of tri he (site_count sites)) (length tri / 3) 0 (length hull)
      (extensions (centers_to sites tri (length tri / 3) ++ corners_of b) [] []) ≡ refused f → Breaks (extension_rule (mesh sites tri he hull)) f
  extend_refused {f} h =
      let w = run_refused extend_step (length hull) begin (sym (extend_run (length hull)) ∙ h) in
      let d = pick_refused (finite_in w.1.verts w.0) _ _ f w.4 in
      let g = extend_done w.0 (omega (arith, w.2)) w.3 in
      let s = same_extension w.1.verts g.1 w.0 w.2 in
      (w.0, record { within = omega (arith, w.2); before = g.0; at = λ l p. true_false p (rw s at d.0) }, w.2, d.1)

  pub broken_extend : {f : Fault} → Breaks (extension_rule (mesh sites tri he hull)) f → extend_from sites tri hull (leftmost_of tri he (site_count sites)) (length tri / 3) 0 (length hull)
      (extensions (centers_to sites tri (length tri / 3) ++ corners_of b) [] []) ≡ refused f
  broken_extend {f} (k, first, l, q) =
      let w = extend_kept k (omega arith) first.before in
      let d = extend_done k (omega arith) w.1 in
      let s = same_extension w.0.verts d.1 k l in
      let n : finite_in w.0.verts k ≡ false = rw s (not_true _ (first.at l)) in
      extend_run (length hull) ∙ refused_run extend_step (length hull) k begin w.0 l w.1 (refused_pick _ _ _ f n q)
