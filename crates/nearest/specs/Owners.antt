-- Theorem: where `nearest` prints `nearest`, each gauge of the form is in use, its box keeps rule 3, and in the build of the same form, in that box, the owner of each
-- corner is a gauge of least distance to it over all gauges, in whole numbers and as computed. So the line `corners` that `cells` prints for it names nearest gauges.
use Rattle.std.specs.Prelude.{◌≡◌, ℕ, ◌+◌, ◌*◌, ◌/◌, ◌<◌, ◌≤◌, Bool, true, false, ◌≢◌, List, length, ◌==◌, slice_index, slice_index_or, refl, Ok, Err}
use Rattle.std.proofs.Common.{sym, ◌∙◌, arith, eqb-true}
use Rattle.std.proofs.Math.Path.{ap, subst}
use Rattle.std.proofs.lemmas.Bool.{eqb-false}
use Rattle.std.specs.Float.{nan}
use Rattle.std.proofs.lemmas.List.{length-map}
use Rattle.base.specs.common.Pick.{pick}
use Rattle.base.specs.common.laws.Refusals.{Answers, finds_answers}
use Rattle.base.specs.numbers.Numbers.{EMPTY, refused_count, refused_box, refused_grid}
use Rattle.plane.specs.points.Plane.{at}
use Rattle.plane.specs.points.Rules.{ok_site}
use Rattle.plane.specs.declared.given.Given.{Given}
use Rattle.plane.specs.boxes.Box.{corners_of}
use Rattle.mesh.specs.Mesh.{Used}
use Rattle.mesh.specs.Accepted.{Mesh, Accepted, Counted, Topology, site_count}
use Rattle.mesh.specs.laws.Facts.{few_entries}
use Rattle.mesh.specs.laws.Verdicts.{keep_topology}
use Rattle.grid.specs.Plane.{WithinAt}
use Rattle.grid.specs.check.Promise.{GridMesh}
use Rattle.grid.specs.nearest.Promise.{nearest_rules, NearestChecks}
use Rattle.grid.specs.nearest.Judged.{nearest_number, nearest_kind}
use Rattle.grid.specs.nearest.Yes.{yes_keeps, yes_holds, all_used}
use Rattle.definition.specs.Fault.{ok}
use Rattle.definition.specs.Build.{Built, build}
use Rattle.definition.specs.laws.Gives.{gives_ok}
use Rattle.build_laws.specs.laws.CellCount.{CellsTallied, tallied}
use Rattle.nearest_laws.specs.Admitted.{AdmittedPoint, AreWhole}
use Rattle.nearest_laws.specs.Profile.{NearestOf, owns_nearest_of}
use Rattle.form.specs.Form.{FormMesh, form_of}
use Rattle.form.specs.mesh.Read.{BoxOf}
use Rattle.printing.specs.OfForm.{mesh_of, sound, broken}
use Rattle.printing.specs.parts.Text.{ascii}
use Rattle.nearest.specs.declared.line.Offence.TheVariants.{Triangle, Halfedge, HullPlace, Unused, Corner, OffGrid, Refused}
use Rattle.nearest.specs.line.NearestLine.{NearestLine, number_line, corner_line, nearest_line}
use Rattle.nearest.specs.whole_sites.Whole.{whole_number, wholes_of}
use Rattle.nearest.specs.whole_sites.Value.{sites_whole, coordinate_kept}
use Rattle.nearest.specs.corners.Tried.{off_corner}
use Rattle.nearest.specs.corners.Admits.{tried_corners}
use Rattle.nearest.specs.Printed.{kind_line, with_box, answer_line, NearestTold, grid_of, ToldOfMesh, FormLine, NearestPrints}

-- a mesh in a box whose corners have nearest owners
pub record OwnersNearest (m : Mesh) (g : Given) : Type 0 where
  pub accepted : Accepted m
  pub sound : g.sound ≡ true
  pub in_use : (s : ℕ) → s < site_count m.sites → Used m.triangles s
  -- each corner is an admitted destination
  pub units : (c : ℕ) → c < 4 → ℕ
  pub admitted : (c : ℕ) (l : c < 4) → AdmittedPoint (units c l) (slice_index_or (corners_of g.bounds) c (at nan nan))
  -- the owners of the build
  pub owners : (b : Built) → build m g.bounds ≡ ok b → (c : ℕ) (l : c < 4) → NearestOf (wholes_of m.sites) m.sites m.triangles (admitted c l) (slice_index b.owners c)

-- the mesh and the box of a form
pub record FormNearest (s : List ℕ) : Type 0 where
  pub mesh : FormMesh
  pub bytes : s ≡ form_of mesh
  pub given : Given
  pub box_of : BoxOf mesh.clip given
  pub nearest : OwnersNearest (mesh_of mesh) given

-- ---- which line it is
abbrev byte : ℕ → List ℕ → ℕ
byte i l = slice_index l i

abbrev yes : List ℕ
yes = ascii "nearest\n"

-- no other line has its text
alone : (l : NearestLine) → yes ≡ nearest_line l → l ≡ Ok tt
unfolding number_line corner_line
alone (Ok _) e = refl
alone (Err (Triangle t)) e = absurd (omega (arith, ap (byte 0) e))
alone (Err (Halfedge t)) e = absurd (omega (arith, ap (byte 0) e))
alone (Err (HullPlace t)) e = absurd (omega (arith, ap (byte 0) e))
alone (Err (Unused t)) e = absurd (omega (arith, ap (byte 0) e))
alone (Err (Corner t)) e = absurd (omega (arith, ap (byte 0) e))
alone (Err (OffGrid t)) e = absurd (omega (arith, ap (byte 1) e))
alone (Err (Refused t)) e = absurd (omega (arith, ap (byte 0) e))

-- a number for each line, to tell them apart
abbrev told_by_lem : NearestLine → ℕ
told_by_lem (Ok _) = 1
told_by_lem (Err (Triangle t)) = 0
told_by_lem (Err (Halfedge e)) = 0
told_by_lem (Err (HullPlace i)) = 0
told_by_lem (Err (Unused s)) = 0
told_by_lem (Err (Corner c)) = 0
told_by_lem (Err (OffGrid s)) = 0
told_by_lem (Err (Refused n)) = 0

other : {l : NearestLine} → told_by_lem l ≡ 0 → l ≢ Ok tt
other z e = absurd (omega (arith, z, ap told_by_lem e))

-- the numbers behind the line
kind_says : (kind place unused corner : ℕ) → kind_line kind place unused corner ≡ Ok tt → (kind ≢ 1) × (kind ≢ 2) × (kind ≢ 3) × (unused ≡ EMPTY) × (corner ≡ 4)
unfolding kind_line
kind_says kind place unused corner h = go (kind == 1) refl (kind == 2) refl (kind == 3) refl (unused == EMPTY) refl (corner == 4) refl h
  where
    go : (a : Bool) → (kind == 1) ≡ a → (b : Bool) → (kind == 2) ≡ b → (c : Bool) → (kind == 3) ≡ c → (d : Bool) → (unused == EMPTY) ≡ d → (e : Bool) → (corner == 4) ≡ e
        → ◌≡◌ {A = NearestLine} (pick a (λ _. Err (Triangle place)) (λ _. pick b (λ _. Err (Halfedge place)) (λ _. pick c (λ _. Err (HullPlace place))
        (λ _. pick d (λ _. pick e (λ _. Ok tt) (λ _. Err (Corner corner))) (λ _. Err (Unused unused)))))) (Ok tt)
        → (kind ≢ 1) × (kind ≢ 2) × (kind ≢ 3) × (unused ≡ EMPTY) × (corner ≡ 4)
    go true p b q c r d s e t h = absurd (other refl h)
    go false p true q c r d s e t h = absurd (other refl h)
    go false p false q true r d s e t h = absurd (other refl h)
    go false p false q false r false s e t h = absurd (other refl h)
    go false p false q false r true s false t h = absurd (other refl h)
    go false p false q false r true s true t h = (eqb-false kind 1 p, eqb-false kind 2 q, eqb-false kind 3 r, eqb-true unused EMPTY s, eqb-true corner 4 t)

answer_says : (number kind place unused corner beyond : ℕ) → answer_line number kind place unused corner beyond ≡ Ok tt → (number ≡ 0) × (kind_line kind place unused corner ≡ Ok tt)
unfolding answer_line
answer_says number kind place unused corner beyond h = go (number == refused_grid) (number == 0) refl h
  where
    go : (a b : Bool) → (number == 0) ≡ b → ◌≡◌ {A = NearestLine} (pick a (λ _. Err (OffGrid beyond)) (λ _. pick b (λ _. kind_line kind place unused corner) (λ _. Err (Refused number)))) (Ok tt)
        → (number ≡ 0) × (kind_line kind place unused corner ≡ Ok tt)
    go true b q h = absurd (other refl h)
    go false true q h = (eqb-true number 0 q, h)
    go false false q h = absurd (other refl h)

box_says : (b : Bool) (number : ℕ) → with_box b number ≡ 0 → (b ≡ true) × (number ≡ 0)
unfolding with_box
box_says true number h = (refl, h)
box_says false number h = go (number == refused_count) refl h
  where
    go : (a : Bool) → (number == refused_count) ≡ a → pick a (λ _. number) (λ _. refused_box) ≡ 0 → (false ≡ true) × (number ≡ 0)
    go true q h = absurd (omega (arith, eqb-true number refused_count q))
    go false q h = absurd (omega arith)

-- a kind of none of the three is yes, where nothing was refused
kind_yes : {m : GridMesh} {old new : List ℕ} {r kind place unused : ℕ} → NearestChecks m old new r kind place unused → r ≡ 0
    → kind ≢ 1 → kind ≢ 2 → kind ≢ 3 → kind ≡ 0
kind_yes {m} {old} {kind = kind} x z p q r =
    let low : kind ≤ 3 = omega (arith, x.kind_is, finds_answers (λ a. nearest_number a ≡ 0 → nearest_kind a ≤ 3) (λ _. omega arith) all x.found (sym x.number ∙ z)) in
    omega (arith, low, p, q, r)
  where
    all : Answers (λ a. nearest_number a ≡ 0 → nearest_kind a ≤ 3) (nearest_rules m (length old))
    all = (
      λ _ h. omega arith,
      (
        λ _ h. omega arith,
        (
          λ _ h. omega arith,
          (
            λ _ h. omega arith,
            (
              λ _ h. omega arith,
              (
                λ _ h. omega arith,
                (
                  λ _ h. omega arith,
                  (λ _ h. omega arith, (λ _ h. omega arith, (λ _ h. omega arith, (λ _ h. omega arith, (λ _ h. omega arith, tt))))),
                ),
              ),
            ),
          ),
        ),
      ),
    )

-- ---- the mesh
module _ (m : Mesh) (g : Given) (x : NearestTold g (grid_of m) (Ok tt)) where
  says : (with_box g.sound x.number ≡ 0) × (kind_line x.kind x.place x.unused (off_corner g.bounds) ≡ Ok tt)
  says = answer_says _ _ _ _ _ _ (sym x.line)

  in_box_lem : (g.sound ≡ true) × (x.number ≡ 0)
  in_box_lem = box_says g.sound x.number says.0

  clear : (x.kind ≢ 1) × (x.kind ≢ 2) × (x.kind ≢ 3) × (x.unused ≡ EMPTY) × (off_corner g.bounds ≡ 4)
  clear = kind_says _ _ _ _ says.1

  zero_kind : x.kind ≡ 0
  zero_kind = kind_yes x.checks in_box_lem.1 clear.0 clear.1 clear.2

  many : length (wholes_of m.sites) ≡ length m.sites
  many = length-map m.sites whole_number

  counts : Counted (length m.sites) (length m.triangles) (length m.halfedges) (length m.hull)
  counts =
      subst (λ n. Counted n (length m.triangles) (length m.halfedges) (length m.hull)) many (yes_holds _ _ _ _ _ _ _ x.checks zero_kind).counts

  inside : (s : ℕ) → s < length (wholes_of m.sites) / 2 → WithinAt (wholes_of m.sites) s
  inside = (yes_holds _ _ _ _ _ _ _ x.checks zero_kind).within

  whole : AreWhole (wholes_of m.sites) m.sites
  whole = sites_whole m.sites counts.even inside

  mesh_accepted : Accepted m
  unfolding ok_site
  mesh_accepted =
      let t = (yes_keeps _ _ _ _ _ _ _ x.checks zero_kind).1.1.1 in
      let sites : site_count m.sites ≡ length (wholes_of m.sites) / 2 = ap (λ n. n / 2) (sym many) in
      record {
        counts = counts;
        coordinates = λ s l. rw (coordinate_kept m.sites counts.even inside (2 * s) (omega (arith, l)), coordinate_kept m.sites counts.even inside (2 * s + 1) (omega (arith, l)));
        topology = subst (Topology m.triangles m.halfedges m.hull) (sym sites)
            (keep_topology m.triangles m.halfedges m.hull (length (wholes_of m.sites) / 2) counts.threes counts.same (few_entries counts)
            (t.0, (t.1.0, (t.1.1.0, (t.1.1.1.0, (t.1.1.1.1.0, tt))))));
      }

  owners_nearest : OwnersNearest m g
  owners_nearest =
      let holds = yes_holds _ _ _ _ _ _ _ x.checks zero_kind in
      let at_corner = tried_corners g.bounds clear.4 in
      record {
        accepted = mesh_accepted;
        sound = in_box_lem.0;
        in_use = λ s l. all_used _ _ _ _ _ _ _ x.checks in_box_lem.1 clear.3 s (omega (arith, l, many)) (omega (arith, holds.counts.few_sites));
        units = λ c l. (at_corner c l).0;
        admitted = λ c l. (at_corner c l).1;
        owners = λ b is c l.
            let seen = gives_ok (CellsTallied m g.bounds) (tallied m g.bounds) is in
            rw seen.found (owns_nearest_of (wholes_of m.sites) whole mesh_accepted holds.within holds.turns holds.circles holds.corners holds.lone g.bounds
            (λ c l. (at_corner c l).0) (λ c l. (at_corner c l).1) c l);
      }

-- ---- the form
by_line : {s : List ℕ} {l : NearestLine} → FormLine s l → l ≡ Ok tt → FormNearest s
by_line (sound m g f e b x) q = record { mesh = m; bytes = e; given = g; box_of = b; nearest = owners_nearest (mesh_of m) g (subst (ToldOfMesh (mesh_of m) g) q x) }
by_line (broken p n) q = absurd (other refl q)

pub nearest_owners : {s : List ℕ} → NearestPrints s (ascii "nearest\n") → FormNearest s
nearest_owners p = by_line p.true (alone p.line p.shown)
