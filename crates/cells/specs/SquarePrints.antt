-- Theorem: the checked listing on the promises: for the 172 bytes of "square" `cells` prints the text of docs/use/RULES.md and nothing else, and a build of its mesh, with room, answers 0.
use Rattle.std.specs.Prelude.{◌≡◌, refl, true, List, ℕ, Float}
use Rattle.std.proofs.Common.{sym, subst, arith}
use Rattle.std.specs.Float.Ieee.{of_bits, neg, lt, le, add, sub, div}
use Rattle.printing.specs.OfForm.{mesh_of, sound}
use Rattle.printing.specs.Printed.{Shows, built, Prints}
use Rattle.cells.specs.Printed.{listing_of, listing_text}
use Rattle.plane.specs.points.Plane.{at}
use Rattle.plane.specs.points.Rules.{ok_coord, ok_site}
use Rattle.plane.specs.boxes.Box.{made_of}
use Rattle.plane.specs.boxes.Rules.{ok_box}
use Rattle.plane.specs.given.Given.{by_size}
use Rattle.mesh.specs.Accepted.{mesh, Accepted}
use Rattle.mesh.specs.Square as lists
use Rattle.admission.specs.laws.Admits.{admits}
use Rattle.definition.specs.declared.Fault.{Fault}
use Rattle.definition.specs.Fault.{Outcome, ok, refused}
use Rattle.definition.specs.Build.{Built}
use Rattle.arguments.specs.asking.laws.Asks.{box_answers}
use Rattle.admission.specs.Slices.{Slices, room_of}
use Rattle.building.specs.answers.Success.{Value, succeeds_zero}
use Rattle.building.specs.answers.Promise.{Build}
use Rattle.octets.specs.Bytes.{each}
use Rattle.form.specs.Form.{MeshFits, float, site_floats}
use Rattle.form.specs.Square.{square, square_bytes, two_is}
use Rattle.printing.specs.parts.Text.{ascii}
use Rattle.printing.specs.One.{prints_one}
use Rattle.cells.specs.Square.{texted, rows}

abbrev pub text : List ℕ
text = ascii "sites 4 triangles 2 vertices 14\ncell 0: 1 10 2 11 0\ncell 1: 0 11 3 12\ncell 2: 0 12 4 13 1\ncell 3: 1 13 5 10\ncorners 0 1 2 3 lost 0\nreused 0 4 0\n"

-- ---- the mesh of "square"
same_sites : lists.sites ≡ each site_floats square.sites
unfolding of_bits neg
same_sites = refl

accepted : Accepted (mesh_of square)
accepted = subst (λ (l : List Float). Accepted (mesh l lists.tri lists.he lists.hull)) same_sites lists.square_accepted

fits : MeshFits square
fits = record {
  clip = (omega arith, omega arith, omega arith, omega arith);
  sites = ((omega arith, omega arith), ((omega arith, omega arith), ((omega arith, omega arith), ((omega arith, omega arith), tt))));
  triangles = (
    (omega arith, omega arith, omega arith, omega arith, omega arith, omega arith),
    ((omega arith, omega arith, omega arith, omega arith, omega arith, omega arith), tt),
  );
  hull = (omega arith, (omega arith, (omega arith, (omega arith, tt))));
  few_sites = omega arith;
  few_triangles = omega arith;
  few_hull = omega arith;
}

box_fits : ok_box (at (float 0) (float 0)) (float two_is) (float two_is) ≡ true
unfolding ok_box ok_site ok_coord made_of of_bits lt le add sub div
box_fits = refl

-- ---- what is printed
shown : {Rules : ℕ → Type 0} → Rules 0 → (o : Outcome Fault Built) (t : List ℕ) → texted 4 2 o ≡ ok t → Shows Rules (listing_of 4 2) o t
shown {Rules} z (ok b) t e = let q : listing_of 4 2 b ≡ t = cc in subst (Shows Rules (listing_of 4 2) (ok b)) q (built z)
shown z (refused f) t e = let q : ◌≡◌ {A = ℕ} 0 1 = cc in absurd (omega arith)

pub square_prints : Prints listing_text square_bytes text
square_prints =
    sound square (by_size (at (float 0) (float 0)) (float two_is) (float two_is)) fits (sym rows.1) refl
    (shown (admits (record { accepted = accepted; roomed = refl; fit = (box_fits, tt) })) _ text rows.2)

pub square_alone : {t : List ℕ} → Prints listing_text square_bytes t → t ≡ text
square_alone p = prints_one listing_text p square_prints

-- ---- what a build answers
value : (o : Outcome Fault Built) (t : List ℕ) → texted 4 2 o ≡ ok t → Value o
value (ok b) t e = record { value = b; is = refl }
value (refused f) t e = let q : ◌≡◌ {A = ℕ} 0 1 = cc in absurd (omega arith)

pub square_answers : {old new : Slices} {r : ℕ} → Build (mesh_of square) (by_size (at (float 0) (float 0)) (float two_is) (float two_is)) old new r
    → room_of (mesh_of square) old ≡ true → r ≡ 0
square_answers a room = succeeds_zero (box_answers _) (record { admission = record { accepted = accepted; roomed = room; fit = (box_fits, tt) }; outcome = value _ text rows.2 }) a
