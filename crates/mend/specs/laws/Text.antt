-- The text by a list of changes that begins with those of pairs and goes on with those of the hull is the text of these changes; and there is room for it.
use Rattle.std.specs.Prelude.{◌≡◌, refl, Bool, true, false, List, [], ◌∷◌, ◌++◌, ◌≢◌, ℕ, ◌≤◌, eqb, length}
use Rattle.std.proofs.Common.{ap, ap₂, ◌∙◌, arith, eq-eqb, ne_eqb}
use Rattle.base.specs.common.Pick.{pick}
use Rattle.octets.specs.Bytes.{each}
use Rattle.octets.specs.Wrote.{Wrote}
use Rattle.printing.specs.parts.Text.{ascii}
use Rattle.printing.specs.parts.Labelled.{refusal}
use Rattle.printing.specs.parts.laws.Labelled.{refusal_short}
use Rattle.mending.specs.changes.Changes.{Difference, flat_changes}
use Rattle.mend.specs.change_lines.ChangeLines.{change_lines, counts_line}
use Rattle.mend.specs.box_line.BoxLine.{box_line}
use Rattle.mend.specs.text.MendText.{mend_text}
use Rattle.mend.specs.change_lines.laws.ChangeLines.{lines_shift}
use Rattle.mend.specs.text.laws.MendText.{text_short}
use Rattle.mend.specs.writer.Written.{written_form}
use Rattle.mend.specs.writer.FormOf.{length_written}
use Rattle.mend.specs.Printed.{change_line_of, changes_text}
use Rattle.mend.specs.Steps.{CanShow, shown_text}

-- the lines of the changes that a list begins with
lines_are : (label : List ℕ) (cs : List Difference) (rest : List ℕ) → change_lines label (flat_changes cs ++ rest) 0 (length cs) ≡ each (change_line_of label) cs
unfolding change_lines
lines_are label [] rest = refl
lines_are label (c ∷ cs) rest =
    ap (λ (t : List ℕ). change_line_of label c ++ t) (lines_shift label c.place c.was c.becomes (flat_changes cs ++ rest) (length cs) 0 ∙ lines_are label cs rest)

-- those after them
lines_after : (label : List ℕ) (cs : List Difference) (l : List ℕ) (n : ℕ) → change_lines label (flat_changes cs ++ l) (length cs) n ≡ change_lines label l 0 n
lines_after label [] l n = refl
lines_after label (c ∷ cs) l n = lines_shift label c.place c.was c.becomes (flat_changes cs ++ l) n (length cs) ∙ lines_after label cs l n

pub text_is : (first : List ℕ) (ps hs : List Difference) (rest : List ℕ)
    → mend_text first (flat_changes ps ++ (flat_changes hs ++ rest)) (length ps) (length hs) ≡ changes_text first ps hs
unfolding mend_text changes_text
text_is first ps hs rest =
    ap₂ (λ (a b : List ℕ). box_line first ++ a ++ b ++ counts_line (length ps) (length hs))
    (lines_are (ascii "pair") ps (flat_changes hs ++ rest))
    (lines_after (ascii "hull") ps (flat_changes hs ++ rest) (length hs) ∙ lines_are (ascii "hull") hs rest)

-- ---- room

module _ {first records tri he hull list : List ℕ} {p h space : ℕ} (c : CanShow first records tri he hull list p h space) where
  pub form_room : length (written_form first records tri he hull) ≤ space
  form_room = omega (arith, length_written first records tri he hull, c.head, c.few_triangles, c.few_on_hull, c.room)

  pub text_room : length (mend_text first list p h) ≤ space
  text_room = omega (arith, text_short first list p h, c.few_changes, c.room)

module _ (number : ℕ) (form : Bool) (first records tri he hull list : List ℕ) (p h : ℕ) where
  abbrev shown_here : List ℕ
  shown_here = shown_text number form first records tri he hull list p h

  pub shown_refused : {l m : List ℕ} {r : ℕ} → number ≢ 0 → Wrote l m 0 r (refusal number) → Wrote l m 0 r shown_here
  shown_refused n w = rw (ne_eqb number 0 n) w

  pub shown_form : {l m : List ℕ} {r : ℕ} → number ≡ 0 → form ≡ true → Wrote l m 0 r (written_form first records tri he hull) → Wrote l m 0 r shown_here
  shown_form e f w = rw (eq-eqb number 0 e, f) w

  pub shown_lines : {l m : List ℕ} {r : ℕ} → number ≡ 0 → form ≡ false → Wrote l m 0 r (mend_text first list p h) → Wrote l m 0 r shown_here
  shown_lines e f w = rw (eq-eqb number 0 e, f) w

  module _ {space : ℕ} (c : CanShow first records tri he hull list p h space) where
    by_way : (f : Bool) → length (pick f (λ _. written_form first records tri he hull) (λ _. mend_text first list p h)) ≤ space
    by_way true = form_room c
    by_way false = text_room c

    by_number : (z : Bool) → length (pick z (λ _. pick form (λ _. written_form first records tri he hull) (λ _. mend_text first list p h)) (λ _. refusal number)) ≤ space
    by_number true = by_way form
    by_number false = omega (arith, refusal_short number, c.room)

    pub shown_room : length shown_here ≤ space
    shown_room = by_number (eqb number 0)
