-- A mending's answer and its lent slices give the text that is promised: a refusal's line by its number, or what was asked for.
use Rattle.std.specs.Prelude.{◌≡◌, refl, Bool, true, false, List, ◌++◌, ◌≢◌, ℕ, ◌+◌, ◌-◌, ◌*◌, ◌≤◌, Float, length, take, replicate}
use Rattle.std.proofs.Common.{sym, ap, ◌∙◌, append_assoc, ⊎_elim, arith, length-append, take_at, eq-eqb, ne_eqb}
use Rattle.std.proofs.lemmas.List.{length-replicate}
use Rattle.base.specs.common.Pick.{pick}
use Rattle.base.specs.common.laws.Decide.{eq_or_ne}
use Rattle.base.specs.numbers.Numbers.{EMPTY}
use Rattle.octets.specs.Wrote.{Wrote}
use Rattle.octets.specs.laws.Wrote.{wrote_all}
use Rattle.mesh.specs.Accepted.{mesh, site_count}
use Rattle.mesh_check.specs.whole.AtExit.{at_exit}
use Rattle.mending.specs.pairs.Pairs.{pairs_of}
use Rattle.mending.specs.pairs.laws.Mates.{pairs_length}
use Rattle.mending.specs.changes.Changes.{Difference, flat_changes}
use Rattle.mending.specs.changes.laws.Listing.{flat_append, flat_length}
use Rattle.mending.specs.slices.Lent.{Lent, filled}
use Rattle.mending.specs.Mending.{mend_room_of, new_hull, pair_changes, hull_changes, when_made, Mends}
use Rattle.form.specs.Limits.{most_sites, most_hull, most_links}
use Rattle.mend.specs.writer.Written.{written_form}
use Rattle.mend.specs.boxes.Option.{IsOption, number_with}
use Rattle.mend.specs.boxes.laws.Option.{number_zero}
use Rattle.mend.specs.Printed.{changes_text}
use Rattle.mend.specs.Steps.{MendSized, CanShow, shown_text, ListsNumber, OfLists, refused, mended}
use Rattle.mend.specs.laws.Room.{with_box_lem}
use Rattle.mend.specs.laws.Text.{text_is, shown_room}

-- ---- lists

-- a list that a slice is filled with is no longer than the slice
filled_fits : (w : ℕ) (l : List ℕ) → length (filled w l) ≡ w → length l ≤ w
filled_fits w l h = omega (arith, length-append l (replicate (w - length l) EMPTY), length-replicate {A = ℕ} (w - length l) EMPTY)

-- ---- the slices of the program

-- as long as every form needs them
pub record ProgramLent (l : Lent) : Type 0 where
  pub work : length l.work ≡ most_sites
  pub pairs : length l.pairs ≡ most_links
  pub mended : length l.mended ≡ most_hull
  pub changes : length l.changes ≡ 3 * (most_links + most_hull)

roomy : {bytes hull space : ℕ} (sites : List Float) (tri : List ℕ) (l : Lent) → ProgramLent l → MendSized bytes (length sites) (length tri) hull space → mend_room_of sites tri l
roomy sites tri l a s =
    record {
      for_work = omega (arith, a.work, s.few_sites);
      for_pairs = omega (arith, a.pairs, s.few_triangles);
      for_hull = omega (arith, a.mended, s.few_sites);
      for_changes = omega (arith, a.changes, s.few_sites, s.few_triangles);
    }

module _ (sites : List Float) (tri he hull : List ℕ) (old new : Lent) (r k p q : ℕ) (m : Mends (mesh sites tri he hull) old new r k p q) (a : ProgramLent old) (b : ProgramLent new) where
  abbrev n : ℕ
  n = site_count sites

  abbrev ps : List Difference
  ps = pair_changes tri he

  abbrev hs : List Difference
  hs = hull_changes tri hull n

  -- after 0
  module _ (z : r ≡ 0) where
    made : (l before : List ℕ) → at_exit EMPTY l before r ≡ l
    unfolding at_exit
    made l before = rw (eq-eqb r 0 z)

    worth : (x : ℕ) → when_made r x ≡ x
    unfolding when_made
    worth x = rw (eq-eqb r 0 z)

    pairs_are : take (length tri) new.pairs ≡ pairs_of tri
    pairs_are = ap (take (length tri)) (m.outcome.pairs ∙ made _ _) ∙ take_at (pairs_of tri) _ (length tri) (pairs_length tri (length tri))

    hull_is : take k new.mended ≡ new_hull tri hull n
    hull_is = ap (take k) (m.outcome.mended ∙ made _ _) ∙ take_at (new_hull tri hull n) _ k (sym (m.outcome.hull_length ∙ worth _))

    changes_are : new.changes ≡ filled (length old.changes) (flat_changes (ps ++ hs))
    changes_are = m.outcome.changes ∙ made _ _

    listed : new.changes ≡ flat_changes ps ++ (flat_changes hs ++ replicate (length old.changes - length (flat_changes (ps ++ hs))) EMPTY)
    listed = changes_are ∙ ap (λ (l : List ℕ). l ++ replicate (length old.changes - length (flat_changes (ps ++ hs))) EMPTY) (flat_append ps hs)
        ∙ append_assoc (flat_changes ps) (flat_changes hs) _

    few_made : (k ≤ most_hull) × (p + q ≤ most_links + most_hull)
    few_made =
        let x : length (filled (length old.mended) (new_hull tri hull n)) ≡ length old.mended = sym (ap length (m.outcome.mended ∙ made _ _)) ∙ b.mended ∙ sym a.mended in
        let y : length (filled (length old.changes) (flat_changes (ps ++ hs))) ≡ length old.changes = sym (ap length changes_are) ∙ b.changes ∙ sym a.changes in (
          omega (arith, filled_fits _ (new_hull tri hull n) x, m.outcome.hull_length ∙ worth _, a.mended),
          omega (
            arith,
            filled_fits _ (flat_changes (ps ++ hs)) y,
            flat_length (ps ++ hs),
            length-append ps hs,
            m.outcome.pair_changes_lem ∙ worth _,
            m.outcome.hull_changes_lem ∙ worth _,
            a.changes,
          ),
        )

  -- after a refusal the numbers are 0
  none : r ≢ 0 → (x : ℕ) → when_made r x ≡ 0
  unfolding when_made
  none z x = rw (ne_eqb r 0 z)

  pub few : (k ≤ most_hull) × (p + q ≤ most_links + most_hull)
  few =
      ⊎_elim
      few_made
      (λ z. (omega (arith, m.outcome.hull_length ∙ none z _), omega (arith, m.outcome.pair_changes_lem ∙ none z _, m.outcome.hull_changes_lem ∙ none z _)))
      (eq_or_ne r 0)

  -- ---- the text
  module _ (form : Bool) (first records : List ℕ) (i : IsOption first) where
    abbrev Text : List ℕ → Type 0
    Text = OfLists form first records sites tri he hull

    abbrev Number : ℕ → Type 0
    Number = ListsNumber form first records sites tri he hull

    abbrev shown_here : ℕ → List ℕ
    shown_here x = shown_text x form first records tri (take (length tri) new.pairs) (take k new.mended) new.changes p q

    number_of : mend_room_of sites tri old → Number (number_with first r)
    number_of room = with_box_lem sites tri he hull first i r (mend_room_of sites tri old) room m.number

    made_text : (f : Bool) → form ≡ f → r ≡ 0 → Number 0 → Text (shown_here 0)
    made_text true e z x =
        let t : Text (pick form (λ _. written_form first records tri (pairs_of tri) (new_hull tri hull n)) (λ _. changes_text first ps hs)) = mended x in
        let u = rw e at t in
        rw (e, pairs_are z, hull_is z) u
    made_text false e z x =
        let t : Text (pick form (λ _. written_form first records tri (pairs_of tri) (new_hull tri hull n)) (λ _. changes_text first ps hs)) = mended x in
        rw (e, listed z, m.outcome.pair_changes_lem ∙ worth z _, m.outcome.hull_changes_lem ∙ worth z _, text_is first ps hs _) (rw e at t)

    shows : mend_room_of sites tri old → Text (shown_here (number_with first r))
    shows room =
        ⊎_elim
        (λ z. rw z (made_text form refl (number_zero first r z) (rw z at (number_of room))))
        (λ z. rw (ne_eqb (number_with first r) 0 z) (refused (number_of room) z))
        (eq_or_ne (number_with first r) 0)

    -- it stands at the beginning of the output
    pub held : {l out : List ℕ} {j count bytes border space number : ℕ} → count ≡ k → number ≡ number_with first r → MendSized bytes (length sites) (length tri) border space
        → CanShow first records tri (take (length tri) new.pairs) (take count new.mended) new.changes p q (length l)
        → Wrote l out 0 j (shown_text number form first records tri (take (length tri) new.pairs) (take count new.mended) new.changes p q)
        → Text (take j out) × (j ≤ length l)
    held {l} {out} {j} {count} {number = number} e y sized c w =
        let fits = shown_room number form first records tri _ _ new.changes p q c in
        let w' : Wrote l out 0 j (shown_here (number_with first r)) = rw (e, y) at w in
        let f : length (shown_here (number_with first r)) ≤ length l = rw (e, y) at fits in
        (rw (wrote_all w' f) (shows (roomy sites tri old a sized)), omega (arith, w'.place))
