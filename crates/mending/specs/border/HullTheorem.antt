-- Theorem: the loop is the hull of these triangles and pairs wherever they have one, it begins where the request says, and it alone does.
use Rattle.std.specs.Prelude.{◌≡◌, List, ◌≢◌, ℕ, ◌≤◌, ◌<◌, length, get_or}
use Rattle.std.proofs.Common.{sym, ap, ◌∙◌, ⊎_elim, arith}
use Rattle.std.proofs.Math.ListN.{get_or-eq_default}
use Rattle.base.specs.common.laws.Decide.{lt_or_ge, eq_or_ne}
use Rattle.base.specs.numbers.Numbers.{EMPTY}
use Rattle.mesh.specs.Mesh.{pair_of, start_of}
use Rattle.mending.specs.pairs.Chains.{NamesSites}
use Rattle.mending.specs.changes.laws.Listing.{entry_any}
use Rattle.mending.specs.border.Loop.{lead_table, lowest_to, loop_begin, loop_of, hull_of}
use Rattle.mending.specs.border.Answer.{IsHull, HasHull}
use Rattle.mending.specs.border.laws.Leads.{leads_length, leads_on, lowest_is, begins_first, begins_lowest, begins_cases}
use Rattle.mending.specs.border.laws.Round.{round_first, round_same, on_hull_lem, loop_round}
use Rattle.mending.specs.border.laws.Deciding.{hull_traced}

-- an unpaired half-edge starts at site s
abbrev pub Starts : List ℕ → List ℕ → ℕ → Type 0
Starts tri he s = (e : ℕ) × (e < length tri) × (pair_of he e ≡ EMPTY) × (start_of tri e ≡ s)

-- the list begins at the site `first` if an unpaired half-edge starts there, else at the lowest site where one does
pub record Begins (tri he : List ℕ) (first : ℕ) (h : List ℕ) : Type 0 where
  pub kept : Starts tri he first → get_or h 0 0 ≡ first
  pub lowest : (Starts tri he first → ⊥) → (s : ℕ) → Starts tri he s → get_or h 0 0 ≤ s

module _ (tri he : List ℕ) (sites : ℕ) (named : NamesSites tri sites) (same : length he ≡ length tri) (small : sites < EMPTY) where
  few : sites ≤ EMPTY
  few = omega arith

  abbrev t : List ℕ
  t = lead_table tri he sites

  long : length t ≡ sites
  long = leads_length tri he sites (length tri)

  starts_site : (s : ℕ) → Starts tri he s → s < sites
  starts_site s (e, l, u, q) = rw (← q) (named.named e l)

  starts_leads : (s : ℕ) → Starts tri he s → get_or t s 0 ≢ EMPTY
  starts_leads s x z = (leads_on tri he sites named few s (starts_site s x)).none z x.0 x.1 x.2 x.3

  leads_starts : (s : ℕ) → s < sites → get_or t s 0 ≢ EMPTY → Starts tri he s
  leads_starts s l z = let o = (leads_on tri he sites named few s l).some z in (o.0, o.1, o.2, o.3)

  module _ (first : ℕ) where
    first_begins : Starts tri he first → loop_begin t first ≡ first
    first_begins x = begins_first t first (λ z. starts_leads first x (entry_any t first (rw long (starts_site first x)) ∙ z))

    lowest_begins : (Starts tri he first → ⊥) → get_or t first EMPTY ≡ EMPTY
    lowest_begins n =
        ⊎_elim
        (λ l. ⊎_elim
        (λ z. sym (entry_any t first l) ∙ z)
        (λ z. absurd (n (leads_starts first (rw long at l) z)))
        (eq_or_ne (get_or t first 0) EMPTY))
        (λ l. get_or-eq_default t EMPTY l)
        (lt_or_ge first (length t))

    module _ (h : List ℕ) (is : IsHull tri he sites h) where
      three : 0 < length h
      three = omega (arith, is.three)

      begins_there : Starts tri he (get_or h 0 0)
      begins_there = let o = is.hull.edges 0 three in (o.0, rw same at o.1, o.2, o.3)

      begins_same : Begins tri he first h → loop_begin t first ≡ get_or h 0 0
      begins_same g =
          ⊎_elim
          (λ z.
          let n : Starts tri he first → ⊥ = λ x. starts_leads first x (any_zero z x) in
          let q = begins_lowest t first z in
          let m = lowest_is t (length t) (rw long few) in
          ⊎_elim
          (λ e. absurd (starts_leads (get_or h 0 0) begins_there (m.none e (get_or h 0 0) (omega (arith, (is.hull.fresh 0 three).0, long)))))
          (λ e.
          let s = m.some e in
          let a = g.lowest n (lowest_to t (length t)) (leads_starts (lowest_to t (length t)) (omega (arith, s.0, long)) s.1) in
          ⊎_elim
          (λ k. absurd (starts_leads (get_or h 0 0) begins_there (m.least e (get_or h 0 0) k)))
          (λ k. q ∙ omega arith)
          (lt_or_ge (get_or h 0 0) (lowest_to t (length t))))
          (eq_or_ne (lowest_to t (length t)) EMPTY))
          (λ z.
          let b = begins_first t first z in
          ⊎_elim
          (λ l. b ∙ sym (g.kept (leads_starts first (rw long at l) (λ y. z (sym (entry_any t first l) ∙ y)))))
          (λ l. absurd (z (get_or-eq_default t EMPTY l)))
          (lt_or_ge first (length t)))
          (eq_or_ne (get_or t first EMPTY) EMPTY)
        where
          any_zero : get_or t first EMPTY ≡ EMPTY → Starts tri he first → get_or t first 0 ≡ EMPTY
          any_zero z x = entry_any t first (rw long (starts_site first x)) ∙ z

      -- it alone begins there
      pub hull_alone : Begins tri he first h → h ≡ hull_of tri he first sites
      hull_alone g =
          sym (ap (loop_of t) (begins_same g) ∙ loop_round tri he h sites is.hull named same few 0 three ∙ round_same tri he h sites is.hull three)

    -- where it begins
    module _ (is : IsHull tri he sites (hull_of tri he first sites)) where
      abbrev h : List ℕ
      h = hull_of tri he first sites

      at_begin : get_or h 0 0 ≡ loop_begin t first
      at_begin =
          let l = three h is in
          ⊎_elim
          (λ none. absurd (starts_leads (get_or h 0 0) (begins_there h is) (none.1 (get_or h 0 0) (omega (arith, (is.hull.fresh 0 l).0, long)))))
          (λ some.
          let o = on_hull_lem tri he h sites is.hull named same few (loop_begin t first) (omega (arith, some.0, long)) some.1 in
          ap (λ k. get_or k 0 0) (ap (loop_of t) o.2 ∙ loop_round tri he h sites is.hull named same few o.0 o.1)
          ∙ round_first tri he h sites is.hull o.0 o.1 ∙ sym o.2)
          (begins_cases t first (rw long few))

      pub hull_begins : Begins tri he first (hull_of tri he first sites)
      hull_begins = record {
        kept = λ x. at_begin ∙ first_begins x;
        lowest = λ n s x.
            let q = begins_lowest t first (lowest_begins n) in
            let m = lowest_is t (length t) (rw long few) in
            ⊎_elim
            (λ e. absurd (starts_leads s x (m.none e s (rw long (starts_site s x)))))
            (λ e. ⊎_elim
            (λ k. absurd (starts_leads s x (m.least e s k)))
            (λ k. rw (at_begin, q) k)
            (lt_or_ge s (lowest_to t (length t))))
            (eq_or_ne (lowest_to t (length t)) EMPTY);
      }

  pub there_is : (first : ℕ) → HasHull tri he sites → IsHull tri he sites (hull_of tri he first sites)
  there_is first = hull_traced tri he first sites named same small
