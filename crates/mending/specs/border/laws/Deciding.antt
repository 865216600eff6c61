-- Where triangles and pairs have a hull at all, the loop is one: so rule 9 on the loop decides.
use Rattle.std.specs.Prelude.{◌≡◌, refl, List, ◌++◌, ◌≢◌, ℕ, ◌≤◌, ◌<◌, length, get_or, take, ⊤, Result, Ok}
use Rattle.std.proofs.Common.{sym, ap, ◌∙◌, ⊎_elim, arith, rules}
use Rattle.std.proofs.lemmas.List.Edits.{sets}
use Rattle.base.specs.common.Refusals.{Keep, Finds}
use Rattle.base.specs.common.laws.Refusals.{breaks, keeps, finds_one, finds_none, finds_answers, finds_split, finds_reads}
use Rattle.base.specs.numbers.Numbers.{EMPTY, refused_hull}
use Rattle.mesh.specs.declared.MeshFault.{MeshFault}
use Rattle.mesh.specs.Hull.{next_place, Hull}
use Rattle.mesh.specs.Faults.{number_of, hull_rules, fan_rules}
use Rattle.mesh.specs.laws.Border.{after_lt, places_hull, hull_places, hull_border}
use Rattle.mending.specs.pairs.Chains.{NamesSites}
use Rattle.mesh_check.specs.whole.Answers.{BorderAnswer}
use Rattle.mending.specs.border.Loop.{lead_table, loop_begin, loop_of, hull_of}
use Rattle.mending.specs.border.Answer.{IsHull, HasHull, border_rules, TracedHull}
use Rattle.mending.specs.border.laws.Leads.{leads_length, begins_cases}
use Rattle.base.specs.common.laws.Stores.{sets_there}
use Rattle.mending.specs.border.laws.Tracing.{loop_few}
use Rattle.mending.specs.border.laws.Round.{round_of, round_length, round_hull, on_hull_lem, hull_leads, loop_round}

hull_keep : (tri he h : List ℕ) (sites : ℕ) → Hull tri he h sites → Keep (hull_rules tri he h sites)
hull_keep tri he h sites ok = (hull_places tri he h sites ok, (hull_border tri he h sites ok, tt))

module _ (tri he : List ℕ) (first sites : ℕ) (named : NamesSites tri sites) (same : length he ≡ length tri) (small : sites < EMPTY) where
  abbrev t : List ℕ
  t = lead_table tri he sites

  pub hull_traced : HasHull tri he sites → IsHull tri he sites (hull_of tri he first sites)
  hull_traced (h, is) =
      let ok = is.hull in
      let m : sites ≤ EMPTY = omega arith in
      let w = leads_length tri he sites (length tri) in
      ⊎_elim
      (λ none.
      let s = (ok.fresh 0 (omega (arith, is.three))).0 in
      let n = (ok.fresh (next_place (length h) 0) (after_lt (length h) 0 (omega (arith, is.three)))).0 in
      absurd (omega (arith, none.1 (get_or h 0 0) (rw w s), hull_leads tri he h sites ok named same m 0 (omega (arith, is.three)))))
      (λ some.
      let o = on_hull_lem tri he h sites ok named same m (loop_begin t first) (rw w at some.0) some.1 in
      let q : hull_of tri he first sites ≡ round_of h o.0 = ap (loop_of t) o.2 ∙ loop_round tri he h sites ok named same m o.0 o.1 in
      rw q (record { three = rw (round_length h o.0 0 (length h)) is.three; hull = round_hull tri he h sites ok o.0 o.1 }))
      (begins_cases t first (rw w m))

  pub decide_short : length (hull_of tri he first sites) < 3 → Finds (border_rules tri he sites) 0 refused_hull
  decide_short l = breaks (λ has. omega (arith, (hull_traced has).three))

  module _ (three : 3 ≤ length (hull_of tri he first sites)) (f : Result ⊤ MeshFault)
      (x : Finds (hull_rules tri he (hull_of tri he first sites) sites ++ fan_rules tri he sites) (Ok tt) f) where
    nine : Finds (hull_rules tri he (hull_of tri he first sites) sites) (Ok tt) f → f ≢ Ok tt → number_of f ≡ refused_hull
    nine = finds_answers (λ f. f ≢ Ok tt → number_of f ≡ refused_hull) (λ n. absurd (n refl)) (search rules)

    pub decide_checked : Finds (border_rules tri he sites) 0 (number_of f)
    decide_checked =
        ⊎_elim
        (λ w. rw (nine w.0 w.1) (breaks (λ has. w.1 (finds_one w.0 (finds_none (hull_keep tri he (hull_of tri he first sites) sites (hull_traced has).hull))))))
        (λ w. keeps
        (hull_of tri he first sites, record { three = three; hull = places_hull tri he (hull_of tri he first sites) sites w.0.0 w.0.1.0 })
        (finds_reads number_of w.1))
        (finds_split (hull_rules tri he (hull_of tri he first sites) sites) (fan_rules tri he sites) (λ k q. omega (arith, ap number_of q), (λ k q. omega (arith, ap number_of q), tt)) x)

  -- ---- the answer of the whole
  module _ (w w' m m' : List ℕ) (k n : ℕ) (z : n ≡ sites) (count : k ≡ length (hull_of tri he first n)) (mended : m' ≡ sets m 0 (hull_of tri he first n)) where
    pub few_on : k ≤ sites
    few_on = omega (arith, rw z at count, leads_length tri he sites (length tri), loop_few t (loop_begin t first) (length t) (loop_begin t first))

    pub hull_room : sites ≤ length m → k ≤ length m
    hull_room l = omega (arith, few_on)

    pub traced_short : k < 3 → TracedHull tri he first sites w w' m m' refused_hull k
    traced_short l =
        let q : k ≡ length (hull_of tri he first sites) = rw z at count in
        record { found = decide_short (rw (← q) l); count = q; mended = rw z at mended; table = λ y. absurd (omega arith) }

    pub traced_checked : 3 ≤ k → sites ≤ length m → (w₁ : List ℕ) → length w₁ ≡ length w → (f : Result ⊤ MeshFault) → BorderAnswer tri he (take k m') sites w₁ w' f
        → (r : ℕ) → r ≡ number_of f → TracedHull tri he first sites w w' m m' r k
    traced_checked l room w₁ long f a r p =
        let q : k ≡ length (hull_of tri he first sites) = rw z at count in
        let v : m' ≡ sets m 0 (hull_of tri he first sites) = rw z at mended in
        let e : take k m' ≡ hull_of tri he first sites =
        ap (take k) v ∙ ap (λ j. take j (sets m 0 (hull_of tri he first sites))) q ∙ sets_there (hull_of tri he first sites) m 0 (omega (arith, few_on)) in
        record {
          found = rw p (decide_checked (rw (← q) l) f (rw e at a.found));
          count = q;
          mended = v;
          table = λ y. rw (← long) (a.table (sym p ∙ y));
        }
