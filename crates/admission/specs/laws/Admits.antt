-- On the number of a call: there is one; 0 means that all rules hold; and the call's own rules in the place of the number that they gave.
use Rattle.std.specs.Prelude.{◌≡◌, Bool, true, List, [], ◌∷◌, ◌++◌, ◌↔◌, ℕ, ◌≤◌, ◌<◌, length}
use Rattle.std.proofs.Common.{⊎_elim, arith, rules}
use Rattle.base.specs.common.Refusals.{Rule, once, each, reads, Keep, Finds}
use Rattle.base.specs.common.laws.Refusals.{finds_one, finds_none, finds_keep, finds_answers, finds_instead, finds_own, keeps, breaks}
use Rattle.base.specs.common.laws.Decide.{eq_or_ne}
use Rattle.base.specs.numbers.Numbers.{refused_count, refused_room, refused_triangle, refused_fan}
use Rattle.mesh.specs.Faults.{number_of, coordinate_rules, topology_rules}
use Rattle.mesh.specs.Rules.{call_rules}
use Rattle.mesh.specs.Accepted.{Mesh, Counted, site_count}
use Rattle.mesh.specs.laws.Verdicts.{accepted_keep, keep_accepted}
use Rattle.arguments.specs.asking.laws.Asks.{NoneZero}
use Rattle.admission.specs.Admits.{asked_rules, late_outline, Outlines, Admits, Admitted}

pub finds_asked : (asked : ℕ) → Finds (asked_rules asked) 0 asked
finds_asked asked = ⊎_elim (λ z. keeps z (record { judged = z })) breaks (eq_or_ne asked 0)

pub asked_finds : (asked : ℕ) {r : ℕ} → Finds (asked_rules asked) 0 r → r ≡ asked
asked_finds asked x = finds_one x (finds_asked asked)

-- the rules on the mesh itself
abbrev late : Mesh → List (Rule ℕ)
late m = reads number_of (coordinate_rules m.sites ++ topology_rules m.triangles m.halfedges m.hull (site_count m.sites))

pub asked_answers : (asked : ℕ) → NoneZero (asked_rules asked)
asked_answers asked = (λ n. n, tt)

both_answer : (own more : List (Rule ℕ)) → NoneZero own → NoneZero more → NoneZero (own ++ more)
both_answer [] more t u = u
both_answer (once a Q ∷ own) more t u = (t.0, both_answer own more t.1 u)
both_answer (each f n Q ∷ own) more t u = (t.0, both_answer own more t.1 u)

pub keep_parts : (own more : List (Rule ℕ)) → Keep (own ++ more) → Keep own × Keep more
keep_parts [] more k = (tt, k)
keep_parts (r ∷ own) more k = let p = keep_parts own more k.1 in ((k.0, p.0), p.1)

keep_both : (own more : List (Rule ℕ)) → Keep own → Keep more → Keep (own ++ more)
keep_both [] more k l = l
keep_both (r ∷ own) more k l = (k.0, keep_both own more k.1 l)

pub call_answers : (m : Mesh) (room : Type 0) (own : List (Rule ℕ)) → NoneZero own → NoneZero (call_rules m room own)
call_answers m room own t = ((λ _ q. omega arith), ((λ _ q. omega arith), both_answer own (late m) t (search rules)))

module _ {m : Mesh} {roomy : Bool} {own : List (Rule ℕ)} where
  -- there is one number
  pub admits_one : {a b : ℕ} → Admits m roomy own a → Admits m roomy own b → a ≡ b
  admits_one x y = finds_one x.found y.found

  pub admits : Admitted m roomy own → Admits m roomy own 0
  admits a =
      let k = accepted_keep m (roomy ≡ true) a.accepted a.roomed in
      record { found = finds_none (k.0, (k.1.0, keep_both own (late m) a.fit k.1.1)) }

  module _ (t : NoneZero own) where
    pub admits_keep : {r : ℕ} → Admits m roomy own r → r ≡ 0 → Keep (call_rules m (roomy ≡ true) own)
    admits_keep x z = finds_keep (λ r. r ≡ 0) (call_answers m (roomy ≡ true) own t) z x.found

    pub admitted : {r : ℕ} → Admits m roomy own r → r ≡ 0 → Admitted m roomy own
    admitted x z =
        let k = admits_keep x z in
        let p = keep_parts own (late m) k.1.1 in
        record { accepted = keep_accepted m (roomy ≡ true) (k.0, (k.1.0, p.1)); roomed = k.1.0; fit = p.0 }

-- the numbers are up to 10, so that 16 is not among them
pub admits_few : {m : Mesh} {roomy : Bool} {asked r : ℕ} → asked < refused_triangle → Admits m roomy (asked_rules asked) r → r ≤ refused_fan
admits_few l x = finds_answers (λ r. r ≤ refused_fan) (omega arith) (search rules) x.found

module _ (m : Mesh) where
  abbrev Counts : Type 0
  Counts = Counted (length m.sites) (length m.triangles) (length m.halfedges) (length m.hull)

  module _ (room : Type 0) {roomy : Bool} {asked r : ℕ} (e : Counts → (roomy ≡ true) ↔ room) (x : Admits m roomy (asked_rules asked) r) where
    -- where rule 1 is broken rule 2 is not tried: its test counts only after that
    pub admits_room : Finds (call_rules m room (asked_rules asked)) 0 r
    admits_room = finds_instead (once refused_count Counts ∷ []) refused_room (roomy ≡ true) room (asked_rules asked ++ late m) (λ k. e k.0) x.found

    -- the rules that the number came from, in its place
    pub admits_rules : (own : List (Rule ℕ)) → NoneZero own → Finds own 0 asked → Finds (call_rules m room own) 0 r
    admits_rules own t f = finds_own (once refused_count Counts ∷ once refused_room room ∷ []) own (late m) t f admits_room

  -- and up to rule 9
  pub outlines_room : {roomy other : Bool} {asked r : ℕ} → (Counts → (roomy ≡ true) ↔ (other ≡ true)) → Outlines m roomy asked r → Outlines m other asked r
  outlines_room {roomy} {other} {asked} e x = record {
    found = finds_instead (once refused_count Counts ∷ []) refused_room (roomy ≡ true) (other ≡ true)
        (asked_rules asked ++ reads number_of (coordinate_rules m.sites) ++ late_outline m) (λ k. e k.0) x.found;
  }

-- the same with the test of rule 2 as it is
pub admits_own : {m : Mesh} {roomy : Bool} {asked r : ℕ} (own : List (Rule ℕ)) → NoneZero own → Finds own 0 asked → Admits m roomy (asked_rules asked) r → Admits m roomy own r
admits_own {m} {roomy} own t f x = record { found = admits_rules m (roomy ≡ true) (λ _. ((λ e. e), (λ e. e))) x own t f }
