-- The number by the tests made: where 1 and 2 hold it is the audit's over no lists of others, whose own two rules hold.
use Rattle.std.specs.Prelude.{◌≡◌, refl, Bool, true, ℕ, ◌/◌, ◌≤◌, ◌<◌, Float, length}
use mathlib.Core.List.{List, [], ◌∷◌, ◌++◌}
use Rattle.std.proofs.Common.{inl, inr, arith}
use Rattle.base.specs.common.Refusals.{Rule, once, each, Judged, Finds}
use Rattle.base.specs.common.laws.Refusals.{breaks, keeps}
use Rattle.base.specs.numbers.Numbers.{refused_count, refused_room, refused_box, refused_coordinate, refused_offsets, refused_entry, refused_corner}
use Rattle.plane.specs.points.Sites.{KeptAt}
use Rattle.arguments.specs.asking.Asks.{CellsOf, cell_rules}
use Rattle.arguments.specs.entries.Named.{EntriesNamed}
use Rattle.areas.specs.Promise.{entries_of_all, KeepsRule, corner_rules}
use Rattle.auditing.specs.nearer.Nearer.{no_lists}
use Rattle.auditing.specs.rules.Rules.{AuditCounts, ListsCut, audit_rules, AuditNumber}
use Rattle.certifying.specs.rules.Rules.{certify_room, CertifyNumber}

-- a rule that holds may be left out
judged_without : {A : Type 0} (none a c : A) (P : Type 0) → P → (rs qs : List (Rule A)) → Judged (rs ++ once c P ∷ qs) none a → Judged (rs ++ qs) none a
judged_without none a c P p [] qs (inl x) = absurd (x.0 p)
judged_without none a c P p [] qs (inr x) = x.1
judged_without none a c P p (r ∷ rs) qs (inl x) = inl x
judged_without none a c P p (r ∷ rs) qs (inr x) = inr (x.0, judged_without none a c P p rs qs x.1)

pub finds_without : {A : Type 0} (before : List (Rule A)) (c : A) (P : Type 0) → P → (after : List (Rule A)) {none a : A} → Finds (before ++ once c P ∷ after) none a
    → Finds (before ++ after) none a
finds_without rs c P p qs {none} {a} x = record { judged = judged_without none a c P p rs qs x.judged }

module _ {sound : Bool} {sites v : List Float} {off ix : List ℕ} {bits room : ℕ} where
  pub no_counts : (AuditCounts (length sites) (length v) (length ix) bits → ⊥) → CertifyNumber sound sites v off ix bits room refused_count
  no_counts n = record { found = breaks n }

  module _ (c : AuditCounts (length sites) (length v) (length ix) bits) where
    pub no_room : {w : ℕ} → w ≡ certify_room (length sites) (length ix) → room < w → CertifyNumber sound sites v off ix bits room refused_room
    no_room e h = record { found = keeps c (breaks (λ k. omega (arith, e, h, k))) }

    -- the audit's, over no lists
    pub by_audit : {w : ℕ} → w ≡ certify_room (length sites) (length ix) → w ≤ room → {starts others : List ℕ} {r : ℕ} → starts ≡ [] → others ≡ []
        → AuditNumber sound sites v off ix starts others bits r → CertifyNumber sound sites v off ix bits room r
    unfolding no_lists
    by_audit e h s o n = record { found = keeps c (keeps (omega (arith, e, h)) (rest (rw (s, o) at n.found))) }
      where
        rest : {r : ℕ} → Finds (audit_rules sound sites v off ix [] [] bits) 0 r
            → Finds (once refused_box (sound ≡ true) ∷ each (λ _. refused_coordinate) (length sites / 2) (KeptAt sites) ∷ cell_rules off ix (length sites / 2) ++ corner_rules v (entries_of_all off ix)) 0 r
        rest x =
            let box = once refused_box (sound ≡ true) in
            let six = each (λ _. refused_coordinate) (length sites / 2) (KeptAt sites) in
            let cells = once refused_offsets (CellsOf off ix (length sites / 2)) in
            let entries = once refused_entry (EntriesNamed (entries_of_all off ix) (length v / 2)) in
            let corners = once refused_corner (KeepsRule v (entries_of_all off ix)) in
            finds_without (box ∷ six ∷ cells ∷ entries ∷ []) refused_entry (EntriesNamed (entries_of_all [] []) (length sites / 2)) (record { each = λ k g. absurd (omega arith) }) (corners ∷ [])
            (finds_without (box ∷ six ∷ cells ∷ []) refused_offsets (ListsCut [] [] (length sites / 2)) (inl refl)
            (entries ∷ once refused_entry (EntriesNamed (entries_of_all [] []) (length sites / 2)) ∷ corners ∷ [])
            (finds_without [] refused_count (AuditCounts (length sites) (length v) (length ix) bits) c _ x))
