-- A neighbour of site s that comes: it has a cell, and what its judgement tells of the neighbours that are left after clipping.
use Rattle.std.specs.Prelude.{◌≡◌, List, ℕ, ◌+◌, ◌-◌, ◌≤◌, ◌<◌, length, Option, Some, None}
use Rattle.std.proofs.Common.{sym, subst, arith}
use Rattle.base.specs.numbers.Numbers.{EMPTY}
use Rattle.walks.specs.shared.Cells.{share_edge_of}
use Rattle.mesh.specs.laws.Occurs.{occ_below}
use Rattle.walks.specs.declared.neighbours.Cursor.{Cursor}
use Rattle.queries.specs.declared.clipped.Judgement.TheVariants.{Counts, Dropped, Ends}
use Rattle.queries.specs.clipped.Clippable.{Clippable}
use Rattle.walks.specs.neighbours.Cursor.{rest_of, step_of, CursorSettled}
use Rattle.walks.specs.neighbours.laws.Cursor.{coming_used}
use Rattle.queries.specs.clipped.ClippedCursor.{judge_of, clipped_left, ClippedTakes}
use Rattle.queries.specs.clipped.laws.ClippedCursor.{came, none_came}

module _ {tri he off ix : List ℕ} (g : Clippable tri he off ix) (c : Cursor) (ok : CursorSettled he c) where
  small : length he ≤ EMPTY
  small = omega (arith, g.paired.small)

  module _ {d : Cursor} {x : ℕ} (q : Some (x, d) ≡ step_of tri he c) where
    pub coming_cell : x + 1 < length off
    coming_cell =
        let below : x < length off - 1 = occ_below tri (length off - 1) x (λ e l. omega (arith, g.named e l)) (coming_used tri he g.paired.threes g.even small c d x ok q) in
        omega arith

    module _ (s : ℕ) where
      pub counts : Counts ≡ judge_of he (share_edge_of off ix s x) c.last d.last → ClippedTakes tri he (share_edge_of off ix s) (clipped_left tri he (share_edge_of off ix s) c) (Some (x, d))
      counts e = came tri he (share_edge_of off ix s) small c ok x d Counts q e

      pub ends : Ends ≡ judge_of he (share_edge_of off ix s x) c.last d.last → ClippedTakes tri he (share_edge_of off ix s) (clipped_left tri he (share_edge_of off ix s) c) None
      ends e = came tri he (share_edge_of off ix s) small c ok x d Ends q e

      module _ (e : Dropped ≡ judge_of he (share_edge_of off ix s x) c.last d.last) where
        pub dropped_sound : CursorSettled he d
        dropped_sound = (came tri he (share_edge_of off ix s) small c ok x d Dropped q e).1

        pub dropped_less : {t : ℕ} → length (rest_of he c.start c.next) ≡ t → length (rest_of he d.start d.next) < t
        dropped_less p = omega (arith, (came tri he (share_edge_of off ix s) small c ok x d Dropped q e).2)

        pub dropped_takes : (r : Option (ℕ × Cursor)) → ClippedTakes tri he (share_edge_of off ix s) (clipped_left tri he (share_edge_of off ix s) d) r
            → ClippedTakes tri he (share_edge_of off ix s) (clipped_left tri he (share_edge_of off ix s) c) r
        dropped_takes r =
            subst (λ l. ClippedTakes tri he (share_edge_of off ix s) l r) (sym (came tri he (share_edge_of off ix s) small c ok x d Dropped q e).0)

  pub nothing_left : (s : ℕ) → None ≡ step_of tri he c → ClippedTakes tri he (share_edge_of off ix s) (clipped_left tri he (share_edge_of off ix s) c) None
  nothing_left s q = none_came tri he (share_edge_of off ix s) small c ok q
