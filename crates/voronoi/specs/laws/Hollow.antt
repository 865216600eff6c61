-- The cells of a build with one mark put on every entry. With all marks plain every field of `Wraps` and of `BuildLeaves` holds but the tie to what the builder made; with all marks
-- wrapped the tie is not needed: a corner that stands in two cells is wrapped twice. Used by the edits marks_made_plain, build_made_plain and corner_in_two_cells alone, which must be refused.
use Rattle.std.specs.Prelude.{◌≡◌, length, get_or}
use Rattle.std.proofs.Math.Path.{refl}
use Rattle.std.proofs.Common.{ap}
use mathlib.Core.List.{List, [], ◌∷◌, map}
use Prim.Native.Nat.{ℕ, zero, suc}
use Rattle.definition.specs.Cell.{Mark, plain, Entry, entry, unmarked}
use Rattle.definition.specs.Build.{wrapped_in, all_wrapped, all_entries, lost_from}

module _ (k : Mark) where
  abbrev marked : List Entry → List Entry
  marked [] = []
  marked (e ∷ es) = entry k e.at ∷ marked es

  abbrev pub all_marked : List (List Entry) → List (List Entry)
  all_marked [] = []
  all_marked (c ∷ cs) = marked c ∷ all_marked cs

  same_cell : (c : List Entry) → unmarked (marked c) ≡ unmarked c
  same_cell [] = refl
  same_cell (e ∷ es) = ap (λ (l : List ℕ). e.at ∷ l) (same_cell es)

  pub same_cells : (cs : List (List Entry)) → map unmarked (all_marked cs) ≡ map unmarked cs
  same_cells [] = refl
  same_cells (c ∷ cs) = rw (same_cell c, same_cells cs) refl

  pub same_at : (cs : List (List Entry)) (s : ℕ) → unmarked (get_or (all_marked cs) s []) ≡ unmarked (get_or cs s [])
  same_at [] s = refl
  same_at (c ∷ cs) zero = same_cell c
  same_at (c ∷ cs) (suc s) = same_at cs s

  pub same_length : (cs : List (List Entry)) → length (all_marked cs) ≡ length cs
  same_length [] = refl
  same_length (c ∷ cs) = ap suc (same_length cs)

  same_entries : (cs : List (List Entry)) → all_entries (all_marked cs) ≡ all_entries cs
  unfolding all_entries
  same_entries [] = refl
  same_entries (c ∷ cs) = rw (same_cell c, same_entries cs) refl

  pub same_lost : (v n : ℕ) (cs : List (List Entry)) → lost_from v n (all_marked cs) ≡ lost_from v n cs
  unfolding lost_from
  same_lost v zero cs = refl
  same_lost v (suc n) cs = rw (same_entries cs, same_lost (suc v) n cs) refl

none_wrapped : (c : List Entry) → wrapped_in (marked plain c) ≡ []
unfolding wrapped_in
none_wrapped [] = refl
none_wrapped (e ∷ es) = none_wrapped es

pub none_at_all : (cs : List (List Entry)) → all_wrapped (all_marked plain cs) ≡ []
unfolding all_wrapped
none_at_all [] = refl
none_at_all (c ∷ cs) = rw (none_wrapped c, none_at_all cs) refl

pub none_at : (cs : List (List Entry)) (s : ℕ) → wrapped_in (get_or (all_marked plain cs) s []) ≡ []
unfolding wrapped_in
none_at [] s = refl
none_at (c ∷ cs) zero = none_wrapped c
none_at (c ∷ cs) (suc s) = none_at cs s
