-- The image of a cell over the lent vertices is that over the build's: the lent list begins with them, and a placed cell names no others.
use Rattle.std.specs.Prelude.{◌≡◌, refl, List, [], ◌∷◌, ◌++◌, ℕ, zero, suc, ◌+◌, ◌*◌, ◌≤◌, ◌<◌, Float, length, get_or}
use Rattle.std.proofs.Common.{ap, arith}
use Rattle.definition.specs.Cell.{Mark, plain, crossing, wrapped, Entry, unmarked}
use Rattle.definition.specs.Build.{Built}
use Rattle.definition.specs.Measures.{ValidEntry, ValidEntries}
use Rattle.wkb.specs.Polygon.{pattern_at, patterns_of, patterns, polygon}
use Rattle.arguments.specs.entries.Named.{EntriesNamed}
use Rattle.printing.specs.Rooms.{vertex_room}
use Rattle.wkb.specs.Promise.{image}

same_points : (v w cell : List ℕ) (n : ℕ) → EntriesNamed cell n → ((k : ℕ) → k < 2 * n → get_or v k 0 ≡ get_or w k 0) → patterns_of v cell ≡ patterns_of w cell
unfolding pattern_at
same_points v w [] n a h = refl
same_points v w (e ∷ cell) n a h =
    let b : e < n = a.each 0 (omega arith) in
    let rest : EntriesNamed cell n = record { each = λ k l. a.each (suc k) (omega arith) } in
    rw (h (2 * e) (omega arith), h (2 * e + 1) (omega arith), same_points v w cell n rest h)

pub same_image : (v w cell : List ℕ) (n : ℕ) → EntriesNamed cell n → ((k : ℕ) → k < 2 * n → get_or v k 0 ≡ get_or w k 0) → image v cell ≡ image w cell
same_image v w cell n a h = ap polygon (same_points v w cell n a h)

pub padded_same : (fs gs : List Float) (k : ℕ) → k < length fs → get_or (patterns (fs ++ gs)) k 0 ≡ get_or (patterns fs) k 0
padded_same [] gs k h = absurd (omega arith)
padded_same (x ∷ fs) gs zero h = refl
padded_same (x ∷ fs) gs (suc k) h = padded_same fs gs k (omega arith)

-- each entry of a placed cell names one of n vertices
placed_below : (P : ℕ → Type 0) (nc n v : ℕ) (m : Mark) → nc + 4 ≤ n → ValidEntry P nc n m v → v < n
placed_below P nc n v plain h p = omega (arith, p.1)
placed_below P nc n v crossing h p = omega (arith, p.1)
placed_below P nc n v wrapped h p = omega (arith, p.1)

named_more : (x : ℕ) (l : List ℕ) (n : ℕ) → x < n → EntriesNamed l n → EntriesNamed (x ∷ l) n
named_more x l n b a = record { each = each }
  where
    each : (k : ℕ) → k < suc (length l) → get_or (x ∷ l) k 0 < n
    each zero h = b
    each (suc k) h = a.each k (omega arith)

pub placed_named : (P : ℕ → Type 0) (nc n : ℕ) (es : List Entry) → nc + 4 ≤ n → ValidEntries P nc n es → EntriesNamed (unmarked es) n
placed_named P nc n [] h a = record { each = λ k l. absurd (omega arith) }
placed_named P nc n (e ∷ es) h a = named_more e.at (unmarked es) n (placed_below P nc n e.at e.mark h a.0) (placed_named P nc n es h a.1)

-- a build whose cells can be drawn
pub record Drawable (b : Built) : Type 0 where
  pub named : (s : ℕ) → s < length b.cells → EntriesNamed (unmarked (get_or b.cells s [])) (length b.verts)
  pub room : 2 * length b.verts ≤ vertex_room
