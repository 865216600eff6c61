-- Rows: a mesh that is refused, with its whole fault, which refuses an edit of must-fail/; the others are in crate build_laws. Written by rows/make.py; not by hand.
use Rattle.std.specs.Prelude.{◌≡◌, refl, [], ◌∷◌}
use Rattle.base.specs.numbers.Numbers.{EMPTY, refused_no_crossing}
use Rattle.mesh.specs.Accepted.{mesh}
use Rattle.definition.specs.Fault.{refused}
use Rattle.definition.specs.Rows.{floats, row_box, row_of}
use Rattle.definition.specs.Build.{build}
use Rattle.definition.specs.Short.{fault}

-- 13: a circumcenter on the top side, left there
pub top_side :
    row_of
    (build
    (mesh
    (floats
    (0xbfe0000000000000 ∷ 0 ∷ 0x3fe0000000000000 ∷ 0x3fe0000000000000 ∷ 0x3fe8000000000000 ∷ 0x3fe0000000000000 ∷ []))
    (0 ∷ 1 ∷ 2 ∷ [])
    (EMPTY ∷ EMPTY ∷ EMPTY ∷ [])
    (0 ∷ 1 ∷ 2 ∷ []))
    (row_box 0 0 0x4000000000000000 0x4000000000000000))
    ≡ refused (fault refused_no_crossing 0 0 7)
unfolding row_of
top_side = refl
