-- Rows: more meshes that are refused, each with its whole fault: where the Rust panics (13, 14), and where rules 11 and 12 refuse before it is asked. Written by rows/make.py of
-- crate definition; not by hand.
use Rattle.std.specs.Prelude.{◌≡◌, refl, [], ◌∷◌}
use Rattle.base.specs.numbers.Numbers.{EMPTY, refused_circumcenter, refused_extension, refused_no_crossing, refused_one_crossing}
use Rattle.mesh.specs.Accepted.{mesh}
use Rattle.definition.specs.Fault.{refused}
use Rattle.definition.specs.Rows.{floats, row_box, row_of}
use Rattle.definition.specs.Build.{build}
use Rattle.definition.specs.Short.{fault}

-- 14: rounding at a corner
pub at_a_corner :
    row_of
    (build
    (mesh
    (floats
    (0xc000000000000000 ∷ 0x4000000000000000 ∷ 0x4000000000000000 ∷ 0xbff0000000000000 ∷ 0x3ff0000000000000 ∷ 0x4000000000000000 ∷ 0x4000000000000000 ∷ 0x4000000000000000 ∷
    []))
    (3 ∷ 1 ∷ 0 ∷ 1 ∷ 2 ∷ 0 ∷ [])
    (EMPTY ∷ 5 ∷ EMPTY ∷ EMPTY ∷ EMPTY ∷ 1 ∷ [])
    (0 ∷ 3 ∷ 1 ∷ 2 ∷ []))
    (row_box 0x4000000000000000 0x4000000000000000 0x3ff0000000000000 0x3ff0000000000000))
    ≡ refused (fault refused_one_crossing 1 1 0)
unfolding row_of
at_a_corner = refl

-- 14: an extension within the box
pub large_box :
    row_of
    (build
    (mesh
    (floats
    (0xbfe0000000000000 ∷ 0xbfe0000000000000 ∷ 0xbfe0000000000000 ∷ 0x3fe0000000000000 ∷ 0x3fe0000000000000 ∷ 0x3fe0000000000000 ∷ 0x3fe0000000000000 ∷ 0xbfe0000000000000 ∷
    []))
    (0 ∷ 1 ∷ 2 ∷ 0 ∷ 2 ∷ 3 ∷ [])
    (EMPTY ∷ EMPTY ∷ 3 ∷ 2 ∷ EMPTY ∷ EMPTY ∷ [])
    (0 ∷ 1 ∷ 2 ∷ 3 ∷ []))
    (row_box 0 0 0x4212a05f20000000 0x4212a05f20000000))
    ≡ refused (fault refused_one_crossing 2 7 8)
unfolding row_of
large_box = refl

-- 13: a lone point judged by its own signs
pub lone_point :
    row_of
    (build
    (mesh
    (floats
    (0 ∷ 0x4000000000000000 ∷ 0x3ff0000000000000 ∷ 0x4000000000000000 ∷ 0 ∷ 0xbff0000000000000 ∷ []))
    (0 ∷ 1 ∷ 2 ∷ [])
    (EMPTY ∷ EMPTY ∷ EMPTY ∷ [])
    (0 ∷ 1 ∷ 2 ∷ []))
    (row_box 0x3ff8000000000000 0x3ff8000000000000 0x4000000000000000 0x4000000000000000))
    ≡ refused (fault refused_no_crossing 0 0 7)
unfolding row_of
lone_point = refl

-- 11: three sites on a line
pub on_a_line :
    row_of
    (build
    (mesh
    (floats
    (0 ∷ 0 ∷ 0x3ff0000000000000 ∷ 0 ∷ 0x4000000000000000 ∷ 0 ∷ []))
    (0 ∷ 1 ∷ 2 ∷ [])
    (EMPTY ∷ EMPTY ∷ EMPTY ∷ [])
    (0 ∷ 1 ∷ 2 ∷ []))
    (row_box 0 0 0x4000000000000000 0x4000000000000000))
    ≡ refused (fault refused_circumcenter 0 0 0)
unfolding row_of
on_a_line = refl

-- 13: rounding
pub rounding :
    row_of
    (build
    (mesh
    (floats
    (0 ∷ 0x4000000000000000 ∷ 0x3fe0000000000000 ∷ 0x3fe0000000000000 ∷ 0xbff0000000000000 ∷ 0x4000000000000000 ∷ []))
    (0 ∷ 1 ∷ 2 ∷ [])
    (EMPTY ∷ EMPTY ∷ EMPTY ∷ [])
    (0 ∷ 1 ∷ 2 ∷ []))
    (row_box 0 0 0x4000000000000000 0x4000000000000000))
    ≡ refused (fault refused_no_crossing 0 5 0)
unfolding row_of
rounding = refl

-- 12: a hull edge so short that its squares underflow
pub short_edge :
    row_of
    (build
    (mesh
    (floats
    (0 ∷ 0 ∷ 0x1e30000000000000 ∷ 0 ∷ 0 ∷ 0x3ff0000000000000 ∷ []))
    (0 ∷ 1 ∷ 2 ∷ [])
    (EMPTY ∷ EMPTY ∷ EMPTY ∷ [])
    (0 ∷ 1 ∷ 2 ∷ []))
    (row_box 0 0 0x4000000000000000 0x4000000000000000))
    ≡ refused (fault refused_extension 0 0 0)
unfolding row_of
short_edge = refl

-- 13: both ends of an edge within the tolerance
pub within :
    row_of
    (build
    (mesh
    (floats
    (0xbfe0000000000000 ∷ 0xbfe0000000000000 ∷ 0xbfe0000000000000 ∷ 0x3fe0000000000000 ∷ 0x3fe0000000000000 ∷ 0x3fe0000000000000 ∷ 0x3fe0000000000008 ∷ 0xbfe0000000000000 ∷
    []))
    (0 ∷ 1 ∷ 2 ∷ 0 ∷ 2 ∷ 3 ∷ [])
    (EMPTY ∷ EMPTY ∷ 3 ∷ 2 ∷ EMPTY ∷ EMPTY ∷ [])
    (0 ∷ 1 ∷ 2 ∷ 3 ∷ []))
    (row_box 0xbfe0000000000000 0 0x3ff0000000000000 0x4000000000000000))
    ≡ refused (fault refused_no_crossing 0 0 1)
unfolding row_of
within = refl
