-- Rows: meshes that the Rust builds: vertices to the last bit, marked cells, owners, lost corners, points taken again. Here are those that refuse an edit of must-fail/; the
-- others are in crate build_laws. Written by rows/make.py from what the Rust answered; not by hand.
use Rattle.std.specs.Prelude.{◌≡◌, refl, [], ◌∷◌}
use Rattle.base.specs.numbers.Numbers.{EMPTY}
use Rattle.mesh.specs.Accepted.{mesh}
use Rattle.definition.specs.Fault.{ok}
use Rattle.definition.specs.Rows.{floats, row_box, t, x, w, row_of}
use Rattle.definition.specs.Build.{build}

-- empty hull cells are clipped again, from a half-edge that is not the leftmost
pub clipped_again :
    row_of
    (build
    (mesh
    (floats
    (0xbfe0000000000000 ∷ 0xbff8000000000000 ∷ 0x3fe0000000000000 ∷ 0xbff0000000000000 ∷ 0x3ff0000000000000 ∷ 0x3fe0000000000000 ∷ 0x3ff8000000000000 ∷ 0xbfe0000000000000 ∷
    0xbff0000000000000 ∷ 0x3fe0000000000000 ∷ []))
    (2 ∷ 1 ∷ 4 ∷ 0 ∷ 4 ∷ 1 ∷ 3 ∷ 1 ∷ 2 ∷ [])
    (7 ∷ 4 ∷ EMPTY ∷ EMPTY ∷ 1 ∷ EMPTY ∷ EMPTY ∷ 0 ∷ EMPTY ∷ [])
    (4 ∷ 2 ∷ 3 ∷ 1 ∷ 0 ∷ []))
    (row_box 0 0xbfd0000000000000 0x3fd0000000000000 0x3fd0000000000000))
    ≡ ok (record {
      vertices = floats
          (0 ∷ 0 ∷ 0xbfdaaaaaaaaaaaab ∷ 0xbfdaaaaaaaaaaaac ∷ 0x3fe8000000000000 ∷ 0xbfd0000000000000 ∷ 0xbfc0000000000000 ∷ 0xbfd8000000000000 ∷ 0xbfc0000000000000 ∷
          0xbfc0000000000000 ∷ 0x3fc0000000000000 ∷ 0xbfc0000000000000 ∷ 0x3fc0000000000000 ∷ 0xbfd8000000000000 ∷ 0 ∷ 0x4202a05f20000000 ∷ 0x4200a8f61135fe47 ∷
          0x41f0a8f6112bfe47 ∷ 0x41f0a8f6113bfe47 ∷ 0xc200a8f61131fe47 ∷ 0x41f0a8f61129539c ∷ 0xc200a8f61133539c ∷ 0xc20211fffb4ef5bb ∷ 0xc1e211fffb58f5bb ∷ []);
      cells = ([]) ∷ (x 4 ∷ x 4 ∷ []) ∷ ([]) ∷ ([]) ∷ (x 4 ∷ x 4 ∷ []) ∷ [];
      owners = 1 ∷ 1 ∷ 1 ∷ 1 ∷ [];
      lost = 3;
      again = 0 ∷ 2 ∷ 2 ∷ [];
    })
unfolding row_of
clipped_again = refl

-- corners that are lost on sound input
pub lost :
    row_of
    (build
    (mesh
    (floats
    (0 ∷ 0x3fe0000000000000 ∷ 0x3fe0000000000000 ∷ 0x3fe0000000000000 ∷ 0x3fe0000000000000 ∷ 0 ∷ []))
    (0 ∷ 1 ∷ 2 ∷ [])
    (EMPTY ∷ EMPTY ∷ EMPTY ∷ [])
    (2 ∷ 0 ∷ 1 ∷ []))
    (row_box 0 0 0x4000000000000000 0x4000000000000000))
    ≡ ok (record {
      vertices = floats
          (0x3fd0000000000000 ∷ 0x3fd0000000000000 ∷ 0xbff0000000000000 ∷ 0xbff0000000000000 ∷ 0xbff0000000000000 ∷ 0x3ff0000000000000 ∷ 0x3ff0000000000000 ∷ 0x3ff0000000000000 ∷
          0x3ff0000000000000 ∷ 0xbff0000000000000 ∷ 0xc1fa577eea39d8fc ∷ 0xc1fa577eea39d8fc ∷ 0x3fd0000000000000 ∷ 0x4202a05f20020000 ∷ 0x4202a05f20020000 ∷ 0x3fd0000000000000 ∷
          0x3ff0000000000000 ∷ 0x3fd0000000000000 ∷ 0x3fd0000000000000 ∷ 0x3ff0000000000000 ∷ []);
      cells = (t 0 ∷ x 1 ∷ x 9 ∷ []) ∷ (t 0 ∷ x 9 ∷ w 3 ∷ x 8 ∷ []) ∷ (t 0 ∷ x 8 ∷ w 4 ∷ x 1 ∷ []) ∷ [];
      owners = 2 ∷ 0 ∷ 1 ∷ 2 ∷ [];
      lost = 1;
      again = 0 ∷ 4 ∷ 0 ∷ [];
    })
unfolding row_of
lost = refl

-- the marks: of the three 2s of cell 0 one is wrapped, two are crossings that reuse the corner
pub marks :
    row_of
    (build
    (mesh
    (floats
    (0xbfe0000000000000 ∷ 0xbfe0000000000000 ∷ 0xbfe0000000000000 ∷ 0x3fe0000000000000 ∷ 0x3fe0000000000000 ∷ 0x3fe0000000000000 ∷ 0x3fe0000000000000 ∷ 0xbfe0000000000000 ∷
    []))
    (0 ∷ 1 ∷ 2 ∷ 0 ∷ 2 ∷ 3 ∷ [])
    (EMPTY ∷ EMPTY ∷ 3 ∷ 2 ∷ EMPTY ∷ EMPTY ∷ [])
    (0 ∷ 1 ∷ 2 ∷ 3 ∷ []))
    (row_box 0 0 0x4202a05f20000000 0x4202a05f20000000))
    ≡ ok (record {
      vertices = floats
          (0 ∷ 0 ∷ 0 ∷ 0 ∷ 0xc1f2a05f20000000 ∷ 0xc1f2a05f20000000 ∷ 0xc1f2a05f20000000 ∷ 0x41f2a05f20000000 ∷ 0x41f2a05f20000000 ∷ 0x41f2a05f20000000 ∷ 0x41f2a05f20000000 ∷
          0xc1f2a05f20000000 ∷ 0xc202a05f20000000 ∷ 0 ∷ 0 ∷ 0x4202a05f20000000 ∷ 0x4202a05f20000000 ∷ 0 ∷ 0 ∷ 0xc202a05f20000000 ∷ 0 ∷ 0xc1f2a05f20000000 ∷
          0xc1f2a05f20000000 ∷ 0 ∷ 0 ∷ 0x41f2a05f20000000 ∷ 0x41f2a05f20000000 ∷ 0 ∷ []);
      cells = (t 1 ∷ x 10 ∷ x 2 ∷ x 2 ∷ w 2 ∷ x 11 ∷ t 0 ∷ []) ∷ (t 0 ∷ x 11 ∷ w 3 ∷ x 3 ∷ x 3 ∷ x 12 ∷ []) ∷ (t 0 ∷ x 12 ∷ x 4 ∷ x 4 ∷ w 4 ∷ x 13 ∷ t 1 ∷
          []) ∷ (t 1 ∷ x 13 ∷ w 5 ∷ x 5 ∷ x 5 ∷ x 10 ∷ []) ∷ [];
      owners = 0 ∷ 1 ∷ 2 ∷ 3 ∷ [];
      lost = 0;
      again = 0 ∷ 8 ∷ 4 ∷ [];
    })
unfolding row_of
marks = refl

-- a circumcenter on the right side: the crossing there is a vertex of its own, no circumcenter is taken again
pub on_a_side :
    row_of
    (build
    (mesh
    (floats
    (0x4000000000000000 ∷ 0xbff0000000000000 ∷ 0 ∷ 0xbff0000000000000 ∷ 0x3ff0000000000000 ∷ 0x3ff0000000000000 ∷ []))
    (2 ∷ 0 ∷ 1 ∷ [])
    (EMPTY ∷ EMPTY ∷ EMPTY ∷ [])
    (2 ∷ 0 ∷ 1 ∷ []))
    (row_box 0 0 0x4000000000000000 0x4000000000000000))
    ≡ ok (record {
      vertices = floats
          (0x3ff0000000000000 ∷ 0xbfd0000000000000 ∷ 0xbff0000000000000 ∷ 0xbff0000000000000 ∷ 0xbff0000000000000 ∷ 0x3ff0000000000000 ∷ 0x3ff0000000000000 ∷ 0x3ff0000000000000 ∷
          0x3ff0000000000000 ∷ 0xbff0000000000000 ∷ 0x4200a8f61137fe47 ∷ 0x41f0a8f6112bfe47 ∷ 0x3ff0000000000000 ∷ 0xc202a05f20020000 ∷ 0xc200a8f61127fe47 ∷ 0x41f0a8f6112bfe47 ∷
          0xbff0000000000000 ∷ 0x3fe8000000000000 ∷ 0x3ff0000000000000 ∷ 0xbfd0000000000000 ∷ []);
      cells = (t 0 ∷ x 9 ∷ x 4 ∷ []) ∷ (t 0 ∷ x 4 ∷ w 1 ∷ x 8 ∷ []) ∷ (t 0 ∷ x 8 ∷ w 2 ∷ w 3 ∷ x 9 ∷ []) ∷ [];
      owners = 1 ∷ 2 ∷ 2 ∷ 1 ∷ [];
      lost = 0;
      again = 0 ∷ 4 ∷ 0 ∷ [];
    })
unfolding row_of
on_a_side = refl

-- the first hull cell has no vertex inside, and its walk begins at the extension after it
pub rotation :
    row_of
    (build
    (mesh
    (floats
    (0xbff0000000000000 ∷ 0x4000000000000000 ∷ 0x3ff0000000000000 ∷ 0x3ff0000000000000 ∷ 0x4000000000000000 ∷ 0xc000000000000000 ∷ []))
    (1 ∷ 2 ∷ 0 ∷ [])
    (EMPTY ∷ EMPTY ∷ EMPTY ∷ [])
    (2 ∷ 0 ∷ 1 ∷ []))
    (row_box 0xc1bdcd6500000000 0xc1cdcd6500000000 0x41bdcd6500000000 0x41ddcd6500000000))
    ≡ ok (record {
      vertices = floats
          (0xbff8000000000000 ∷ 0xbff8000000000000 ∷ 0xc1c65a0bc0000000 ∷ 0xc1ddcd6500000000 ∷ 0xc1c65a0bc0000000 ∷ 0 ∷ 0xc1adcd6500000000 ∷ 0 ∷ 0xc1adcd6500000000 ∷
          0xc1ddcd6500000000 ∷ 0xc1fdcd6500180000 ∷ 0xc1f65a0bc0180001 ∷ 0x41f0a8f61117fe47 ∷ 0x4200a8f61123fe47 ∷ 0x4201abacaa980a86 ∷ 0x41e78f90e355635d ∷ 0xc1c65a0bc0000000 ∷
          0xc1c0c388d0300001 ∷ 0xc1adcd6500000000 ∷ 0xc1a65a0bc0c00001 ∷ 0xc1adcd6500000000 ∷ 0xc1dce616cee14575 ∷ 0xc1b5cc8bd34d19ed ∷ 0xc1ddcd6500000000 ∷ []);
      cells = (x 9 ∷ x 8 ∷ w 2 ∷ w 3 ∷ []) ∷ ([]) ∷ (x 8 ∷ x 9 ∷ w 4 ∷ w 1 ∷ x 10 ∷ x 11 ∷ []) ∷ [];
      owners = 2 ∷ 0 ∷ 0 ∷ 2 ∷ [];
      lost = 0;
      again = 0 ∷ 1 ∷ 1 ∷ [];
    })
unfolding row_of
rotation = refl

-- "square" of docs/use/RULES.md
pub square :
    row_of
    (build
    (mesh
    (floats
    (0xbfe0000000000000 ∷ 0xbfe0000000000000 ∷ 0xbfe0000000000000 ∷ 0x3fe0000000000000 ∷ 0x3fe0000000000000 ∷ 0x3fe0000000000000 ∷ 0x3fe0000000000000 ∷ 0xbfe0000000000000 ∷
    []))
    (0 ∷ 1 ∷ 2 ∷ 0 ∷ 2 ∷ 3 ∷ [])
    (EMPTY ∷ EMPTY ∷ 3 ∷ 2 ∷ EMPTY ∷ EMPTY ∷ [])
    (0 ∷ 1 ∷ 2 ∷ 3 ∷ []))
    (row_box 0 0 0x4000000000000000 0x4000000000000000))
    ≡ ok (record {
      vertices = floats
          (0 ∷ 0 ∷ 0 ∷ 0 ∷ 0xbff0000000000000 ∷ 0xbff0000000000000 ∷ 0xbff0000000000000 ∷ 0x3ff0000000000000 ∷ 0x3ff0000000000000 ∷ 0x3ff0000000000000 ∷ 0x3ff0000000000000 ∷
          0xbff0000000000000 ∷ 0xc202a05f20000000 ∷ 0 ∷ 0 ∷ 0x4202a05f20000000 ∷ 0x4202a05f20000000 ∷ 0 ∷ 0 ∷ 0xc202a05f20000000 ∷ 0 ∷ 0xbff0000000000000 ∷
          0xbff0000000000000 ∷ 0 ∷ 0 ∷ 0x3ff0000000000000 ∷ 0x3ff0000000000000 ∷ 0 ∷ []);
      cells = (t 1 ∷ x 10 ∷ w 2 ∷ x 11 ∷ t 0 ∷ []) ∷ (t 0 ∷ x 11 ∷ w 3 ∷ x 12 ∷ []) ∷ (t 0 ∷ x 12 ∷ w 4 ∷ x 13 ∷ t 1 ∷ []) ∷ (t 1 ∷ x 13 ∷ w 5 ∷ x 10 ∷
          []) ∷ [];
      owners = 0 ∷ 1 ∷ 2 ∷ 3 ∷ [];
      lost = 0;
      again = 0 ∷ 4 ∷ 0 ∷ [];
    })
unfolding row_of
square = refl

-- a cell passes the corners that it has wrapped once more
pub struck_out :
    row_of
    (build
    (mesh
    (floats
    (0xbfe0000000000000 ∷ 0 ∷ 0xbff8000000000000 ∷ 0 ∷ 0x3fe0000000000000 ∷ 0xbfe0000000000000 ∷ []))
    (0 ∷ 2 ∷ 1 ∷ [])
    (EMPTY ∷ EMPTY ∷ EMPTY ∷ [])
    (0 ∷ 2 ∷ 1 ∷ []))
    (row_box 0 0 0x4000000000000000 0x4000000000000000))
    ≡ ok (record {
      vertices = floats
          (0xbff0000000000000 ∷ 0xc002000000000000 ∷ 0xbff0000000000000 ∷ 0xbff0000000000000 ∷ 0xbff0000000000000 ∷ 0x3ff0000000000000 ∷ 0x3ff0000000000000 ∷ 0x3ff0000000000000 ∷
          0x3ff0000000000000 ∷ 0xbff0000000000000 ∷ 0x41f0a8f6111ffe47 ∷ 0x4200a8f6111dfe47 ∷ 0xc1e211fffb6ba066 ∷ 0xc20211fffb5da066 ∷ 0xbff0000000000000 ∷ 0x4202a05f1fee0000 ∷
          0x3fe4000000000000 ∷ 0x3ff0000000000000 ∷ 0xbfd8000000000000 ∷ 0xbff0000000000000 ∷ []);
      cells = (x 8 ∷ x 9 ∷ w 1 ∷ w 2 ∷ x 1 ∷ x 2 ∷ []) ∷ (x 2 ∷ x 1 ∷ []) ∷ (x 9 ∷ x 8 ∷ w 3 ∷ w 4 ∷ []) ∷ [];
      owners = 0 ∷ 0 ∷ 2 ∷ 2 ∷ [];
      lost = 0;
      again = 0 ∷ 3 ∷ 3 ∷ [];
    })
unfolding row_of
struck_out = refl
