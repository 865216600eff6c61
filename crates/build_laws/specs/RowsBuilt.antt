-- Rows: more meshes that the Rust builds: vertices to the last bit, marked cells, owners, lost corners, points taken again. Written by rows/make.py of crate definition from what
-- the Rust answered; not by hand.
use Rattle.std.specs.Prelude.{◌≡◌, refl, [], ◌∷◌}
use Rattle.base.specs.numbers.Numbers.{EMPTY}
use Rattle.mesh.specs.Accepted.{mesh}
use Rattle.definition.specs.Fault.{ok}
use Rattle.definition.specs.Rows.{floats, row_box, t, x, w, row_of}
use Rattle.definition.specs.Build.{build}

-- an extension, two first and two second crossings take a vertex again
pub all_kinds_again :
    row_of
    (build
    (mesh
    (floats
    (0x3ff0000000000000 ∷ 0x4000000000000000 ∷ 0x3ff0000000000000 ∷ 0 ∷ 0x4000000000000000 ∷ 0x4000000000000000 ∷ []))
    (2 ∷ 0 ∷ 1 ∷ [])
    (EMPTY ∷ EMPTY ∷ EMPTY ∷ [])
    (0 ∷ 1 ∷ 2 ∷ []))
    (row_box 0x4202a05f300c0000 0x4080080000000000 0x4090000000000000 0x4090000000000000))
    ≡ ok (record {
      vertices = floats
          (0x3ff8000000000000 ∷ 0x3ff0000000000000 ∷ 0x4202a05f200c0000 ∷ 0x3ff0000000000000 ∷ 0x4202a05f200c0000 ∷ 0x4090040000000000 ∷ 0x4202a05f400c0000 ∷ 0x4090040000000000 ∷
          0x4202a05f400c0000 ∷ 0x3ff0000000000000 ∷ 0xc200a8f61123fe47 ∷ 0x41f0a8f6113ffe47 ∷ 0x3ff8000000000000 ∷ 0xc202a05f1ff80000 ∷ []);
      cells = (x 1 ∷ x 3 ∷ []) ∷ (x 1 ∷ x 4 ∷ []) ∷ ([]) ∷ [];
      owners = 2 ∷ 2 ∷ 2 ∷ 2 ∷ [];
      lost = 1;
      again = 1 ∷ 2 ∷ 2 ∷ [];
    })
unfolding row_of
all_kinds_again = refl

-- an edge clipped from both its ends gives two crossings, so that the two cells share no vertex
pub apart :
    row_of
    (build
    (mesh
    (floats
    (0x3fd6800000000000 ∷ 0 ∷ 0x3fe6000000000000 ∷ 0xbfdb800000000000 ∷ 0 ∷ 0x3fd4000000000000 ∷ []))
    (2 ∷ 0 ∷ 1 ∷ [])
    (EMPTY ∷ EMPTY ∷ EMPTY ∷ [])
    (1 ∷ 2 ∷ 0 ∷ []))
    (row_box 0 0 0x4000000000000000 0x4000000000000000))
    ≡ ok (record {
      vertices = floats
          (0xbffb04c4a9895313 ∷ 0xbfff0f5d3eba7d74 ∷ 0xbff0000000000000 ∷ 0xbff0000000000000 ∷ 0xbff0000000000000 ∷ 0x3ff0000000000000 ∷ 0x3ff0000000000000 ∷ 0x3ff0000000000000 ∷
          0x3ff0000000000000 ∷ 0xbff0000000000000 ∷ 0xc1fb5453c0e3db68 ∷ 0xc1f950ceedfc21a3 ∷ 0x41f8bfde0729c4bf ∷ 0x41fbd7d9c80e5356 ∷ 0x41fd591d56d89236 ∷ 0x41f6f1e3bce08bea ∷
          0xbfdf05f417d05f4a ∷ 0xbff0000000000000 ∷ 0x3ff0000000000000 ∷ 0x3fc494f2094f20a4 ∷ 0x3fed9ffe38e38e3b ∷ 0x3ff0000000000000 ∷ 0xbfeb439000000002 ∷ 0xbff0000000000000 ∷
          0x3ff0000000000000 ∷ 0x3fc494f64129e414 ∷ 0xbfdf05f6ca6b29ac ∷ 0xbff0000000000000 ∷ 0xbfeb438e38e38e3a ∷ 0xbff0000000000000 ∷ 0x3feda00000000002 ∷ 0x3ff0000000000000 ∷
          []);
      cells = (x 12 ∷ x 13 ∷ x 14 ∷ x 15 ∷ w 3 ∷ []) ∷ (x 8 ∷ x 9 ∷ w 4 ∷ []) ∷ (x 10 ∷ x 11 ∷ w 1 ∷ w 2 ∷ []) ∷ [];
      owners = 2 ∷ 2 ∷ 0 ∷ 1 ∷ [];
      lost = 0;
      again = 0 ∷ 0 ∷ 0 ∷ [];
    })
unfolding row_of
apart = refl

-- a cell that covers the whole box is empty, and all corners are lost
pub empty :
    row_of
    (build
    (mesh
    (floats
    (0xbfe0000000000000 ∷ 0xbfe0000000000000 ∷ 0xbfe0000000000000 ∷ 0x3fe0000000000000 ∷ 0x3fe0000000000000 ∷ 0x3fe0000000000000 ∷ 0x3fe0000000000000 ∷ 0xbfe0000000000000 ∷
    []))
    (0 ∷ 1 ∷ 2 ∷ 0 ∷ 2 ∷ 3 ∷ [])
    (EMPTY ∷ EMPTY ∷ 3 ∷ 2 ∷ EMPTY ∷ EMPTY ∷ [])
    (0 ∷ 1 ∷ 2 ∷ 3 ∷ []))
    (row_box 0xbfe0000000000000 0xbfe0000000000000 0x3fc0000000000000 0x3fc0000000000000))
    ≡ ok (record {
      vertices = floats
          (0 ∷ 0 ∷ 0 ∷ 0 ∷ 0xbfe2000000000000 ∷ 0xbfe2000000000000 ∷ 0xbfe2000000000000 ∷ 0xbfdc000000000000 ∷ 0xbfdc000000000000 ∷ 0xbfdc000000000000 ∷ 0xbfdc000000000000 ∷
          0xbfe2000000000000 ∷ 0xc202a05f20000000 ∷ 0 ∷ 0 ∷ 0x4202a05f20000000 ∷ 0x4202a05f20000000 ∷ 0 ∷ 0 ∷ 0xc202a05f20000000 ∷ []);
      cells = ([]) ∷ ([]) ∷ ([]) ∷ ([]) ∷ [];
      owners = 0 ∷ 0 ∷ 0 ∷ 0 ∷ [];
      lost = 4;
      again = 0 ∷ 0 ∷ 0 ∷ [];
    })
unfolding row_of
empty = refl

-- a mesh far larger than the box: two extensions fall on the first one's vertex
pub extensions_again :
    row_of
    (build
    (mesh
    (floats
    (0x3ff8000000000000 ∷ 0x3fe0000000000000 ∷ 0x3ff0000000000000 ∷ 0x4000000000000000 ∷ 0xc62fffffffffffff ∷ 0xbff8000000000000 ∷ []))
    (0 ∷ 1 ∷ 2 ∷ [])
    (EMPTY ∷ EMPTY ∷ EMPTY ∷ [])
    (1 ∷ 2 ∷ 0 ∷ []))
    (row_box 0 0 0x4000000000000000 0x4000000000000000))
    ≡ ok (record {
      vertices = floats
          (0xc61ffffffffffffe ∷ 0xc605555555555555 ∷ 0xbff0000000000000 ∷ 0xbff0000000000000 ∷ 0xbff0000000000000 ∷ 0x3ff0000000000000 ∷ 0x3ff0000000000000 ∷ 0x3ff0000000000000 ∷
          0x3ff0000000000000 ∷ 0xbff0000000000000 ∷ 0xc61ffffffffffffe ∷ 0xc605555555555555 ∷ []);
      cells = ([]) ∷ ([]) ∷ ([]) ∷ [];
      owners = 0 ∷ 1 ∷ 0 ∷ 0 ∷ [];
      lost = 4;
      again = 2 ∷ 0 ∷ 0 ∷ [];
    })
unfolding row_of
extensions_again = refl

-- a site inside: its cell is its ring of circumcenters
pub inner_site :
    row_of
    (build
    (mesh
    (floats
    (0xbfe8000000000000 ∷ 0xbfe8000000000000 ∷ 0xbfe8000000000000 ∷ 0x3fe8000000000000 ∷ 0x3fe8000000000000 ∷ 0x3fe8000000000000 ∷ 0x3fe8000000000000 ∷ 0xbfe8000000000000 ∷
    0x3fc0000000000000 ∷ 0 ∷ []))
    (0 ∷ 1 ∷ 4 ∷ 1 ∷ 2 ∷ 4 ∷ 2 ∷ 3 ∷ 4 ∷ 3 ∷ 0 ∷ 4 ∷ [])
    (EMPTY ∷ 5 ∷ 10 ∷ EMPTY ∷ 8 ∷ 1 ∷ EMPTY ∷ 11 ∷ 4 ∷ EMPTY ∷ 2 ∷ 7 ∷ [])
    (0 ∷ 1 ∷ 2 ∷ 3 ∷ []))
    (row_box 0 0 0x4000000000000000 0x4000000000000000))
    ≡ ok (record {
      vertices = floats
          (0xbfe4492492492492 ∷ 0 ∷ 0 ∷ 0x3fe7aaaaaaaaaaab ∷ 0x3fec666666666666 ∷ 0 ∷ 0 ∷ 0xbfe7aaaaaaaaaaab ∷ 0xbff0000000000000 ∷ 0xbff0000000000000 ∷ 0xbff0000000000000 ∷
          0x3ff0000000000000 ∷ 0x3ff0000000000000 ∷ 0x3ff0000000000000 ∷ 0x3ff0000000000000 ∷ 0xbff0000000000000 ∷ 0xc202a05f20051249 ∷ 0 ∷ 0 ∷ 0x4202a05f2005eaab ∷
          0x4202a05f2007199a ∷ 0 ∷ 0 ∷ 0xc202a05f2005eaab ∷ 0 ∷ 0xbff0000000000000 ∷ 0xbff0000000000000 ∷ 0 ∷ 0 ∷ 0x3ff0000000000000 ∷ 0x3ff0000000000000 ∷ 0 ∷ []);
      cells = (t 3 ∷ x 12 ∷ w 4 ∷ x 13 ∷ t 0 ∷ []) ∷ (t 0 ∷ x 13 ∷ w 5 ∷ x 14 ∷ t 1 ∷ []) ∷ (t 1 ∷ x 14 ∷ w 6 ∷ x 15 ∷ t 2 ∷ []) ∷ (t 2 ∷ x 15 ∷ w 7 ∷
          x 12 ∷ t 3 ∷ []) ∷ (t 0 ∷ t 1 ∷ t 2 ∷ t 3 ∷ []) ∷ [];
      owners = 0 ∷ 1 ∷ 2 ∷ 3 ∷ [];
      lost = 0;
      again = 0 ∷ 4 ∷ 0 ∷ [];
    })
unfolding row_of
inner_site = refl

-- a hull edge just long enough: see refused_short-edge
pub long_enough :
    row_of
    (build
    (mesh
    (floats
    (0 ∷ 0 ∷ 0x1e60000000000000 ∷ 0 ∷ 0 ∷ 0x3ff0000000000000 ∷ []))
    (0 ∷ 1 ∷ 2 ∷ [])
    (EMPTY ∷ EMPTY ∷ EMPTY ∷ [])
    (0 ∷ 1 ∷ 2 ∷ []))
    (row_box 0 0 0x4000000000000000 0x4000000000000000))
    ≡ ok (record {
      vertices = floats
          (0x1e50000000000000 ∷ 0x3fe0000000000000 ∷ 0xbff0000000000000 ∷ 0xbff0000000000000 ∷ 0xbff0000000000000 ∷ 0x3ff0000000000000 ∷ 0x3ff0000000000000 ∷ 0x3ff0000000000000 ∷
          0x3ff0000000000000 ∷ 0xbff0000000000000 ∷ 0x1e50000000000000 ∷ 0x4202a05f20040000 ∷ 0xc202a05f20000000 ∷ 0x3fe0000000000000 ∷ 0x4202a05f20000000 ∷ 0x3fe0000000000000 ∷
          0x3ff0000000000000 ∷ 0x3fe0000000000000 ∷ 0x1e50000000000000 ∷ 0x3ff0000000000000 ∷ 0xbff0000000000000 ∷ 0x3fe0000000000000 ∷ []);
      cells = (t 0 ∷ x 8 ∷ x 9 ∷ []) ∷ (t 0 ∷ x 9 ∷ x 10 ∷ []) ∷ (t 0 ∷ x 10 ∷ x 10 ∷ w 2 ∷ w 3 ∷ x 8 ∷ x 8 ∷ []) ∷ [];
      owners = 0 ∷ 2 ∷ 2 ∷ 1 ∷ [];
      lost = 2;
      again = 0 ∷ 4 ∷ 1 ∷ [];
    })
unfolding row_of
long_enough = refl

-- an edge with one end inside finds two crossings; the second is added or reused, and stands in no cell for that
pub unused_crossing :
    row_of
    (build
    (mesh
    (floats
    (0xc000000000000000 ∷ 0x3ff0000000000000 ∷ 0x3ff0000000000000 ∷ 0x4000000000000000 ∷ 0x4000000000000000 ∷ 0x3ff0000000000000 ∷ []))
    (2 ∷ 0 ∷ 1 ∷ [])
    (EMPTY ∷ EMPTY ∷ EMPTY ∷ [])
    (1 ∷ 2 ∷ 0 ∷ []))
    (row_box 0xbfd0000000000000 0x3fd0000000000000 0x3fe0000000000000 0x3fe8000000000000))
    ≡ ok (record {
      vertices = floats
          (0 ∷ 0 ∷ 0xbfe0000000000000 ∷ 0xbfc0000000000000 ∷ 0xbfe0000000000000 ∷ 0x3fe4000000000000 ∷ 0 ∷ 0x3fe4000000000000 ∷ 0 ∷ 0xbfc0000000000000 ∷ 0x41fa577eea3dd8fc ∷
          0x41fa577eea3dd8fc ∷ 0 ∷ 0xc202a05f20000000 ∷ 0xc1e78f90e385635d ∷ 0x4201abacaaa40a86 ∷ 0 ∷ 0 ∷ 0xbfcaaaaaaaaaaaab ∷ 0x3fe4000000000000 ∷ []);
      cells = (t 0 ∷ x 4 ∷ w 1 ∷ w 2 ∷ x 8 ∷ []) ∷ (t 0 ∷ x 8 ∷ x 8 ∷ []) ∷ (t 0 ∷ x 8 ∷ x 4 ∷ []) ∷ [];
      owners = 0 ∷ 0 ∷ 1 ∷ 0 ∷ [];
      lost = 1;
      again = 0 ∷ 5 ∷ 1 ∷ [];
    })
unfolding row_of
unused_crossing = refl

-- "square" with a fifth, unused site
pub unused_site :
    row_of
    (build
    (mesh
    (floats
    (0xbfe0000000000000 ∷ 0xbfe0000000000000 ∷ 0xbfe0000000000000 ∷ 0x3fe0000000000000 ∷ 0x3fe0000000000000 ∷ 0x3fe0000000000000 ∷ 0x3fe0000000000000 ∷ 0xbfe0000000000000 ∷
    0x4008000000000000 ∷ 0x4008000000000000 ∷ []))
    (0 ∷ 1 ∷ 2 ∷ 0 ∷ 2 ∷ 3 ∷ [])
    (EMPTY ∷ EMPTY ∷ 3 ∷ 2 ∷ EMPTY ∷ EMPTY ∷ [])
    (0 ∷ 1 ∷ 2 ∷ 3 ∷ []))
    (row_box 0 0 0x4000000000000000 0x4000000000000000))
    ≡ ok (record {
      vertices = floats
          (0 ∷ 0 ∷ 0 ∷ 0 ∷ 0xbff0000000000000 ∷ 0xbff0000000000000 ∷ 0xbff0000000000000 ∷ 0x3ff0000000000000 ∷ 0x3ff0000000000000 ∷ 0x3ff0000000000000 ∷ 0x3ff0000000000000 ∷
          0xbff0000000000000 ∷ 0xc202a05f20000000 ∷ 0 ∷ 0 ∷ 0x4202a05f20000000 ∷ 0x4202a05f20000000 ∷ 0 ∷ 0 ∷ 0xc202a05f20000000 ∷ 0 ∷ 0xbff0000000000000 ∷
          0xbff0000000000000 ∷ 0 ∷ 0 ∷ 0x3ff0000000000000 ∷ 0x3ff0000000000000 ∷ 0 ∷ []);
      cells = (t 1 ∷ x 10 ∷ w 2 ∷ x 11 ∷ t 0 ∷ []) ∷ (t 0 ∷ x 11 ∷ w 3 ∷ x 12 ∷ []) ∷ (t 0 ∷ x 12 ∷ w 4 ∷ x 13 ∷ t 1 ∷ []) ∷ (t 1 ∷ x 13 ∷ w 5 ∷ x 10 ∷
          []) ∷ ([]) ∷ [];
      owners = 0 ∷ 1 ∷ 2 ∷ 3 ∷ [];
      lost = 0;
      again = 0 ∷ 4 ∷ 0 ∷ [];
    })
unfolding row_of
unused_site = refl
