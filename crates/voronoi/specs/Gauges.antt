-- The promises of the calls that read and write a MultiPoint: the number, the count and the output at exit. What such a file is: MultiPoint of wkb::multipoint; what the
-- calls are for: Exactly there and RoundTrip of wkb::multipoint_writer.
use Rattle.std.specs.Prelude.{List, ℕ, Float}
use Rattle.wkb.specs.multipoint.Promise.{ReadAnswer}
use Rattle.wkb.specs.multipoint_writer.Promise.{WriteAnswer}

-- 21, 1, 2, 6
abbrev pub ReadMultipoint : List ℕ → List Float → List Float → ℕ → ℕ → Type 0
ReadMultipoint = ReadAnswer

-- 1, 2, 6
abbrev pub WriteMultipoint : List Float → List ℕ → List ℕ → ℕ → ℕ → Type 0
WriteMultipoint = WriteAnswer
