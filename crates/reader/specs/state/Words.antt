-- A reader's state as sixteen words, of which the last seven are 0 for now; the flag for forms of old is not among them. Definitions only.
use Rattle.std.specs.Prelude.{false, List, [], ◌∷◌, ℕ, get_or}
use Rattle.std.proofs.lemmas.List.Edits.{sets}
use Rattle.form.specs.declared.step.Reader.{Reader}

abbrev pub words_of : Reader → List ℕ
words_of r =
    r.stage ∷ r.left ∷ r.word ∷ r.at ∷ r.refusal ∷ r.clip ∷ r.sites ∷ r.triangles ∷ r.hull
    ∷ 0 ∷ 0 ∷ 0 ∷ 0 ∷ 0 ∷ 0 ∷ 0 ∷ []

abbrev pub reader_of : List ℕ → Reader
reader_of ws =
    record {
      old = false;
      stage = get_or ws 0 0;
      left = get_or ws 1 0;
      word = get_or ws 2 0;
      at = get_or ws 3 0;
      refusal = get_or ws 4 0;
      clip = get_or ws 5 0;
      sites = get_or ws 6 0;
      triangles = get_or ws 7 0;
      hull = get_or ws 8 0;
    }

-- words after the sixteenth stay
unfoldable pub stored : List ℕ → Reader → List ℕ
stored ws r = sets ws 0 (words_of r)
