-- What `certify` prints, said of the bytes of its input: the line of the cutting of the mesh whose form they are, in slices that are long enough for every form and hold zeros, and of
-- the certificate, with 32 bits, of what the slices hold then; or of the reader's refusal. After a refusal of the cutting its number alone is told. Definitions only.
use Rattle.std.specs.Prelude.{◌≡◌, List, ℕ, ◌+◌, Float, replicate, take}
use Rattle.base.specs.common.Binary64 as B
use Rattle.plane.specs.declared.given.Given.{Given}
use Rattle.mesh.specs.Accepted.{Mesh, site_count}
use Rattle.cutting_calls.specs.cut_admission.CutSlices.{CutSlices, cut_slices}
use Rattle.cutting_calls.specs.call.Promise.{CutAnswer}
use Rattle.certifying.specs.call.Promise.{CertifyAnswer}
use Rattle.form.specs.Limits.{most_sites}
use Rattle.printing.specs.Rooms.{offset_room}
use Rattle.printing.specs.OfForm.{OfForm}
use Rattle.printing.specs.parts.Labelled.{refusal}
use Rattle.certify.specs.Rooms.{cut_vertex_room, cut_index_room, certify_work}
use Rattle.certify.specs.text.CertifyLine.{certify_text}

-- the certificate of pieces that were cut with this number
pub record PiecesTold (g : Given) (cut : ℕ) (sites v : List Float) (off ix text : List ℕ) : Type 0 where
  pub work : List ℕ
  pub number : ℕ
  pub kind : ℕ
  pub site : ℕ
  pub vertex : ℕ
  pub other : ℕ
  pub answer : CertifyAnswer g sites v off ix 32 (replicate certify_work 0) work number kind site vertex other
  pub line : text ≡ certify_text cut number kind site vertex other

-- slices of zeros, as long as every form needs them
abbrev pub lent_zeros : CutSlices
lent_zeros = cut_slices (replicate most_sites 0) (replicate cut_vertex_room B.zero) (replicate cut_index_room 0) (replicate offset_room 0)

-- of a mesh in a box
pub record CertifyTold (m : Mesh) (g : Given) (text : List ℕ) : Type 0 where
  pub slices : CutSlices
  pub number : ℕ
  pub count : ℕ
  pub cut : CutAnswer m g lent_zeros slices number count
  pub told : PiecesTold g number m.sites slices.vertices (take (site_count m.sites + 1) slices.offsets) slices.indexes text

abbrev pub CertifyPrints : List ℕ → List ℕ → Type 0
CertifyPrints = OfForm CertifyTold refusal
