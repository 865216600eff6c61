-- What the functions ask of the lent lists, and what they promise of them.
use Rattle.std.specs.Prelude.{Ok, Err, List, ◌≡◌, ℕ, ◌≤◌, Float, length}
use Rattle.form.specs.Limits.{most_sites, most_triangles, most_hull, most_coordinates, most_links}
use Rattle.form.specs.step.Reader.{Reading, takes, verdict, Form}
use Rattle.form.specs.declared.step.Sound.{Sound}

pub record ListRoom (bs ss : List Float) (ts es hs : List ℕ) : Type 0 where
  pub bounds : 4 ≤ length bs
  pub sites : most_coordinates ≤ length ss
  pub triangles : most_links ≤ length ts
  pub halfedges : most_links ≤ length es
  pub hull : most_hull ≤ length hs

-- the counts of a sound form are within their limits
abbrev pub Few : Form → Type 0
Few (Ok s) = (s.sites ≤ most_sites) × (s.triangles ≤ most_triangles) × (s.hull ≤ most_hull)
Few (Err b) = Unit {0}

-- the number of a refused form, 0 for a sound one
abbrev pub form_number : Form → ℕ
form_number (Ok s) = 0
form_number (Err b) = b.number

-- what is known of a sound form; nothing of a refused one
abbrev pub form_sound : Form → Sound
form_sound (Ok s) = s
form_sound (Err b) = record { sites = 0; triangles = 0; hull = 0; clip = 0 }

-- the byte of its refusal, 0 for a sound one
abbrev pub form_place : Form → ℕ
form_place (Ok s) = 0
form_place (Err b) = b.at

-- `read`'s promise: its answer, and each list as the whole form leaves it
pub record Reads (s : List ℕ) (d : Reading) (a : Form) (bs ss : List Float) (ts es hs : List ℕ) : Type 0 where
  pub answer : a ≡ verdict (takes d s).reader
  pub bounds : bs ≡ (takes d s).bounds
  pub sites : ss ≡ (takes d s).sites
  pub triangles : ts ≡ (takes d s).triangles
  pub halfedges : es ≡ (takes d s).halfedges
  pub hull : hs ≡ (takes d s).hull
  pub few : Few a
