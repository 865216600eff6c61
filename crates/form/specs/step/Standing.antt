-- What every state that bytes lead to has: it is one that its records give, to the byte. Definitions only.
use Rattle.std.specs.Prelude.{true, ◌⊎◌, ◌≢◌, ◌≡◌, ℕ, ◌+◌, ◌-◌, ◌*◌, ◌%◌, ◌^◌, ◌≤◌, ◌<◌, eqb}
use Rattle.base.specs.common.Pick.{pick}
use Rattle.base.specs.numbers.Numbers.{refused_form, refused_unclipped}
use Rattle.form.specs.Limits.{most_sites, most_triangles, most_hull}
use Rattle.form.specs.step.Reader.{size_of, opens}
use Rattle.form.specs.declared.step.Reader.{Reader}

-- 1 where a record of this kind is under way
unfoldable pub under : Reader → ℕ → ℕ
under r k = pick (eqb r.stage k) (λ _. pick (eqb r.left 0) (λ _. 0) (λ _. 1)) (λ _. 0)

-- records that have begun
abbrev pub sites_begun : Reader → ℕ
sites_begun r = r.sites + under r 2

abbrev pub triangles_begun : Reader → ℕ
triangles_begun r = r.triangles + under r 3

abbrev pub hull_begun : Reader → ℕ
hull_begun r = r.hull + under r 4

-- the length of the present record's body
unfoldable pub body_of : Reader → ℕ
body_of r = pick (eqb r.stage 1) (λ _. size_of r.clip) (λ _. size_of r.stage)

-- the kinds' bytes, and the bodies' with what is to come of the last
unfoldable pub kinds : Reader → ℕ
kinds r = pick (eqb r.stage 0) (λ _. 0) (λ _. 1) + sites_begun r + triangles_begun r + hull_begun r + pick (eqb r.stage 5) (λ _. 1) (λ _. 0)

unfoldable pub bodies : Reader → ℕ
bodies r = size_of r.clip + 16 * sites_begun r + 24 * triangles_begun r + 4 * hull_begun r

-- n records of kind k at this stage: none before it, one at least in it, and not more than there may be
pub record CountAt (stage k n limit : ℕ) : Type 0 where
  pub few : n ≤ limit
  pub before : stage < k → n ≡ 0
  pub in_it : stage ≡ k → 0 < n

-- the numbers of the reader's refusals
abbrev pub IsNumber : ℕ → Type 0
IsNumber n = (n ≡ refused_form) ⊎ (n ≡ refused_unclipped)

-- the state is that of its records: so it is after any bytes
pub record Ok (r : Reader) : Type 0 where
  pub refusal : (r.refusal ≡ 0) ⊎ IsNumber r.refusal
  pub by_name : r.refusal ≡ refused_unclipped → (r.left ≡ 0) × (r.stage < 5)
  pub stage : r.stage ≤ 5
  pub no_clip : r.stage ≡ 0 → r.clip ≡ 0
  pub clip : r.stage ≢ 0 → opens r.old r.clip ≡ true
  pub left : r.left ≤ body_of r
  pub sites : CountAt r.stage 2 (sites_begun r) most_sites
  pub triangles : CountAt r.stage 3 (triangles_begun r) most_triangles
  pub hull : CountAt r.stage 4 (hull_begun r) most_hull
  pub at : r.at + r.left ≡ kinds r + bodies r
  pub no_word : bodies r - r.left ≡ 0 → r.word ≡ 0
  pub word : r.word % 256 ^ (8 - (bodies r - r.left)) ≡ 0
