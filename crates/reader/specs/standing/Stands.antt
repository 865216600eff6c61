-- Which states bytes lead to, as a test. Definitions only.
-- That the test is right: `ok_is_valid` and `is_valid_ok` (laws/Stands).
use Rattle.std.specs.Prelude.{Bool, true, false, ℕ, ◌+◌, ◌-◌, ◌%◌, ◌^◌, eqb, ltb}
use Rattle.base.specs.common.Pick.{pick}
use Rattle.base.specs.numbers.Numbers.{refused_form, refused_unclipped}
use Rattle.form.specs.Limits.{most_sites, most_triangles, most_hull}
use Rattle.form.specs.step.Reader.{opens}
use Rattle.form.specs.step.Standing.{sites_begun, triangles_begun, hull_begun, body_of, kinds, bodies}
use Rattle.form.specs.declared.step.Reader.{Reader}

abbrev pub both : Bool → Bool → Bool
both a b = pick a (λ _. b) (λ _. false)

-- no number is past what a form can have
unfoldable pub valid_counts : Reader → Bool
valid_counts r =
    pick (ltb 5 r.stage) (λ _. false)
    (λ _. pick (ltb most_sites r.sites) (λ _. false)
    (λ _. pick (ltb most_triangles r.triangles) (λ _. false)
    (λ _. pick (ltb most_hull r.hull) (λ _. false)
    (λ _. pick (ltb 32 r.left) (λ _. false) (λ _. ltb r.at 7000)))))

-- 20 stands only where a kind is expected and the form has not ended
unfoldable pub valid_refusal : ℕ → ℕ → ℕ → Bool
valid_refusal n stage left =
    pick (eqb n 0) (λ _. true)
    (λ _. pick (eqb n refused_unclipped) (λ _. both (eqb left 0) (ltb stage 5)) (λ _. eqb n refused_form))

unfoldable pub valid_kind : Bool → ℕ → ℕ → Bool
valid_kind old stage clip = pick (eqb stage 0) (λ _. eqb clip 0) (λ _. opens old clip)

-- `CountAt` as a test
unfoldable pub count_at : ℕ → ℕ → ℕ → ℕ → Bool
count_at stage k n limit =
    pick (ltb limit n) (λ _. false)
    (λ _. pick (ltb stage k) (λ _. eqb n 0)
    (λ _. pick (eqb stage k) (λ _. ltb 0 n) (λ _. true)))

unfoldable pub valid_records : Reader → Bool
valid_records r =
    both (count_at r.stage 2 (sites_begun r) most_sites)
    (both (count_at r.stage 3 (triangles_begun r) most_triangles) (count_at r.stage 4 (hull_begun r) most_hull))

-- the byte is the one that the records give
unfoldable pub valid_place : Reader → Bool
valid_place r = pick (ltb (body_of r) r.left) (λ _. false) (λ _. eqb (r.at + r.left) (kinds r + bodies r))

-- the register after n bytes: its low bytes are 0 before the eighth
unfoldable pub valid_register : ℕ → ℕ → Bool
valid_register w n =
    pick (eqb n 0) (λ _. eqb w 0)
    (λ _. pick (ltb n 8) (λ _. eqb (w % 256 ^ (8 - n)) 0) (λ _. true))

unfoldable pub valid_parts : Reader → Bool
valid_parts r =
    both (both (valid_refusal r.refusal r.stage r.left) (valid_kind r.old r.stage r.clip))
    (both (valid_records r) (both (valid_place r) (valid_register r.word (bodies r - r.left))))

unfoldable pub is_valid : Reader → Bool
is_valid r = both (valid_counts r) (valid_parts r)
