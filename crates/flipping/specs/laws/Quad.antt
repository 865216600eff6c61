-- The two triangles on both sides of a half-edge of an accepted mesh. The half-edge a runs from p to q, b back; r from x to p comes before a and l
-- from y to q before b. By where they start and end the six half-edges and the two outer pairs are all different.
use Rattle.std.specs.Prelude.{◌≡◌, refl, List, ◌≢◌, ℕ, ◌<◌, length}
use Rattle.std.proofs.Common.{sym, ap, ◌∙◌, ⊎_elim}
use Rattle.mesh.specs.Mesh.{next_of, start_of, end_of, pair_of, Mates}
use Rattle.mesh.specs.Accepted.{Topology}
use Rattle.mesh.specs.laws.Next.{next_thrice}
use Rattle.mesh.specs.laws.Facts.{paired, next_in}
use Rattle.mesh_check.specs.pairing.laws.Threes.{sound_ends}
use Rattle.flipping.specs.Flip.{before_of, Flippable}

pub record Quad (tri he : List ℕ) (a b r l : ℕ) : Type 0 where
  pub a_in : a < length he
  pub b_in : b < length he
  pub r_in : r < length he
  pub l_in : l < length he
  pub ab : pair_of he a ≡ b
  pub ba : pair_of he b ≡ a
  pub after_r : next_of r ≡ a
  pub after_l : next_of l ≡ b
  pub before_a : next_of (next_of a) ≡ r
  pub before_b : next_of (next_of b) ≡ l
  pub end_a : end_of tri a ≡ start_of tri b
  pub end_b : end_of tri b ≡ start_of tri a
  pub pq : start_of tri a ≢ start_of tri b
  pub qx : start_of tri b ≢ start_of tri r
  pub xp : start_of tri r ≢ start_of tri a
  pub py : start_of tri a ≢ start_of tri l
  pub yq : start_of tri l ≢ start_of tri b
  pub xy : start_of tri r ≢ start_of tri l

-- seen from the other side
pub quad_turn : {tri he : List ℕ} {a b r l : ℕ} → Quad tri he a b r l → Quad tri he b a l r
quad_turn q = record {
  a_in = q.b_in;
  b_in = q.a_in;
  r_in = q.l_in;
  l_in = q.r_in;
  ab = q.ba;
  ba = q.ab;
  after_r = q.after_l;
  after_l = q.after_r;
  before_a = q.before_b;
  before_b = q.before_a;
  end_a = q.end_b;
  end_b = q.end_a;
  pq = λ z. q.pq (sym z);
  qx = q.py;
  xp = q.yq;
  py = q.qx;
  yq = q.xp;
  xy = λ z. q.xy (sym z);
}

-- on an accepted mesh a half-edge that may be flipped has such two triangles
module _ {tri he hull : List ℕ} {sites : ℕ} (ok : Topology tri he hull sites) where
  ends : (e : ℕ) → e < length he → start_of tri e ≢ end_of tri e
  ends e l = sound_ends tri sites ok.threes ok.sound e (rw (← ok.same) l)

  pub flippable_quad : (table : List ℕ) (a : ℕ) → Flippable tri he sites table a → Quad tri he a (pair_of he a) (before_of a) (before_of (pair_of he a))
  flippable_quad table a f =
      let b = pair_of he a in
      let m : Mates tri he a b = ⊎_elim (λ z. absurd (f.paired z)) (λ z. z) ((paired ok).pairs a f.in_range) in
      let la = f.in_range in
      let lb = m.inside in
      record {
        a_in = la;
        b_in = lb;
        r_in = next_in ok (next_in ok la);
        l_in = next_in ok (next_in ok lb);
        ab = refl;
        ba = m.back;
        after_r = next_thrice a;
        after_l = next_thrice b;
        before_a = refl;
        before_b = refl;
        end_a = sym m.from;
        end_b = m.to;
        pq = λ z. ends a la (z ∙ m.from);
        qx = λ z. ends (next_of a) (next_in ok la) (sym m.from ∙ z);
        xp = λ z. ends (before_of a) (next_in ok (next_in ok la)) (z ∙ ap (start_of tri) (sym (next_thrice a)));
        py = λ z. ends (next_of b) (next_in ok lb) (m.to ∙ z);
        yq = λ z. ends (before_of b) (next_in ok (next_in ok lb)) (z ∙ ap (start_of tri) (sym (next_thrice b)));
        xy = f.apart;
      }
