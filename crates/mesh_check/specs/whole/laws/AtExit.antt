-- What a lent slice holds at exit, by the cases of the number.
use Rattle.std.specs.Prelude.{◌≡◌, List, ◌≢◌, ℕ, ◌≤◌, ◌<◌, length, replicate}
use Rattle.std.proofs.Common.{arith}
use borrow.Author.Tests.{eq-eqb, ne_eqb, lt-ltb, le-ltb}
use Rattle.base.specs.numbers.Numbers.{refused_triangle}
use Rattle.mesh_check.specs.whole.AtExit.{at_exit}

module _ {A : Type 0} (blank : A) (made old : List A) (r : ℕ) where
  pub exit_made : r ≡ 0 → at_exit blank made old r ≡ made
  unfolding at_exit
  exit_made h = rw (eq-eqb r 0 h)

  pub exit_held : r ≢ 0 → r < refused_triangle → at_exit blank made old r ≡ old
  unfolding at_exit
  exit_held h l = rw (ne_eqb r 0 h, lt-ltb r refused_triangle l)

  pub exit_blank : refused_triangle ≤ r → at_exit blank made old r ≡ replicate (length old) blank
  unfolding at_exit
  exit_blank l = rw (ne_eqb r 0 (omega arith), le-ltb r refused_triangle l)
