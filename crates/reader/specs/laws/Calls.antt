-- The calls' cases as equations, and a state's room and state after a call.
use Rattle.std.specs.Prelude.{◌≡◌, refl, true, false, List, [], ◌∷◌, ℕ, ltb, length}
use Rattle.std.proofs.Common.{sym, ap, ◌∙◌}
use Rattle.form.specs.step.Reader.{Reading, broken, start, takes}
use Rattle.form.specs.step.Standing.{Ok}
use Rattle.form.specs.step.laws.Standing.{ok_steps}
use Rattle.form.specs.laws.Run.{takes_reader}
use Rattle.form.specs.laws.Fill.{take_broken}
use Rattle.reader.specs.state.Entered.{entered}
use Rattle.reader.specs.state.Kept.{New, new_steps}
use Rattle.reader.specs.answers.Answers.{no_room, no_report}
use Rattle.reader.specs.Calls.{FormLists, reading_of, roomy, fed, fed_by, feed_call, ended_by, end_call, read_form, read_by, read_call}

module _ (ws : List ℕ) (l : FormLists) (s : List ℕ) where
  pub feed_short : ltb (length ws) 16 ≡ true → feed_call ws l s ≡ fed no_room ws l
  unfolding feed_call
  feed_short e = rw e

  pub feed_close : ltb (length ws) 16 ≡ false → roomy l ≡ false → feed_call ws l s ≡ fed no_room ws l
  unfolding feed_call
  feed_close e f = rw (e, f)

  pub feed_wide : ltb (length ws) 16 ≡ false → roomy l ≡ true → feed_call ws l s ≡ fed_by ws (takes (reading_of (entered ws) l) s)
  unfolding feed_call
  feed_wide e f = rw (e, f)

pub end_wide : (ws : List ℕ) → ltb (length ws) 16 ≡ false → end_call ws ≡ ended_by ws
unfolding end_call
end_wide ws e = rw e

pub read_wide : (l : FormLists) (s : List ℕ) → roomy l ≡ true → read_call l s ≡ read_by (takes (reading_of (start false) l) s)
unfolding read_call
read_wide l s e = rw e

pub read_close : (l : FormLists) (s : List ℕ) → roomy l ≡ false → read_call l s ≡ read_form no_report l
unfolding read_call
read_close l s e = rw e

-- bytes lead to a state that its records give
pub ok_takes : (s : List ℕ) (d : Reading) → Ok d.reader → Ok (takes d s).reader
ok_takes s d o = rw (takes_reader s d) (ok_steps s d.reader o)

-- the same of the flag
pub new_takes : (s : List ℕ) (d : Reading) → New d.reader → New (takes d s).reader
new_takes s d o = rw (takes_reader s d) (new_steps s d.reader o)

-- after a refusal no byte counts
pub takes_refused : (s : List ℕ) (d : Reading) → broken d.reader ≡ true → takes d s ≡ d
unfolding takes
takes_refused [] d e = refl
takes_refused (b ∷ s) d e =
    ap (λ (x : Reading). takes x s) (sym (take_broken d.reader b d.bounds d.sites d.triangles d.halfedges d.hull e)) ∙ takes_refused s d e
