-- Theorem: however a form is cut, what is fed in parts and ended is what is read at once: number, byte, counts and lists. And a refusal stays.
use Rattle.std.specs.Prelude.{◌≡◌, refl, Bool, true, false, List, [], ◌∷◌, ◌++◌, ◌≢◌, ℕ, ◌≤◌, ltb, length, replicate}
use Rattle.std.proofs.Common.{sym, ap, ◌∙◌, append_assoc, append-nil, ltb-false, le-ltb}
use Rattle.std.proofs.lemmas.List.{length-replicate}
use Rattle.form.specs.step.Reader.{Reading, start, finished, takes}
use Rattle.form.specs.laws.Run.{takes_append}
use Rattle.form.specs.laws.Feed.{takes_none}
use Rattle.form.specs.declared.step.Reader.{Reader}
use Rattle.reader.specs.state.Words.{stored}
use Rattle.reader.specs.state.Entered.{entered}
use Rattle.reader.specs.state.Kept.{stored_length, stored_again, entered_stored, new_entered, new_start, new_finished}
use Rattle.reader.specs.answers.Answers.{answer_of, report_of}
use Rattle.reader.specs.answers.laws.Answers.{refused_broken, report_answer, report_broken}
use Rattle.reader.specs.declared.answers.Answer.{Answer}
use Rattle.reader.specs.declared.answers.Report.{Report}
use Rattle.reader.specs.Calls.{FormLists, reading_of, lists_of, roomy, beginning, AtFeed, fed, fed_by, feed_call, AtEnd, end_call, AtRead, read_call}
use Rattle.reader.specs.Promise.{ReaderBegins, ReaderFeeds, ReaderEnds, ReadsForm}
use Rattle.reader.specs.laws.Calls.{feed_short, feed_close, feed_wide, end_wide, read_wide, new_takes, takes_refused}
use Rattle.reader.specs.laws.Lengths.{same_room}
use Rattle.reader.specs.laws.Refusals.{begun_words, finished_broken}

-- ---- two blocks are their join

module _ (ws : List ℕ) (l : FormLists) (s t : List ℕ) where
  abbrev then : AtFeed → AtFeed
  then f = feed_call f.words f.form_lists t

  wide : ltb (length ws) 16 ≡ false → roomy l ≡ true → then (feed_call ws l s) ≡ feed_call ws l (s ++ t)
  wide e f =
      let d = reading_of (entered ws) l in
      let n = (takes d s).reader in
      let long : 16 ≤ length ws = ltb-false _ _ e in
      let back : entered (stored ws n) ≡ n = entered_stored ws n (new_takes s d (new_entered ws)) long in
      ap then (feed_wide ws l s e f)
      ∙ feed_wide (stored ws n) (lists_of (takes d s)) t (ap (λ (k : ℕ). ltb k 16) (stored_length ws n) ∙ e) (same_room s d ∙ f)
      ∙ ap (λ (r : Reader). fed_by (stored ws n) (takes (reading_of r (lists_of (takes d s))) t)) back
      ∙ ap (fed_by (stored ws n)) (sym (takes_append s t d))
      ∙ ap (λ (v : List ℕ). fed (answer_of (takes d (s ++ t)).reader) v (lists_of (takes d (s ++ t)))) (stored_again ws n (takes d (s ++ t)).reader long)
      ∙ sym (feed_wide ws l (s ++ t) e f)

  pub two_blocks : feed_call (feed_call ws l s).words (feed_call ws l s).form_lists t ≡ feed_call ws l (s ++ t)
  two_blocks = go (ltb (length ws) 16) (roomy l) refl refl
    where
      go : (a b : Bool) → ltb (length ws) 16 ≡ a → roomy l ≡ b → then (feed_call ws l s) ≡ feed_call ws l (s ++ t)
      go true b e f = ap then (feed_short ws l s e) ∙ feed_short ws l t e ∙ sym (feed_short ws l (s ++ t) e)
      go false true e f = wide e f
      go false false e f = ap then (feed_close ws l s e f) ∙ feed_close ws l t e f ∙ sym (feed_close ws l (s ++ t) e f)

-- ---- any number of blocks

abbrev pub joined_blocks : List (List ℕ) → List ℕ
joined_blocks [] = []
joined_blocks (s ∷ ss) = s ++ joined_blocks ss

-- what the promise of `feed` allows of blocks, one after the other
pub data Parts : List ℕ → FormLists → List (List ℕ) → List ℕ → FormLists → Type 0 where
  none : {ws : List ℕ} {l : FormLists} → Parts ws l [] ws l
  more :
      {ws ws' ws'' : List ℕ} {l l' l'' : FormLists} {s : List ℕ} {ss : List (List ℕ)} {a : Answer}
      → ReaderFeeds ws l s ws' l' a → Parts ws' l' ss ws'' l'' → Parts ws l (s ∷ ss) ws'' l''

parts_join :
    (ws : List ℕ) (l : FormLists) (p : List ℕ) {ws' ws'' : List ℕ} {l' l'' : FormLists} {ss : List (List ℕ)}
    → ws' ≡ (feed_call ws l p).words → l' ≡ (feed_call ws l p).form_lists → Parts ws' l' ss ws'' l''
    → (ws'' ≡ (feed_call ws l (p ++ joined_blocks ss)).words) × (l'' ≡ (feed_call ws l (p ++ joined_blocks ss)).form_lists)
parts_join ws l p e f none =
    let g : p ++ [] ≡ p = append-nil p in
    (e ∙ sym (ap (λ (s : List ℕ). (feed_call ws l s).words) g), f ∙ sym (ap (λ (s : List ℕ). (feed_call ws l s).form_lists) g))
parts_join ws l p e f (more {s = s} {ss = ss} fs ps) =
    let g : feed_call _ _ s ≡ feed_call ws l (p ++ s) = (λ i. feed_call (e i) (f i) s) ∙ two_blocks ws l p s in
    let w = ap (λ (x : AtFeed). x.words) (fs ∙ g) in
    let v = ap (λ (x : AtFeed). x.form_lists) (fs ∙ g) in
    let (a, b) = parts_join ws l (p ++ s) w v ps in
    let i : (p ++ s) ++ joined_blocks ss ≡ p ++ (s ++ joined_blocks ss) = append_assoc p s (joined_blocks ss) in
    (a ∙ ap (λ (x : List ℕ). (feed_call ws l x).words) i, b ∙ ap (λ (x : List ℕ). (feed_call ws l x).form_lists) i)

-- ---- from the beginning

module _ (ws₀ : List ℕ) (long : 16 ≤ length ws₀) where
  abbrev first : List ℕ
  first = beginning ws₀

  zeros_long : 16 ≤ length (replicate {A = ℕ} (length ws₀) 0)
  zeros_long = rw (length-replicate {A = ℕ} (length ws₀) 0) long

  first_long : 16 ≤ length first
  first_long = rw (stored_length (replicate (length ws₀) 0) (start false)) zeros_long

  first_entered : entered first ≡ start false
  first_entered = entered_stored (replicate (length ws₀) 0) (start false) new_start zeros_long

  -- no block leaves the beginning as it is
  first_still : (l : FormLists) → (first ≡ (feed_call first l []).words) × (l ≡ (feed_call first l []).form_lists)
  first_still l = go (roomy l) refl
    where
      e : ltb (length first) 16 ≡ false
      e = le-ltb _ _ first_long

      go : (t : Bool) → roomy l ≡ t → (first ≡ (feed_call first l []).words) × (l ≡ (feed_call first l []).form_lists)
      go false f = let g = sym (feed_close first l [] e f) in (ap (λ (x : AtFeed). x.words) g, ap (λ (x : AtFeed). x.form_lists) g)
      go true f =
          let g : feed_call first l [] ≡ fed_by first (reading_of (start false) l) =
          feed_wide first l [] e f ∙ ap (fed_by first) (takes_none (reading_of (entered first) l) ∙ ap (λ (r : Reader). reading_of r l) first_entered)
          in
          (sym (ap (λ (x : AtFeed). x.words) g ∙ stored_again (replicate (length ws₀) 0) (start false) (start false) zeros_long), sym (ap (λ (x : AtFeed). x.form_lists) g))

  -- the state and the lists after any bytes
  module _ (l : FormLists) (room : roomy l ≡ true) (s : List ℕ) where
    abbrev done : Reading
    done = takes (reading_of (start false) l) s

    fed_from : feed_call first l s ≡ fed_by first done
    fed_from = feed_wide first l s (le-ltb _ _ first_long) room ∙ ap (λ (r : Reader). fed_by first (takes (reading_of r l) s)) first_entered

    end_from_lem : (end_call (feed_call first l s).words).report ≡ (read_call l s).report
    end_from_lem =
        let n = done.reader in
        let e : ltb (length (stored first n)) 16 ≡ false = le-ltb (length (stored first n)) 16 (rw (stored_length first n) first_long) in
        ap (λ (x : AtFeed). (end_call x.words).report) fed_from
        ∙ ap (λ (x : AtEnd). x.report) (end_wide (stored first n) e)
        ∙ ap (λ (r : Reader). report_of (finished r)) (entered_stored first n (new_takes s (reading_of (start false) l) new_start) first_long)
        ∙ sym (ap (λ (x : AtRead). x.report) (read_wide l s room))

    lists_from : (feed_call first l s).form_lists ≡ (read_call l s).form_lists
    lists_from = ap (λ (x : AtFeed). x.form_lists) fed_from ∙ sym (ap (λ (x : AtRead). x.form_lists) (read_wide l s room))

-- begun, fed in any parts and ended, a form is what it is read as at once
pub cutting :
    (ws₀ ws' : List ℕ) (l : FormLists) (ss : List (List ℕ)) {ws ws'' : List ℕ} {l' m : FormLists} {t u : Report}
    → roomy l ≡ true → ReaderBegins ws₀ ws 0 → Parts ws l ss ws' l' → ReaderEnds ws' ws'' t → ReadsForm l (joined_blocks ss) m u → (t ≡ u) × (l' ≡ m)
cutting ws₀ ws' l ss room b ps e f =
    let (long, w) = begun_words ws₀ b in
    let (p, q) = first_still ws₀ long l in
    let (x, y) = parts_join (beginning ws₀) l [] (w ∙ p) q ps in (
      ap (λ (z : AtEnd). z.report) e ∙ ap (λ (z : List ℕ). (end_call z).report) x ∙ end_from_lem ws₀ long l room (joined_blocks ss) ∙ sym (ap (λ (z : AtRead). z.report) f),
      y ∙ lists_from ws₀ long l room (joined_blocks ss) ∙ sym (ap (λ (z : AtRead). z.form_lists) f),
    )

-- ---- a refusal stays

-- a block that was refused is refused the same with whatever follows it, at once or as a block of its own
pub refusal_stays : (ws : List ℕ) (l : FormLists) (s t : List ℕ) → (feed_call ws l s).answer.number ≢ 0 → feed_call ws l (s ++ t) ≡ feed_call ws l s
refusal_stays ws l s t d = go (ltb (length ws) 16) (roomy l) refl refl
  where
    go : (a b : Bool) → ltb (length ws) 16 ≡ a → roomy l ≡ b → feed_call ws l (s ++ t) ≡ feed_call ws l s
    go true b e f = feed_short ws l (s ++ t) e ∙ sym (feed_short ws l s e)
    go false false e f = feed_close ws l (s ++ t) e f ∙ sym (feed_close ws l s e f)
    go false true e f =
        let c = reading_of (entered ws) l in
        let g = feed_wide ws l s e f in
        let k = refused_broken (takes c s).reader (λ z. d (ap (λ (x : AtFeed). x.answer.number) g ∙ z)) in
        feed_wide ws l (s ++ t) e f ∙ ap (fed_by ws) (takes_append s t c ∙ takes_refused t (takes c s) k) ∙ sym g

pub next_refused : (ws : List ℕ) (l : FormLists) (s t : List ℕ) → (feed_call ws l s).answer.number ≢ 0 → feed_call (feed_call ws l s).words (feed_call ws l s).form_lists t ≡ feed_call ws l s
next_refused ws l s t d = two_blocks ws l s t ∙ refusal_stays ws l s t d

-- and so does the end
pub end_refused :
    (ws : List ℕ) (l : FormLists) (s : List ℕ) → 16 ≤ length ws → roomy l ≡ true → (feed_call ws l s).answer.number ≢ 0
    → ((end_call (feed_call ws l s).words).report.number ≡ (feed_call ws l s).answer.number) × ((end_call (feed_call ws l s).words).report.at ≡ (feed_call ws l s).answer.at)
end_refused ws l s long f d =
    let e : ltb (length ws) 16 ≡ false = le-ltb _ _ long in
    let c = reading_of (entered ws) l in
    let n = (takes c s).reader in
    let g = feed_wide ws l s e f in
    let k = refused_broken n (λ z. d (ap (λ (x : AtFeed). x.answer.number) g ∙ z)) in
    let w : (end_call (feed_call ws l s).words).report ≡ report_of n =
    ap (λ (x : AtFeed). (end_call x.words).report) g
    ∙ ap (λ (x : AtEnd). x.report) (end_wide (stored ws n) (ap (λ (j : ℕ). ltb j 16) (stored_length ws n) ∙ e))
    ∙ ap (λ (r : Reader). report_of (finished r)) (entered_stored ws n (new_takes s c (new_entered ws)) long)
    ∙ ap report_of (finished_broken n k)
    in
    let (a, b) = report_answer n k in
    (ap (λ (x : Report). x.number) w ∙ a ∙ sym (ap (λ (x : AtFeed). x.answer.number) g), ap (λ (x : Report). x.at) w ∙ b ∙ sym (ap (λ (x : AtFeed). x.answer.at) g))

-- what the end refused stays refused, with the same byte, and the lists stay
pub ended_refused :
    (ws : List ℕ) (l : FormLists) (t : List ℕ) → 16 ≤ length ws → roomy l ≡ true → (end_call ws).report.number ≢ 0
    → ((feed_call (end_call ws).words l t).answer.number ≡ (end_call ws).report.number) × ((feed_call (end_call ws).words l t).answer.at ≡ (end_call ws).report.at)
    × ((feed_call (end_call ws).words l t).form_lists ≡ l)
ended_refused ws l t long f d =
    let e : ltb (length ws) 16 ≡ false = le-ltb _ _ long in
    let n = finished (entered ws) in
    let g = end_wide ws e in
    let o = new_finished (entered ws) (new_entered ws) in
    let k = report_broken n (λ z. d (ap (λ (x : AtEnd). x.report.number) g ∙ z)) in
    let w : feed_call (end_call ws).words l t ≡ fed_by (stored ws n) (reading_of n l) =
    ap (λ (x : AtEnd). feed_call x.words l t) g
    ∙ feed_wide (stored ws n) l t (ap (λ (j : ℕ). ltb j 16) (stored_length ws n) ∙ e) f
    ∙ ap (λ (r : Reader). fed_by (stored ws n) (takes (reading_of r l) t)) (entered_stored ws n o long)
    ∙ ap (fed_by (stored ws n)) (takes_refused t (reading_of n l) k)
    in
    let (a, b) = report_answer n k in (
      ap (λ (x : AtFeed). x.answer.number) w ∙ sym a ∙ sym (ap (λ (x : AtEnd). x.report.number) g),
      ap (λ (x : AtFeed). x.answer.at) w ∙ sym b ∙ sym (ap (λ (x : AtEnd). x.report.at) g),
      ap (λ (x : AtFeed). x.form_lists) w,
    )
