-- Five answers as one, and a list's by its four parts.
use Rattle.std.specs.Prelude.{◌≡◌, List, Bool, true, false, ◌&&◌, ℕ, ◌*◌, ◌≤◌, ◌<◌, Float, length}
use Rattle.std.proofs.Common.{◌∙◌, ap₂, subst, lt-ltb, le-ltb}
use Rattle.base.specs.common.Decide.{Says}
use Rattle.base.specs.numbers.Numbers.{EMPTY, refused_triangle}
use Rattle.test_replay.specs.words.Words.{word_of, after_of}
use Rattle.test_replay.specs.words.Held.{BuildHeld, RefusedHeld, ListHeld, HasWords, HasFloats, table_place, points_place, starts_place, end_place, refused_rest, refused_bits}

-- five answers are one to a question that is all five
says_two : (P Q : Type 0) (a b : Bool) → Says a P → Says b Q → Says (a && b) (P × Q)
says_two P Q true true p q = (p, q)
says_two P Q true false p q = λ h. q h.1
says_two P Q false b p q = λ h. p h.0

says_as : (P Q : Type 0) (b : Bool) → (P → Q) → (Q → P) → Says b P → Says b Q
says_as P Q true f g p = f p
says_as P Q false f g p = λ q. p (g q)

pub rest_before : (number : ℕ) → number < refused_triangle → 7 ≡ refused_rest number
unfolding refused_rest
rest_before number h = rw (lt-ltb _ _ h)

pub rest_cleared : (number : ℕ) → refused_triangle ≤ number → EMPTY ≡ refused_rest number
unfolding refused_rest
rest_cleared number h = rw (le-ltb _ _ h)

pub bits_before : (number : ℕ) → number < refused_triangle → 0x401C_0000_0000_0000 ≡ refused_bits number
unfolding refused_bits
bits_before number h = rw (lt-ltb _ _ h)

pub bits_cleared : (number : ℕ) → refused_triangle ≤ number → 0 ≡ refused_bits number
unfolding refused_bits
bits_cleared number h = rw (le-ltb _ _ h)

-- a place reckoned from numbers that were found
pub after_of_lem : {p p' m m' r : ℕ} → r ≡ after_of p m → p ≡ p' → m ≡ m' → r ≡ after_of p' m'
after_of_lem e f g = e ∙ ap₂ after_of f g

-- the answers on five slices, at places that were found, are the answer on the build
pub build_says : (b : List ℕ) (k : ℕ) (work : List ℕ) (vertices : List Float) (indexes offsets counts : List ℕ) (h i j l m : Bool) (t p v s e x w : ℕ)
    → e ≡ end_place b k (length work) → t ≡ table_place k → p ≡ points_place k (length work) → v ≡ word_of b k → s ≡ starts_place b k (length work)
    → x ≡ after_of e 1 → w ≡ word_of b e → Says h (HasWords counts b k 9 EMPTY) → Says i (HasWords work b t (length work) EMPTY)
    → Says j (HasFloats vertices b p (2 * v) 0) → Says l (HasWords offsets b s (length offsets) EMPTY) → Says m (HasWords indexes b x w EMPTY)
    → Says ((((h && i) && j) && l) && m) (BuildHeld b k work vertices indexes offsets counts)
build_says b k work vertices indexes offsets counts h i j l m t p v s e x w pe pt pp pv ps px pw sh si sj sl sm =
    let n = length work in
    let H = HasWords counts b k 9 EMPTY in
    let I = HasWords work b (table_place k) n EMPTY in
    let J = HasFloats vertices b (points_place k n) (2 * word_of b k) 0 in
    let L = HasWords offsets b (starts_place b k n) (length offsets) EMPTY in
    let M = HasWords indexes b (after_of (end_place b k n) 1) (word_of b (end_place b k n)) EMPTY in
    let ti : Says i I = subst (λ a. Says i (HasWords work b a n EMPTY)) pt si in
    let tj : Says j J = subst (λ a. Says j (HasFloats vertices b a (2 * word_of b k) 0)) pp
    (subst (λ a. Says j (HasFloats vertices b p (2 * a) 0)) pv sj) in
    let tl : Says l L = subst (λ a. Says l (HasWords offsets b a (length offsets) EMPTY)) ps sl in
    let tm : Says m M = subst (λ a. Says m (HasWords indexes b (after_of a 1) (word_of b a) EMPTY)) pe
    (subst (λ a. Says m (HasWords indexes b a (word_of b e) EMPTY)) px (subst (λ a. Says m (HasWords indexes b x a EMPTY)) pw sm)) in
    says_as ((((H × I) × J) × L) × M) (BuildHeld b k work vertices indexes offsets counts) ((((h && i) && j) && l) && m)
    (λ q. record { numbers = q.0.0.0.0; table = q.0.0.0.1; points = q.0.0.1; starts = q.0.1; entries = q.1 })
    (λ r. ((((r.numbers, r.table), r.points), r.starts), r.entries))
    (says_two (((H × I) × J) × L) M (((h && i) && j) && l) m
    (says_two ((H × I) × J) L ((h && i) && j) l (says_two (H × I) J (h && i) j (says_two H I h i sh ti) tj) tl) tm)

pub refused_says : (number : ℕ) (b work : List ℕ) (vertices : List Float) (indexes offsets counts : List ℕ) (h i j l m : Bool) (rest bits : ℕ)
    → rest ≡ refused_rest number → bits ≡ refused_bits number → Says h (HasWords counts b 0 0 rest) → Says i (HasWords work b 0 0 rest)
    → Says j (HasFloats vertices b 0 0 bits) → Says l (HasWords offsets b 0 0 rest) → Says m (HasWords indexes b 0 0 rest)
    → Says ((((h && i) && j) && l) && m) (RefusedHeld number b work vertices indexes offsets counts)
refused_says number b work vertices indexes offsets counts h i j l m rest bits pr pb sh si sj sl sm =
    let H = HasWords counts b 0 0 (refused_rest number) in
    let I = HasWords work b 0 0 (refused_rest number) in
    let J = HasFloats vertices b 0 0 (refused_bits number) in
    let L = HasWords offsets b 0 0 (refused_rest number) in
    let M = HasWords indexes b 0 0 (refused_rest number) in
    let th : Says h H = subst (λ a. Says h (HasWords counts b 0 0 a)) pr sh in
    let ti : Says i I = subst (λ a. Says i (HasWords work b 0 0 a)) pr si in
    let tj : Says j J = subst (λ a. Says j (HasFloats vertices b 0 0 a)) pb sj in
    let tl : Says l L = subst (λ a. Says l (HasWords offsets b 0 0 a)) pr sl in
    let tm : Says m M = subst (λ a. Says m (HasWords indexes b 0 0 a)) pr sm in
    says_as ((((H × I) × J) × L) × M) (RefusedHeld number b work vertices indexes offsets counts) ((((h && i) && j) && l) && m)
    (λ q. record { numbers = q.0.0.0.0; table = q.0.0.0.1; points = q.0.0.1; starts = q.0.1; entries = q.1 })
    (λ r. ((((r.numbers, r.table), r.points), r.starts), r.entries))
    (says_two (((H × I) × J) × L) M (((h && i) && j) && l) m
    (says_two ((H × I) × J) L ((h && i) && j) l (says_two (H × I) J (h && i) j (says_two H I h i th ti) tj) tl) tm)

-- a list's entries decide, once its three numbers are right
pub list_says : (out b : List ℕ) (q number count ended a w : ℕ) (h : Bool) → number ≡ 0 → ended ≡ 1 → count ≡ word_of b q → a ≡ after_of q 1
    → w ≡ word_of b q → Says h (HasWords out b a w 7) → Says h (ListHeld out b q number count ended)
list_says out b q number count ended a w h pn pe pc pa pw s =
    says_as (HasWords out b (after_of q 1) (word_of b q) 7) (ListHeld out b q number count ended) h (λ t. record { accepted = pn; whole = pe; long = pc; entries = t })
    (λ r. r.entries)
    (subst (λ x. Says h (HasWords out b x (word_of b q) 7)) pa (subst (λ x. Says h (HasWords out b a x 7)) pw s))
