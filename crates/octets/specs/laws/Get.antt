-- The loops that read a number: after i bytes the register is the number of those that were read, and has room for the next.
use Rattle.std.specs.Prelude.{◌≡◌, refl, List, [], ◌∷◌, ◌++◌, reverse, ℕ, suc, ◌+◌, ◌-◌, ◌*◌, ◌^◌, ◌≤◌, ◌<◌, length, get_or, take, drop}
use Rattle.std.proofs.Common.{sym, ap, ◌∙◌, subst, arith, pow-suc, add-one, length-drop, take-suc, drop-cons, get_or-take, get_or-drop, length-take-le}
use Rattle.std.proofs.lemmas.List.{reverse-append}
use Rattle.std.proofs.Math.Nat.{pow-le-pow_right}
use Rattle.std.proofs.Math.Seq.{drop-length}
use Rattle.octets.specs.Bytes.{word}

-- one byte more has room
pub room_for : (x i : ℕ) → i ≤ 7 → x < 256 ^ i → 256 * x + 255 < 2 ^ 64
room_for x i h g = omega (arith, pow-le-pow_right {n = 256} (omega arith) {i = i} {j = 7} h)

more : (x b i : ℕ) → x < 256 ^ i → b < 256 → 256 * x + b < 256 ^ suc i
more x b i h g = rw (pow-suc 256 i) (omega arith)

-- the highest first
pub record Climbing (s : List ℕ) (at n x i : ℕ) : Type 0 where
  pub within : i ≤ n
  pub value : x ≡ word (reverse (take i (drop at s)))
  pub small : x < 256 ^ i

pub climbing_start : (s : List ℕ) (at n : ℕ) → Climbing s at n 0 0
climbing_start s at n = record { within = omega arith; value = refl; small = omega arith }

pub climbing_step : {s : List ℕ} {at n x i : ℕ} → at + n ≤ length s → Climbing s at n x i → i < n → get_or s (at + i) 0 < 256
    → Climbing s at n (256 * x + get_or s (at + i) 0) (i + 1)
climbing_step {s} {at} {n} {x} {i} room c h g =
    let t = drop at s in
    let b : get_or t i 0 ≡ get_or s (at + i) 0 = get_or-drop at s i 0 in
    let next : take (suc i) t ≡ take i t ++ (get_or s (at + i) 0 ∷ []) = take-suc t i 0 (omega (arith, length-drop at s)) ∙ ap (λ (v : ℕ). take i t ++ (v ∷ [])) b in
    let turned : reverse (take (suc i) t) ≡ get_or s (at + i) 0 ∷ reverse (take i t) = ap reverse next ∙ reverse-append (take i t) (get_or s (at + i) 0 ∷ []) in
    let is : word (reverse (take (suc i) t)) ≡ get_or s (at + i) 0 + 256 * word (reverse (take i t)) = ap word turned in
    record {
      within = omega arith;
      value = rw (add-one i) (omega (arith, is, c.value));
      small = rw (add-one i) (more x (get_or s (at + i) 0) i c.small g);
    }

pub climbing_end : {s : List ℕ} {at n x i : ℕ} → Climbing s at n x i → n ≤ i → (x ≡ word (reverse (take n (drop at s)))) × (x < 256 ^ n)
climbing_end {s} {at} {n} {x} {i} c h =
    let e : i ≡ n = omega (arith, c.within) in
    (c.value ∙ ap (λ (k : ℕ). word (reverse (take k (drop at s)))) e, (rw e at c).small)

-- the lowest first: the bytes from i on have been read
pub record Falling (s : List ℕ) (at n x i : ℕ) : Type 0 where
  pub within : i ≤ n
  pub value : x ≡ word (drop i (take n (drop at s)))
  pub small : x < 256 ^ (n - i)

pub falling_start : (s : List ℕ) (at n : ℕ) → at + n ≤ length s → Falling s at n 0 n
falling_start s at n room =
    let long : length (take n (drop at s)) ≡ n = length-take-le n (drop at s) (omega (arith, length-drop at s)) in
    let none : drop n (take n (drop at s)) ≡ [] = ap (λ (k : ℕ). drop k (take n (drop at s))) (sym long) ∙ drop-length (take n (drop at s)) in
    let e : 0 ≡ n - n = omega arith in
    record { within = omega arith; value = ap word (sym none); small = rw (← e) (omega arith) }

pub falling_step : {s : List ℕ} {at n x i : ℕ} → at + n ≤ length s → Falling s at n x i → 0 < i → get_or s (at + (i - 1)) 0 < 256
    → Falling s at n (256 * x + get_or s (at + (i - 1)) 0) (i - 1)
falling_step {s} {at} {n} {x} {i} room c h g =
    let t = take n (drop at s) in
    let j = i - 1 in
    let e : suc j ≡ i = omega arith in
    let long : j < length t = omega (arith, length-take-le n (drop at s) (omega (arith, length-drop at s)), c.within) in
    let b : get_or t j 0 ≡ get_or s (at + j) 0 = get_or-take n (drop at s) j 0 (omega (arith, c.within)) ∙ get_or-drop at s j 0 in
    let cut : drop j t ≡ get_or s (at + j) 0 ∷ drop i t = drop-cons t j 0 long ∙ ap (λ (v : ℕ). v ∷ drop (suc j) t) b ∙ ap (λ (k : ℕ). get_or s (at + j) 0 ∷ drop k t) e in
    let is : word (drop j t) ≡ get_or s (at + j) 0 + 256 * word (drop i t) = ap word cut in
    let f : n - j ≡ suc (n - i) = omega (arith, c.within) in
    record {
      within = omega (arith, c.within);
      value = omega (arith, is, c.value);
      small = rw f (more x (get_or s (at + j) 0) (n - i) c.small g);
    }

pub falling_end : {s : List ℕ} {at n x i : ℕ} → Falling s at n x i → i ≤ 0 → (x ≡ word (take n (drop at s))) × (x < 256 ^ n)
falling_end {s} {at} {n} {x} {i} c h =
    let e : i ≡ 0 = omega arith in
    let all : n - i ≡ n = omega arith in
    (c.value ∙ ap (λ (k : ℕ). word (drop k (take n (drop at s)))) e, subst (λ (k : ℕ). x < 256 ^ k) all c.small)
