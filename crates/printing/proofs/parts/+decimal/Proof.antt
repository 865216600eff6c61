-- The proof of `printing::parts::decimal`, which calls itself on what is left of the number without its last digit. The number is the measure.
-- One digit is a store; of more, the digits before the last are written by the call and the last one after them.
use mathlib.Core.Path.{sym, ap, subst}
use mathlib.Core.List.{[], ◌∷◌}
use Prim.Native.Nat.{◌+◌, ◌/◌, ◌%◌, ℕ, ◌<◌}
use native.Mathlib.Omega.{arith}
use lib.ListN.{length, length-set}
use Rattle.printing.specs.parts.Text.{decimal as digitsOf}
use Rattle.printing.specs.parts.laws.Decimal.{decimal_one, decimal_more}
use Rattle.octets.specs.Wrote.{HasRoom}
use Rattle.octets.specs.laws.Wrote.{wrote_one, wrote_then, wrote_as, fits_left, fits_then}
use borrow.Fn.Kinds.{In}
use borrow.Fn.PlainCycle.{Measures, is, falls, and}
use Rattle.printing.proofs.parts.decimal.Reads as decimal
use Rattle.printing.proofs.parts.decimal.Kinds as decimal-kinds
use Rattle.printing.proofs.parts.+decimal.Lts-decimal as decimal-lts
use Rattle.printing.proofs.parts.+decimal.{statement}
use Rattle.printing.proofs.parts.+decimal.Tie.{close}

abbrev μ-decimal : Measures 1 decimal-kinds.ps ℕ
μ-decimal κs a = a.1.1.0

abbrev decimal-at : ℕ → In 1 decimal-kinds.ps
decimal-at t = and 1 decimal-kinds.ps (is 1 decimal-kinds.ps μ-decimal t) decimal.Pre

abbrev decimal-below : ℕ → In 1 decimal-kinds.ps
decimal-below t = and 1 decimal-kinds.ps (falls 1 decimal-kinds.ps ◌<◌ μ-decimal t) decimal.Pre

-- the digit after those that the call wrote has room
room :
    (t : ℕ) (c : decimal-lts.After-slice_known-2-1 (decimal-below t, decimal.Post) (decimal-at t) decimal.Post)
    → HasRoom c.decimal-last.new.out c.decimal-last.result ((48 + c.args.n % 10) ∷ [])
room t c =
    let s = c in
    let n = s.args.n in
    fits_then (digitsOf (n / 10)) ((48 + n % 10) ∷ []) c.decimal-last.ensures
    (subst (HasRoom s.args.out.now s.args.at) (decimal_more n c.if-n-lt10.false s.ranges.n.fits) s.requires.1)

decimal-cast-out :
    (t : ℕ) →
    decimal-lts.Need-overflow_cast-out (decimal-below t, decimal.Post) (decimal-at t) decimal.Post
decimal-cast-out t c = omega arith

decimal-add-out :
    (t : ℕ) → decimal-lts.Need-overflow_add-out (decimal-below t, decimal.Post) (decimal-at t) decimal.Post
decimal-add-out t c = omega arith

decimal-slice-write-out : (t : ℕ) → decimal-lts.Need-bounds-out-at (
  decimal-below t,
  decimal.Post,
) (decimal-at t) decimal.Post
decimal-slice-write-out t c = let s = c in omega (arith, s.requires.1, ap length (decimal_one s.args.n c.if-n-lt10.true))

decimal-add-result :
    (t : ℕ) →
    decimal-lts.Need-overflow_add-result (decimal-below t, decimal.Post) (decimal-at t) decimal.Post
decimal-add-result t c = let s = c in omega (arith, s.requires.1, ap length (decimal_one s.args.n c.if-n-lt10.true))

decimal-same-length :
    (t : ℕ) →
    decimal-lts.Need-shape_of-out-then-n-lt10 (decimal-below t, decimal.Post) (decimal-at t) decimal.Post
decimal-same-length t c = simp length-set

decimal-returns :
    (t : ℕ) → decimal-lts.Need-returns-then-n-lt10 (decimal-below t, decimal.Post) (decimal-at t) decimal.Post
decimal-returns t c = let a = c.args in wrote_as (wrote_one a.out.now a.at (48 + a.n)) (sym (decimal_one a.n c.if-n-lt10.true))

decimal-decimal-requires : (t : ℕ) → decimal-lts.Need-decimal-last-requires (
  decimal-below t,
  decimal.Post,
) (decimal-at t) decimal.Post
decimal-decimal-requires t c κs = let s = c in
    let n = s.args.n in
    let e = decimal_more n c.if-n-lt10.false s.ranges.n.fits in
    (omega (arith, s.requires.0), fits_left s.args.out.now s.args.at (digitsOf (n / 10)) ((48 + n % 10) ∷ []) (subst (HasRoom s.args.out.now s.args.at) e s.requires.1))

decimal-cast-out-2 :
    (t : ℕ) →
    decimal-lts.Need-overflow_cast-out-2 (decimal-below t, decimal.Post) (decimal-at t) decimal.Post
decimal-cast-out-2 t c = omega arith

decimal-add-out-2 :
    (t : ℕ) →
    decimal-lts.Need-overflow_add-out-2 (decimal-below t, decimal.Post) (decimal-at t) decimal.Post
decimal-add-out-2 t c = omega arith

decimal-slice-write-out-2 : (t : ℕ) → decimal-lts.Need-bounds-out-last (
  decimal-below t,
  decimal.Post,
) (decimal-at t) decimal.Post
decimal-slice-write-out-2 t c = omega (arith, room t c)

decimal-add-result-2 :
    (t : ℕ) →
    decimal-lts.Need-overflow_add-result-2 (decimal-below t, decimal.Post) (decimal-at t) decimal.Post
decimal-add-result-2 t c =
    let at-good = c in
    omega (arith, room t c, c.decimal-last.auto.out, at-good.well_formed.0.0)

decimal-same-length-2 :
    (t : ℕ) →
    decimal-lts.Need-shape_of-out (decimal-below t, decimal.Post) (decimal-at t) decimal.Post
decimal-same-length-2 t c = simp length-set c.decimal-last.auto.out

decimal-returns-2 :
    (t : ℕ) →
    decimal-lts.Need-returns (decimal-below t, decimal.Post) (decimal-at t) decimal.Post
decimal-returns-2 t c = let s = c in
    let n = s.args.n in
    wrote_as (wrote_then c.decimal-last.ensures (wrote_one c.decimal-last.new.out c.decimal-last.result (48 + n % 10)))
    (sym (decimal_more n c.if-n-lt10.false s.ranges.n.fits))

pub +decimal_spec : {M : Type 1} → statement M
+decimal_spec =
    close
    μ-decimal
    λ t. decimal-lts.spec
    (decimal-below t, decimal.Post)
    (decimal-at t)
    decimal.Post
    (decimal-cast-out t)
    (decimal-add-out t)
    (decimal-slice-write-out t)
    (decimal-add-result t)
    (decimal-same-length t)
    (decimal-returns t)
    (decimal-decimal-requires t)
    (decimal-cast-out-2 t)
    (decimal-add-out-2 t)
    (decimal-slice-write-out-2 t)
    (decimal-add-result-2 t)
    (decimal-same-length-2 t)
    (decimal-returns-2 t)
