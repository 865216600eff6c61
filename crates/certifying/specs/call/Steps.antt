-- What the steps to the answer owe each other. Definitions only.
use Rattle.std.specs.Prelude.{◌≡◌, true, List, [], ℕ, ◌/◌, ◌≤◌, ◌<◌, Float, Result, IfOk, OnErr, length}
use Rattle.base.specs.numbers.Numbers.{EMPTY}
use Rattle.base.specs.declared.refusal.Refusal.{Refusal}
use Rattle.base.specs.refusal.Number.{answer_number}
use Rattle.plane.specs.declared.given.Given.{Given}
use Rattle.plane.specs.boxes.Finite.{BoundedBox}
use Rattle.plane.specs.declared.boxes.BoundingBox.{BoundingBox}
use Rattle.mesh_check.specs.whole.AtExit.{when_refused}
use Rattle.arguments.specs.asking.Asks.{CellsOf}
use Rattle.auditing.specs.nearer.Nearer.{site_nearer}
use Rattle.auditing.specs.nearer.Steps.{PiecesKept}
use Rattle.certifying.specs.nearer.Safe.{NearSafe}
use Rattle.certifying.specs.sides.Sides.{ends_of, side_count}
use Rattle.certifying.specs.sides.Chains.{laid_ends, ChainedTo}
use Rattle.certifying.specs.rules.Rules.{certify_room, CertifyNumber}
use Rattle.certifying.specs.call.Verdict.{CertifyVerdict, certify_on, certify_kind, certify_site, certify_vertex, certify_other}

-- what the rules leave
pub record JudgeSafe (b : BoundingBox) (bits : ℕ) (sites v : List Float) (off ix work : List ℕ) : Type 0 where
  pub box : BoundedBox 101 b
  pub fine : bits ≤ 52
  pub room : certify_room (length sites) (length ix) ≤ length work
  pub near : NearSafe sites v off ix work

-- the sides of all rings are chained in the work
pub record SidesChained (v : List Float) (off ix : List ℕ) (n : ℕ) (work : List ℕ) : Type 0 where
  pub count : n ≡ side_count off
  pub ends : laid_ends work n ≡ ends_of off ix
  pub chained : ChainedTo v ix (laid_ends work n) n n work

-- entry e is of a ring
pub record SideNamed (sites : List Float) (off ix : List ℕ) (e : ℕ) : Type 0 where
  pub cut : CellsOf off ix (length sites / 2)
  pub few : length sites / 2 ≤ 65536
  pub below : e < side_count off

-- the piece of s has a corner that is nearer to another site
pub record NearNamed (far : Float) (sites v : List Float) (off ix : List ℕ) (s : ℕ) : Type 0 where
  pub pieces : PiecesKept sites v off ix
  pub few : length sites / 2 ≤ 65536
  pub own : s < length sites / 2
  pub nearer : site_nearer far sites [] [] v off ix s ≡ true

-- the numbers of a verdict
pub record VerdictTold (t : CertifyVerdict) (r kind site vertex other : ℕ) : Type 0 where
  pub none : r ≡ 0
  pub kind_is : kind ≡ certify_kind t
  pub site_is : site ≡ certify_site t
  pub vertex_is : vertex ≡ certify_vertex t
  pub other_is : other ≡ certify_other t

-- refused by the rules, with the work as it was, or the verdict
pub record CertifyJudged (g : Given) (sites v : List Float) (off ix : List ℕ) (bits : ℕ) (old new : List ℕ) (a : Result CertifyVerdict Refusal) : Type 0 where
  pub number : CertifyNumber g.sound sites v off ix bits (length old) (answer_number a)
  pub judged : IfOk a (λ t. (t ≡ certify_on g.bounds bits sites v off ix) × (length new ≡ length old))
  pub kept : OnErr a (new ≡ old)

-- beside a refusal
pub record RefusedAnswer (n : ℕ) (old new : List ℕ) (r kind site vertex other : ℕ) : Type 0 where
  pub number : r ≡ n
  pub none : (kind ≡ EMPTY) × (site ≡ EMPTY) × (vertex ≡ EMPTY) × (other ≡ EMPTY)
  pub work : new ≡ when_refused EMPTY old n
