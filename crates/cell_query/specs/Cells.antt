-- What the query for one cell promises: rule 4 on its site, rule 16 on the offets, and the part of the index list between its two offets, empty where it is refused.
use Rattle.std.specs.Prelude.{◌≡◌, List, [], ◌++◌, ℕ, ◌+◌, ◌-◌, eqb, length, get_or, Result, Ok, Err}
use Rattle.std.specs.Borrow.{Bor}
use Rattle.base.specs.common.Pick.{pick}
use Rattle.walks.specs.shared.Cells.{cell_of}
use Rattle.base.specs.common.Refusals.{Finds}
use Rattle.base.specs.declared.refusal.Refusal.{Refusal}
use Rattle.arguments.specs.asking.Asks.{site_rules, cell_rules}
use Rattle.cell_query.specs.declared.CellPlace.{CellPlace}

-- 4, then 16; there is a site less than offets, at least none
pub record CellNumber (off ix : List ℕ) (s r : ℕ) : Type 0 where
  pub found : Finds (site_rules (length off - 1) s ++ cell_rules off ix (length off - 1)) 0 r

-- the cell where the number r is 0: as a list, and by where it starts and how long it is
pub record CellAnswer (off ix : List ℕ) (s : ℕ) (part : List ℕ) (r : ℕ) : Type 0 where
  pub number : CellNumber off ix s r
  pub entries : part ≡ pick (eqb r 0) (λ _. cell_of off ix s) (λ _. [])

pub record PlaceAnswer (off ix : List ℕ) (s start long r : ℕ) : Type 0 where
  pub number : CellNumber off ix s r
  pub from : start ≡ pick (eqb r 0) (λ _. get_or off s 0) (λ _. 0)
  pub many : long ≡ pick (eqb r 0) (λ _. get_or off (s + 1) 0 - get_or off s 0) (λ _. 0)

-- the part, or where it starts and how long it is: empty, 0 and 0 where it is refused
abbrev pub part_of : Result (Bor (List ℕ)) Refusal → List ℕ
part_of (Ok p) = p.now
part_of (Err _) = []

abbrev pub start_of : Result CellPlace Refusal → ℕ
start_of (Ok p) = p.start
start_of (Err _) = 0

abbrev pub length_of : Result CellPlace Refusal → ℕ
length_of (Ok p) = p.length
length_of (Err _) = 0
