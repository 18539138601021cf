use Rattle.std.specs.Prelude.{◌≡◌, ℕ, ◌+◌, ◌≤◌, List, length, Option}
use Rattle.lists.specs.Places.{place_from}
use Rattle.links.specs.Chain.{Chain}

-- What is left of a list after `walked` steps, and that it still tells the place of p in the whole.
pub record Left (links : List (Option ℕ)) (n : ℕ) (at : Option ℕ) (walked p whole : ℕ) : Type 0 where
  pub rest : List ℕ
  pub chain : Chain links n at rest
  pub fits : walked + length rest ≤ n
  pub gives : place_from walked p rest ≡ whole
