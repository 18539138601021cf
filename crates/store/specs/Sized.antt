use Rattle.std.specs.Prelude.{◌≡◌, ℕ, ◌<◌, ◌≤◌, List, [], length, slice_index_or}

-- What is true of the pages of every opened store: they are from 1 to 512, of 64 bytes each.
pub record Sized (bytes : List (List ℕ)) : Type 0 where
  pub some : 0 < length bytes
  pub few : length bytes ≤ 512
  pub even : (p : ℕ) → p < length bytes → length (slice_index_or bytes p []) ≡ 64
