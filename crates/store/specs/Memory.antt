use Rattle.std.specs.Prelude.{◌≡◌, ℕ, ◌+◌, ◌*◌, ◌/◌, ◌<◌, ◌≤◌, Bool, cond, ◌&&◌, List, map, length, Ok, Err, Result, ◌==◌, nat_le, nat_lt}
use Rattle.std.specs.List.{between, range_with_len}
use Rattle.store.specs.declared.StoreRefusal.{StoreRefusal}
use Rattle.store.specs.declared.StoreRefusal.TheVariants.{StoreLength}
use Rattle.store.specs.declared.tallies.Tallies.{Tallies}
use Rattle.store.specs.Meaning.{Meaning}

-- A length that is 64 × pages, for a number of pages that a store may have.
pub record Whole (len : ℕ) : Type 0 where
  pub pages : ℕ
  pub some : 0 < pages
  pub few : pages ≤ 512
  pub long : len ≡ 64 * pages

-- The test for such a length.
abbrev pub whole : ℕ → Bool
whole len = 64 * (len / 64) == len && (nat_lt 0 (len / 64) && nat_le (len / 64) 512)

-- What is answered to an opening of a plain store over len bytes.
abbrev pub may_hold : ℕ → Result (Unit {0}) StoreRefusal
may_hold len = cond (whole len) (Ok tt) (Err StoreLength)

-- Page p of a memory: the 64 bytes from place 64 × p.
abbrev pub page_of : List ℕ → ℕ → List ℕ
page_of m p = between (64 * p) (64 * p + 64) m

-- All the pages of a memory, in order.
abbrev pub pages_of : List ℕ → List (List ℕ)
pages_of m = map (page_of m) (range_with_len 0 (length m / 64))

-- What a plain store over a memory means, with its tallies.
abbrev pub plain : List ℕ → Tallies → Meaning
plain m t = record { bytes = pages_of m; tallies = t }
