-- What the answer to a fetch or a save says.
use Rattle.std.proofs.Common.{◌≡◌, ℕ, ◌<◌, Ok, Err, arith}
use Rattle.std.proofs.lemmas.Bool.Decides.{nat_tests}
use Rattle.store.specs.declared.StoreRefusal.{StoreRefusal}
use Rattle.store.specs.Uses.{may_use}

-- An accepted call had a buffer of 64 bytes and a page of the store.
pub accepted_length : (n page len : ℕ) → Ok tt ≡ may_use n page len → len ≡ 64
accepted_length n page len e = grind (arith, nat_tests)

pub accepted_page : (n page len : ℕ) → Ok tt ≡ may_use n page len → page < n
accepted_page n page len e = grind (arith, nat_tests)

-- And a call with both is accepted.
pub accepts : (n page len : ℕ) → len ≡ 64 → page < n → Ok tt ≡ may_use n page len
accepts n page len e h = grind (arith, nat_tests)

pub not_refused : (n page len : ℕ) (e : StoreRefusal) → len ≡ 64 → page < n → Err e ≡ may_use n page len → ⊥
not_refused n page len e k h r = grind (arith, nat_tests)
