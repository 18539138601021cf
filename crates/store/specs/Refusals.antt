use Rattle.std.specs.Prelude.{ℕ}
use Rattle.store.specs.declared.StoreRefusal.{StoreRefusal}
use Rattle.store.specs.declared.StoreRefusal.TheVariants.{StoreLength, NoSuchPage, BufferLength, TooManyPages}

-- The number of each refusal.
abbrev pub refusal_number : StoreRefusal → ℕ
refusal_number StoreLength = 1
refusal_number NoSuchPage = 2
refusal_number BufferLength = 3
refusal_number TooManyPages = 7
