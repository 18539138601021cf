use Rattle.std.specs.Prelude.{◌≡◌, ℕ, ◌+◌, cond, ◌||◌, Ok, Err, Result, ◌==◌, nat_lt}
use Rattle.pager.specs.declared.refusal.PagerRefusal.{PagerRefusal}
use Rattle.pager.specs.declared.refusal.PagerRefusal.TheVariants.{FrameCount, NoMemory}

-- The number of each refusal.
abbrev pub refusal_number : PagerRefusal → ℕ
refusal_number FrameCount = 4
refusal_number NoMemory = 8

-- What is answered to an opening with k slots and a bottom of at most l pages:
-- there is at least one slot, and there are at most 64 frames.
abbrev pub may_page : ℕ → ℕ → Result (Unit {0}) PagerRefusal
may_page k l = cond (k == 0 || nat_lt 64 (k + l)) (Err FrameCount) (Ok tt)

-- Why an opening with k slots and a bottom of at most l pages was refused: the sizes, or, if they are fit, want of memory.
abbrev pub RefusedFor : PagerRefusal → ℕ → ℕ → Type 0
RefusedFor FrameCount k l = may_page k l ≡ Err FrameCount
RefusedFor NoMemory k l = may_page k l ≡ Ok tt
