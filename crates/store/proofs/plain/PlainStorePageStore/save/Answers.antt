use Rattle.std.proofs.Common.{◌≡◌, ℕ, ◌+◌, ◌-◌, ◌*◌, ◌/◌, ◌<◌, true, List, length, Ok, arith}
use Rattle.store.specs.Memory.{whole, pages_of}
use Rattle.store.specs.Uses.{may_use}
use Rattle.store.proofs.Calls.{accepted_page}
use Rattle.store.proofs.Pages.{in_memory, pages_sized, plain_saved}
use Rattle.store.proofs.plain.PlainStorePageStore.save.Goals as goal

low : (m : List ℕ) (p n len : ℕ) → whole (length m) ≡ true → n ≡ length (pages_of m) → Ok tt ≡ may_use n p len → p < 512
low m p n len w e ok = omega (arith, accepted_page n p len ok, pages_sized m w)

pub overflow_mul-from : goal.overflow_mul-from
overflow_mul-from c = omega (arith, low _ _ _ _ c.args.self.now.whole c.pages.ensures.count c.in_ok-may_use.ensures)

pub overflow_add-from : goal.overflow_add-from
overflow_add-from c = omega (arith, low _ _ _ _ c.args.self.now.whole c.pages.ensures.count c.in_ok-may_use.ensures)

pub slice_bounds-copy_from_slice-end : goal.slice_bounds-copy_from_slice-end
slice_bounds-copy_from_slice-end c =
    let h : c.args.page < length c.args.self.now.memory.now / 64 = in_memory _ _ _ _ c.pages.ensures.count c.in_ok-may_use.ensures in
    omega arith

pub returns-clause-effect : goal.returns-clause-effect
returns-clause-effect c =
    let k : 64 * c.args.page + 64 - 64 * c.args.page ≡ 64 = omega arith in
    rw c.note_save.ensures (plain_saved c.args.self.now.memory.now _ c.copy_from_slice.new.self c.args.page _ _ _ c.pages.ensures.count k c.copy_from_slice.ensures.after c.in_ok-may_use.ensures)
