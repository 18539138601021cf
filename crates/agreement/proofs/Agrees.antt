-- The pager of bottom l and the census, call by call: what holds between them before a call holds after it.
use Rattle.std.proofs.Common.{◌≡◌, ℕ, ◌+◌, ◌<◌, ◌≤◌, min, Bool, true, cond, not, ◌&&◌, eqb, List, [], ◌∷◌, length, take, Some, None, Option, sym, refl, ap, inl, inr, zero-le, arith}
use Rattle.std.specs.List.{AllByRecursion}
use Rattle.std.proofs.lemmas.List.{length-take, length-drop}
use Rattle.std.proofs.lemmas.Bool.{cases_lt, le-ltb}
use Rattle.lists.specs.Weights.{weigh, one, occ, has, total}
use Rattle.lists.specs.Places.{place}
use Rattle.lists.proofs.Weights.{eqb_cases, weigh_parts}
use Rattle.lists.proofs.Totals.{total_add, total_zero, total_but, total-occ}
use Rattle.lists.proofs.Places.{place_none}
use Rattle.model.specs.declared.UseKind.TheVariants.{Read, Write}
use Rattle.model.specs.declared.Call.{Call}
use Rattle.model.specs.declared.Call.TheVariants.{Use, Settle}
use Rattle.model.specs.Order.{Rule, Order, used}
use Rattle.model.specs.Sound.{Sound}
use Rattle.model.specs.Windows.{watched, is_open, over, shallow, noted}
use Rattle.model.specs.Ledger.{Ledger, unseen, shown_read, shown_write, shown_settle, shown_all}
use Rattle.model.specs.Rows.{above, row_fetches, row_faults, row_reclaims, row_saves, pages_used}
use Rattle.model.specs.Pager.{cut, evicted, fault, Pager, pager_fresh, pager_read, pager_write, pager_settle, pager_run}
use Rattle.model.proofs.Uses.{sound_fresh, once_bottom, sound_used, used_out}
use Rattle.model.proofs.Marks.{raised_none}
use Rattle.model.proofs.Moves.{take_nil, cut_fresh, sound_cut, cut-used, grown, moved}
use Rattle.agreement.proofs.Marks.{Covers, covers_raised, open_parts, over-raised, shallow_raised}
use Rattle.agreement.proofs.Found.{absent_is, found_above, found_up_to}

-- A call of a page below n, or a settle.
abbrev pub Fits : ℕ → Call → Type 0
Fits n (Use kind p) = p < n
Fits n Settle = Unit {0}

-- What every call keeps: the pager's order is the census's, cut; a mark is at least its page's depth;
-- a page is dirty exactly if its window is open with a mark of at most l; the frames taken are the faults less the evictions;
-- the pages used are those that stand anywhere; and the counts are the row's.
pub record Agrees (n k l : ℕ) (s : Pager) (b : Ledger) : Type 0 where
  pub order : s.order ≡ cut l b.order
  pub sound : Sound n k b.order
  pub covers : (q : ℕ) → Covers (b.marks q) (place q b.order.bottom)
  pub dirty : (q : ℕ) → s.dirty q ≡ shallow l (b.marks q)
  pub held : s.faults ≡ s.evictions + (length b.order.top + length (take l b.order.bottom))
  pub known : pages_used b ≡ length b.order.top + length b.order.bottom
  pub fetches : s.fetches ≡ row_fetches l b
  pub faults : s.faults ≡ row_faults l b
  pub reclaims : s.reclaims ≡ row_reclaims l b
  pub saves : s.saves ≡ row_saves n l b

-- One use of page p, in an order o and under marks that go with it.
module _ (r : Rule) (n k l p : ℕ) (o : Order) (so : Sound n k o) (slots : r.slot o.told k < k) (low : p < n) where
  so' : Sound n k (used r k p o)
  so' = sound_used n k p o so low r slots

  -- The frames that are taken, and the pages driven out.
  use_held : length (evicted r k l p (cut l o)) + (length (used r k p o).top + length (take l (used r k p o).bottom)) ≡ length o.top + length (take l o.bottom) + fault p (cut l o)
  use_held = omega (arith, ap (λ x. length x.top) (cut-used r k l p o), ap (λ x. length x.bottom) (cut-used r k l p o), grown r k p (cut l o) (sound_cut n k l o so).full, length-take l (used r k p (cut l o)).bottom, length-drop l (used r k p (cut l o)).bottom)

  module _ (marks : ℕ → Option ℕ) (cov : (q : ℕ) → Covers (marks q) (place q o.bottom)) (dirty : ℕ → Bool) (is : (q : ℕ) → dirty q ≡ shallow l (marks q)) where
    use_dirty : (q : ℕ) → (dirty q && not (has q (evicted r k l p (cut l o)))) ≡ shallow l (watched (used r k p o) marks q)
    use_dirty q = rw (is q) (sym (shallow_raised l q o.bottom (used r k p o).bottom (evicted r k l p (cut l o)) (once_bottom so q) (once_bottom so' q) (moved r n k p o so slots l q) (marks q) (cov q)))

    -- The open windows above l rise by the dirty pages driven out.
    use_saves : total n (λ q. over l (watched (used r k p o) marks q)) ≡ total n (λ q. over l (marks q)) + weigh (λ q. one (dirty q)) (evicted r k l p (cut l o))
    use_saves =
        omega (arith, total_add (λ q. over l (watched (used r k p o) marks q)) (λ q. over l (marks q)) (λ q. cond (dirty q) (occ q (evicted r k l p (cut l o))) 0) each n, total-occ dirty n (evicted r k l p (cut l o)) within) where
          each : (q : ℕ) → over l (watched (used r k p o) marks q) ≡ over l (marks q) + cond (dirty q) (occ q (evicted r k l p (cut l o))) 0
          each q = rw (is q) (over-raised l q o.bottom (used r k p o).bottom (evicted r k l p (cut l o)) (once_bottom so q) (once_bottom so' q) (moved r n k p o so slots l q) (marks q) (cov q))

          within : (q : ℕ) → n ≤ q → occ q (evicted r k l p (cut l o)) ≡ 0
          within q le = omega (arith, rw (le-ltb q n le) at ((sound_used n k p (cut l o) (sound_cut n k l o so) low r slots).once q), weigh_parts (λ x. one (eqb x q)) l (used r k p (cut l o)).bottom)

    -- The window of p that a write ends has the mark that it had before the use.
    own : watched (used r k p o) marks p ≡ marks p
    own = rw (place_none 0 p (used r k p o).bottom (used_out n k p o r so low slots)) (raised_none (marks p))

    -- A write moves the window of p from the open to the ended.
    ended_saves : (xs : List ℕ) → above l (noted (marks p) xs) + total n (λ q. over l (cond (eqb q p) (Some 0) (watched (used r k p o) marks q))) ≡ above l xs + (total n (λ q. over l (marks q)) + weigh (λ q. one (dirty q)) (evicted r k l p (cut l o)))
    ended_saves xs =
        omega (arith, use_saves, total_but (λ q. over l (watched (used r k p o) marks q)) (λ q. over l (cond (eqb q p) (Some 0) (watched (used r k p o) marks q))) p n low each, ap (over l) own, moves (marks p)) where
          each : (q : ℕ) → over l (cond (eqb q p) (Some 0) (watched (used r k p o) marks q)) ≡ cond (eqb q p) 0 (over l (watched (used r k p o) marks q))
          each q = elim (eqb_cases q p) [ inl e ↦ rw (e.1, le-ltb l 0 zero-le) | inr m ↦ rw m.1 refl ]

          moves : (m : Option ℕ) → above l (noted m xs) ≡ over l m + above l xs
          moves None = omega arith
          moves (Some m) = refl

    write_dirty : (q : ℕ) → cond (eqb q p) true (dirty q && not (has q (evicted r k l p (cut l o)))) ≡ shallow l (cond (eqb q p) (Some 0) (watched (used r k p o) marks q))
    write_dirty q = elim (eqb_cases q p) [ inl e ↦ rw (e.1, le-ltb l 0 zero-le) | inr m ↦ rw m.1 (use_dirty q) ]

    write_covers : (q : ℕ) → Covers (cond (eqb q p) (Some 0) (watched (used r k p o) marks q)) (place q (used r k p o).bottom)
    write_covers q = elim (eqb_cases q p) [
      | inl e ↦ rw (e.1, e.0) (omega (arith, place_none 0 p (used r k p o).bottom (used_out n k p o r so low slots)))
      | inr m ↦ rw m.1 (covers_raised (marks q) (place q (used r k p o).bottom))
    ]

module _ (r : Rule) (n k l : ℕ) (slots : (state : ℕ) → r.slot state k < k) where
  step_read : (p : ℕ) → p < n → (s : Pager) (b : Ledger) → Agrees n k l s b → Agrees n k l (pager_read r k l p s) (shown_read r k p b)
  step_read p low s b a = record {
    order = rw a.order (cut-used r k l p b.order);
    sound = sound_used n k p b.order a.sound low r (slots b.order.told);
    covers = λ q. covers_raised (b.marks q) (place q (used r k p b.order).bottom);
    dirty = λ q. rw a.order (use_dirty r n k l p b.order a.sound (slots b.order.told) low b.marks a.covers s.dirty a.dirty q);
    held = rw a.order (omega (arith, a.held, use_held r n k l p b.order a.sound (slots b.order.told) low));
    known = omega (arith, a.known, absent_is p b.order, grown r k p b.order a.sound.full);
    fetches = rw a.order (omega (arith, a.fetches, found_above l p b.order (once_bottom a.sound p) b.reads));
    faults = rw a.order (omega (arith, a.faults, found_above l p b.order (once_bottom a.sound p) b.reads));
    reclaims = rw a.order (omega (arith, a.reclaims, found_up_to l p b.order (once_bottom a.sound p) b.reads));
    saves = rw a.order (omega (arith, a.saves, use_saves r n k l p b.order a.sound (slots b.order.told) low b.marks a.covers s.dirty a.dirty));
  }

  step_write : (p : ℕ) → p < n → (s : Pager) (b : Ledger) → Agrees n k l s b → Agrees n k l (pager_write r k l p s) (shown_write r k p b)
  step_write p low s b a = record {
    order = rw a.order (cut-used r k l p b.order);
    sound = sound_used n k p b.order a.sound low r (slots b.order.told);
    covers = write_covers r n k l p b.order a.sound (slots b.order.told) low b.marks a.covers s.dirty a.dirty;
    dirty = λ q. rw a.order (write_dirty r n k l p b.order a.sound (slots b.order.told) low b.marks a.covers s.dirty a.dirty q);
    held = rw a.order (omega (arith, a.held, use_held r n k l p b.order a.sound (slots b.order.told) low));
    known = omega (arith, a.known, absent_is p b.order, grown r k p b.order a.sound.full);
    fetches = a.fetches;
    faults = rw a.order (omega (arith, a.faults, found_above l p b.order (once_bottom a.sound p) b.writes));
    reclaims = rw a.order (omega (arith, a.reclaims, found_up_to l p b.order (once_bottom a.sound p) b.writes));
    saves = rw a.order (omega (arith, a.saves, ended_saves r n k l p b.order a.sound (slots b.order.told) low b.marks a.covers s.dirty a.dirty b.ended));
  }

  step_settle : (s : Pager) (b : Ledger) → Agrees n k l s b → Agrees n k l (pager_settle n s) (shown_settle n b)
  step_settle s b a = record {
    order = a.order;
    sound = a.sound;
    covers = λ q. tt;
    dirty = λ q. refl;
    held = a.held;
    known = a.known;
    fetches = a.fetches;
    faults = a.faults;
    reclaims = a.reclaims;
    saves = omega (arith, a.saves, total_add (λ q. is_open (b.marks q)) (λ q. over l (b.marks q)) (λ q. one (s.dirty q)) parts n, total_zero (λ q. 0) n (λ q lt. refl));
  } where
    parts : (q : ℕ) → is_open (b.marks q) ≡ over l (b.marks q) + one (s.dirty q)
    parts q = rw (a.dirty q) (open_parts l (b.marks q))

  pub agrees_run : (s : Pager) (b : Ledger) → Agrees n k l s b → (calls : List Call) → AllByRecursion (Fits n) calls → Agrees n k l (pager_run r n k l s calls) (shown_all r n k b calls)
  agrees_run s b a [] h = a
  agrees_run s b a (Use Read p ∷ calls) h = agrees_run (pager_read r k l p s) (shown_read r k p b) (step_read p h.0 s b a) calls h.1
  agrees_run s b a (Use Write p ∷ calls) h = agrees_run (pager_write r k l p s) (shown_write r k p b) (step_write p h.0 s b a) calls h.1
  agrees_run s b a (Settle ∷ calls) h = agrees_run (pager_settle n s) (shown_settle n b) (step_settle s b a) calls h.1

pub agrees_fresh : (n k l told : ℕ) → Agrees n k l (pager_fresh told) (unseen told)
agrees_fresh n k l told = record {
  order = sym (cut_fresh l told);
  sound = sound_fresh n k told;
  covers = λ q. tt;
  dirty = λ q. refl;
  held = rw (take_nil l) refl;
  known = refl;
  fetches = refl;
  faults = refl;
  reclaims = refl;
  saves = omega (arith, total_zero (λ q. 0) n (λ q lt. refl));
}

-- The evictions are the faults less the frames taken: all pages used, or as many as there are frames.
pub evictions_are : (n k l : ℕ) (s : Pager) (b : Ledger) → Agrees n k l s b → s.evictions + min (pages_used b) (k + l) ≡ row_faults l b
evictions_are n k l s b a = elim (cases_lt (length b.order.top) k) [
  | inl y ↦ omega (arith, a.held, a.faults, a.known, length-take l b.order.bottom, ap length (a.sound.full y))
  | inr m ↦ omega (arith, a.held, a.faults, a.known, length-take l b.order.bottom, a.sound.fits)
]
