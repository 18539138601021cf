-- The census still means the ledger after each call, one call on.
use Rattle.std.proofs.Common.{◌≡◌, ℕ, ◌+◌, ◌*◌, ◌%◌, ◌<◌, ◌≤◌, cond, eqb, ◌≢◌, List, length, get_or, set, Some, None, Option, sym, refl, ap, ◌∙◌, inl, inr, arith}
use Rattle.std.proofs.lemmas.List.{length-map, get_or-set_same, get_or-set_other}
use Rattle.lists.specs.Weights.{total}
use Rattle.lists.specs.Places.{place}
use Rattle.lists.proofs.Weights.{eqb_cases}
use Rattle.lists.proofs.Places.{place_none}
use Rattle.lists.proofs.Totals.{total_same}
use Rattle.model.specs.declared.UseKind.{UseKind}
use Rattle.model.specs.Order.{Rule, Order, used, depth_of}
use Rattle.model.specs.Windows.{raised, is_open, absent, noted}
use Rattle.model.specs.Ledger.{Ledger, shown_read, shown_write, shown_settle, shown_use}
use Rattle.model.specs.Rows.{wrapped}
use Rattle.model.proofs.Uses.{used_out}
use Rattle.model.proofs.Marks.{raised_twice, place_grows}
use Rattle.order.specs.Stands.{Stands}
use Rattle.census.specs.declared.page.PageRecord.{PageRecord}
use Rattle.census.specs.Views.{marks, orderly}
use Rattle.census.specs.declared.state.Census.{Census}
use Rattle.census.specs.Columns.{noted_in}
use Rattle.census.specs.SameBut.{SameBut}
use Rattle.census.specs.Means.{Low, Means}
use Rattle.census.proofs.Columns.{column_noted, column_kept, length-noted}
use Rattle.census.proofs.Tables.{restands, low_raised, place_low, depth_low}

length_marks : (t : List PageRecord) → length (marks t) ≡ length t
length_marks t = length-map t (λ (r : PageRecord). r.mark)

module _ {X : Type 0} (told : X → ℕ) (c : Census X) (t : List PageRecord) (counts : List ℕ) (b : Ledger) (p : ℕ) (r : Rule)
    (m : Means told c t counts b) (low : p < length t) (slots : r.slot b.order.told c.parts.slots < c.parts.slots) where
  abbrev after : Order
  after = used r c.parts.slots p b.order

  stored_same : (t' : List PageRecord) (v : Option ℕ) → marks t' ≡ set (marks t) p v → get_or (marks t') p None ≡ v
  stored_same t' v e = ap (λ xs. get_or xs p None) e ∙ get_or-set_same (marks t) p v None (omega (arith, length_marks t))

  stored_other : (t' : List PageRecord) (v : Option ℕ) (q : ℕ) → q ≢ p → marks t' ≡ set (marks t) p v → get_or (marks t') q None ≡ get_or (marks t) q None
  stored_other t' v q ne e = ap (λ xs. get_or xs q None) e ∙ get_or-set_other (marks t) p q v None ne

  -- the mark of a page that is not used
  other_mark : (t' : List PageRecord) (v : Option ℕ) (q : ℕ) → q < c.pages → q ≢ p → marks t' ≡ set (marks t) p v → raised (b.marks q) (place q after.bottom) ≡ raised (get_or (marks t') q None) (place q after.bottom)
  other_mark t' v q h ne e =
      ap (λ x. raised x (place q after.bottom)) (m.marks_are q h)
      ∙ (raised_twice (get_or (marks t) q None) (place q b.order.bottom) (place q after.bottom) (place_grows (length t) c.parts.slots p q r b.order m.stands.arranged.sound slots (λ z. ne (sym z)))
      ∙ ap (λ x. raised x (place q after.bottom)) (sym (stored_other t' v q ne e)))

  low_p : p < c.pages
  low_p = omega (arith, m.long)

  -- the mark that the used page has when the use finds it
  pub mark_found : (d : ℕ) → d ≡ place p b.order.bottom → raised (get_or (marks t) p None) d ≡ b.marks p
  mark_found d e = ap (raised (get_or (marks t) p None)) e ∙ sym (m.marks_are p low_p)

  read_marks : (t' : List PageRecord) (d : ℕ) → d ≡ place p b.order.bottom → marks t' ≡ set (marks t) p (raised (get_or (marks t) p None) d) → (q : ℕ) → q < c.pages → raised (b.marks q) (place q after.bottom) ≡ raised (get_or (marks t') q None) (place q after.bottom)
  read_marks t' d is e q h = elim (eqb_cases q p) [
    | inl y ↦ ap (λ x. raised (b.marks x) (place q after.bottom)) y.0 ∙ (ap (λ x. raised x (place q after.bottom)) (sym (mark_found d is) ∙ sym (stored_same t' (raised (get_or (marks t) p None) d) e)) ∙ ap (λ x. raised (get_or (marks t') x None) (place q after.bottom)) (sym y.0))
    | inr n ↦ other_mark t' (raised (get_or (marks t) p None) d) q h n.0 e
  ]

  write_marks : (t' : List PageRecord) → marks t' ≡ set (marks t) p (Some 0) → (q : ℕ) → q < c.pages → cond (eqb q p) (Some 0) (raised (b.marks q) (place q after.bottom)) ≡ raised (get_or (marks t') q None) (place q after.bottom)
  write_marks t' e q h = elim (eqb_cases q p) [
    | inl y ↦ rw y.1 (at_top ∙ ap (λ x. raised (get_or (marks t') x None) (place x after.bottom)) (sym y.0))
    | inr n ↦ rw n.1 (other_mark t' (Some 0) q h n.0 e)
  ] where
    at_top : Some 0 ≡ raised (get_or (marks t') p None) (place p after.bottom)
    at_top = sym (ap (λ x. raised x (place p after.bottom)) (stored_same t' (Some 0) e) ∙ ap (raised (Some 0)) (place_none 0 p after.bottom (used_out (length t) c.parts.slots p b.order r m.stands.arranged.sound low slots)))

  module _ (c' : Census X) (t' : List PageRecord) (counts' : List ℕ) (pages_is : c'.pages ≡ c.pages) (long : length t' ≡ length t) (stands : Stands told c'.parts (orderly t') after)
      (settled_is : c'.settled ≡ c.settled) (calls_is : c'.calls ≡ (c.calls + 1) % 4294967296) where
    depth_fits : Low c.pages (depth_of p b.order)
    depth_fits = rw (← m.long) (depth_low told c.parts t b.order m.stands p)

    after_low : (q : ℕ) → place q after.bottom ≤ c.pages
    after_low q = omega (arith, place_low told c'.parts t' after stands q, long, m.long)

    pub read_means : (d : ℕ) → d ≡ place p b.order.bottom → marks t' ≡ set (marks t) p (raised (get_or (marks t) p None) d) → counts' ≡ noted_in 0 (depth_of p b.order) counts →
        c'.new_reads ≡ (c.new_reads + absent (depth_of p b.order)) % 4294967296 → c'.new_writes ≡ c.new_writes → Means told c' t' counts' (shown_read r c.parts.slots p b)
    read_means d is e cs nr nw = record {
      long = rw pages_is (long ∙ m.long);
      wide = rw (cs, pages_is) (length-noted 0 (depth_of p b.order) counts ∙ m.wide);
      stands = stands;
      marks_are = rw pages_is (read_marks t' d is e);
      marks_low = rw pages_is (λ q h. low_raised c.pages (place q after.bottom) (b.marks q) (m.marks_low q h) (after_low q));
      reads_are = rw (cs, pages_is) (column_noted c.pages 0 (depth_of p b.order) counts b.reads m.reads_are (omega (arith, m.wide)) depth_fits);
      writes_are = rw (cs, pages_is) (column_kept c.pages (c.pages + 1) 0 (depth_of p b.order) counts b.writes m.writes_are depth_fits (λ x y h k z. omega arith));
      ended_are = rw (cs, pages_is) (column_kept c.pages (2 * (c.pages + 1)) 0 (depth_of p b.order) counts b.ended m.ended_are depth_fits (λ x y h k z. omega arith));
      new_reads_are = omega (arith, nr, m.new_reads_are);
      new_writes_are = nw ∙ m.new_writes_are;
      settled_are = settled_is ∙ m.settled_are;
      calls_are = omega (arith, calls_is, m.calls_are);
    }

    -- the count table between the two counts of a write
    abbrev between : List ℕ
    between = noted_in (c.pages + 1) (depth_of p b.order) counts

    pub write_means : (ended : Option ℕ) → ended ≡ b.marks p → marks t' ≡ set (marks t) p (Some 0) → counts' ≡ noted_in (2 * (c.pages + 1)) ended (noted_in (c.pages + 1) (depth_of p b.order) counts) →
        c'.new_writes ≡ (c.new_writes + absent (depth_of p b.order)) % 4294967296 → c'.new_reads ≡ c.new_reads → Means told c' t' counts' (shown_write r c.parts.slots p b)
    write_means ended is e cs nw nr = record {
      long = rw pages_is (long ∙ m.long);
      wide = rw (cs, pages_is) (length-noted (2 * (c.pages + 1)) ended between ∙ (long_between ∙ m.wide));
      stands = stands;
      marks_are = rw pages_is (write_marks t' e);
      marks_low = rw pages_is low_marks;
      reads_are = rw (cs, pages_is) (column_kept c.pages 0 (2 * (c.pages + 1)) ended between b.reads (column_kept c.pages 0 (c.pages + 1) (depth_of p b.order) counts b.reads m.reads_are depth_fits (λ x y h k z. omega arith)) ended_fits (λ x y h k z. omega arith));
      writes_are = rw (cs, pages_is) (column_kept c.pages (c.pages + 1) (2 * (c.pages + 1)) ended between (noted (depth_of p b.order) b.writes) (column_noted c.pages (c.pages + 1) (depth_of p b.order) counts b.writes m.writes_are (omega (arith, m.wide)) depth_fits) ended_fits (λ x y h k z. omega arith));
      ended_are = rw (cs, pages_is, ← is) (column_noted c.pages (2 * (c.pages + 1)) ended between b.ended (column_kept c.pages (2 * (c.pages + 1)) (c.pages + 1) (depth_of p b.order) counts b.ended m.ended_are depth_fits (λ x y h k z. omega arith)) (omega (arith, m.wide, long_between)) ended_fits);
      new_reads_are = nr ∙ m.new_reads_are;
      new_writes_are = omega (arith, nw, m.new_writes_are);
      settled_are = settled_is ∙ m.settled_are;
      calls_are = omega (arith, calls_is, m.calls_are);
    } where
      long_between : length between ≡ length counts
      long_between = length-noted (c.pages + 1) (depth_of p b.order) counts

      ended_fits : Low c.pages ended
      ended_fits = rw is (m.marks_low p low_p)

      low_marks : (q : ℕ) → q < c.pages → Low c.pages (cond (eqb q p) (Some 0) (raised (b.marks q) (place q after.bottom)))
      low_marks q h = elim (eqb_cases q p) [
        | inl y ↦ rw y.1 (omega arith)
        | inr n ↦ rw n.1 (low_raised c.pages (place q after.bottom) (b.marks q) (m.marks_low q h) (after_low q))
      ]

-- What is meant after a use of one kind is meant after a use of the same kind.
pub as_used : {X : Type 0} (told : X → ℕ) (c : Census X) (t : List PageRecord) (counts : List ℕ) (b : Ledger) (p : ℕ) (r : Rule) (slots : ℕ) (kind same : UseKind) → kind ≡ same → Means told c t counts (shown_use r slots same p b) → Means told c t counts (shown_use r slots kind p b)
as_used told c t counts b p r slots kind same e m = rw e m

-- A settle ends the windows of all pages.
module _ {X : Type 0} (told : X → ℕ) (c c' : Census X) (t t' : List PageRecord) (counts : List ℕ) (b : Ledger) (m : Means told c t counts b) where
  open_same : (m : Option ℕ) (d : ℕ) → is_open (raised m d) ≡ is_open m
  open_same None d = refl
  open_same (Some m) d = refl

  pub settle_means : c'.pages ≡ c.pages → c'.parts ≡ c.parts → SameBut t t' → ((q : ℕ) → get_or (marks t') q None ≡ None) → c'.settled ≡ (c.settled + wrapped (total (length t) (λ q. is_open (get_or (marks t) q None)))) % 4294967296 →
      c'.calls ≡ (c.calls + 1) % 4294967296 → c'.new_reads ≡ c.new_reads → c'.new_writes ≡ c.new_writes → Means told c' t' counts (shown_settle c.pages b)
  settle_means pg pa same none se ca nr nw = record {
    long = rw pg (same.long ∙ m.long);
    wide = rw pg m.wide;
    stands = rw pa (restands told c.parts t t' b.order m.stands same);
    marks_are = λ q h. sym (ap (λ x. raised x (place q b.order.bottom)) (none q));
    marks_low = λ q h. tt;
    reads_are = rw pg m.reads_are;
    writes_are = rw pg m.writes_are;
    ended_are = rw pg m.ended_are;
    new_reads_are = nr ∙ m.new_reads_are;
    new_writes_are = nw ∙ m.new_writes_are;
    settled_are = omega (arith, se, m.settled_are, open_windows);
    calls_are = omega (arith, ca, m.calls_are);
  } where
    open_windows : total (length t) (λ q. is_open (get_or (marks t) q None)) ≡ total c.pages (λ q. is_open (b.marks q))
    open_windows = rw m.long (total_same (λ q. is_open (get_or (marks t) q None)) (λ q. is_open (b.marks q)) c.pages (λ q h. sym (ap is_open (m.marks_are q h) ∙ open_same (get_or (marks t) q None) (place q b.order.bottom))))
