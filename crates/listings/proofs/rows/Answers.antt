use Rattle.std.proofs.Common.{◌≡◌, ℕ, ◌+◌, ◌++◌, string_bytes, ap, ◌∙◌, arith}
use Rattle.std.specs.List.{range_with_len as up_to, flat_map}
use Rattle.model.specs.Rows.{row_of}
use Rattle.counting.specs.Counted.{pages_in, slots_in}
use Rattle.listings.specs.Text.{row_line, heading}
use Rattle.listings.proofs.Pushed.{line_more}
use Rattle.listings.proofs.rows.Goals as goal
use Rattle.listings.proofs.rows.Goals.{else-loop-l-test, then-loop-l-test+in_ok-writeln+else-l-l-end}

pub loop-l-preserved : goal.loop-l-preserved
loop-l-preserved c = λ b k.
    line_more (λ i. row_line i (row_of (pages_in c.args.counted.now) (slots_in c.args.counted.now) i b)) heading _ _ c.loop-l.l (c.loop-l.invariant b k)
    (c.in_ok-writeln.ensures.bytes ∙ ap (λ x. string_bytes c.loop-l.text ++ row_line c.loop-l.l x) (rw c.unwrap-row.ensures at (c.row.ensures.row b k)))

pub returns : goal.returns
returns c = λ b k. elim c.loop-l-test.branch [
  | else-loop-l-test w ↦ absurd (omega arith)
  | then-loop-l-test+in_ok-writeln+else-l-l-end w ↦
      let row_at = λ (i : ℕ). row_line i (row_of (pages_in c.args.counted.now) (slots_in c.args.counted.now) i b) in
      let last : c.loop-l.l ≡ pages_in c.args.counted.now = omega arith in
      simp w.text-is
      (line_more row_at heading _ _ c.loop-l.l (c.loop-l.invariant b k) (w.in_ok-writeln.ensures.bytes ∙ ap (λ x. string_bytes c.loop-l.text ++ row_line c.loop-l.l x) (rw w.unwrap-row.ensures at (w.row.ensures.row b k)))
      ∙ ap (λ n. heading ++ flat_map row_at (up_to 0 (n + 1))) last)
]
