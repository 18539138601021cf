use Rattle.std.specs.Prelude.{ℕ, ◌≤◌, cond, List, [], ◌∷◌, ◌++◌, length, drop, decimal, ◌==◌}
use Rattle.std.specs.List.{flat_map}
use Rattle.fields.specs.Justified.{justified}
use Rattle.lines.specs.declared.Header.{Header}
use Rattle.lines.specs.declared.CallRecord.{CallRecord}

-- Line 1: H, the page count in 5 columns, the top in 3, the rule's letter and the seed in 10.
abbrev pub header_line : Header → List ℕ
header_line h = 72 ∷ (justified 5 h.pages ++ (justified 3 h.top ++ (h.rule ∷ justified 10 h.seed)))

-- The line of a call: S alone for a settle, and otherwise its letter and the page in 5 columns.
abbrev pub call_line : CallRecord → List ℕ
call_line c = cond (c.letter == 83) (83 ∷ []) (c.letter ∷ justified 5 c.page)

-- Line 1 with the byte 10 that ends it.
abbrev pub header_text : Header → List ℕ
header_text h = header_line h ++ 10 ∷ []

-- The line of a call with the byte 10 that ends it.
abbrev pub call_text : CallRecord → List ℕ
call_text c = call_line c ++ 10 ∷ []

-- The lines of some calls, one after another.
abbrev pub calls_text : List CallRecord → List ℕ
calls_text cs = flat_map call_text cs

-- A whole recording.
abbrev pub text_of : Header → List CallRecord → List ℕ
text_of h cs = header_text h ++ calls_text cs

-- A call whose page has at most 5 digits.
abbrev pub Narrow : CallRecord → Type 0
Narrow c = length (decimal c.page) ≤ 5

-- Bytes of which the first are the text, and the others as they were.
abbrev pub text_first : List ℕ → List ℕ → List ℕ
text_first text bytes = text ++ drop (length text) bytes
