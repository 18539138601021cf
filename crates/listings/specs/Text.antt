use Rattle.std.specs.Prelude.{ℕ, ◌+◌, List, [], ◌∷◌, ◌++◌, Ok, Err, codes, Result}
use Rattle.std.specs.List.{range_with_len as up_to, flat_map}
use Rattle.fields.specs.Justified.{justified}
use Rattle.model.specs.declared.Row.{Row}
use Rattle.model.specs.Ledger.{Ledger}
use Rattle.model.specs.Rows.{row_of}
use Rattle.recordings.specs.declared.RunFault.{RunFault}
use Rattle.recordings.specs.declared.Told.{Told}
use Rattle.recordings.specs.Tells.{tells_of, told_text}
use Rattle.recordings.specs.Whole.{Recording, calls_of}
use Rattle.counting.specs.Whole.{ledger_of}

-- Row l as it is printed: each number at the right of its columns.
abbrev pub row_text : ℕ → Row → List ℕ
row_text l r =
    justified 4 l ++ (justified 11 r.fetches ++ (justified 11 r.faults ++ (justified 11 r.reclaims
    ++ (justified 11 r.evictions ++ (justified 11 r.saves ++ justified 5 r.rate)))))

-- The line of row l.
abbrev pub row_line : ℕ → Row → List ℕ
row_line l r = row_text l r ++ 10 ∷ []

-- The line of a fault.
abbrev pub fault_line : Told → List ℕ
fault_line t = told_text t ++ 10 ∷ []

-- The heading of the rows.
abbrev pub heading : List ℕ
heading = codes "   l    fetches     faults   reclaims  evictions      saves rate\n"

-- The lines of rows 0 to n, under the heading.
abbrev pub rows_text : ℕ → ℕ → Ledger → List ℕ
rows_text n k b = heading ++ flat_map (λ l. row_line l (row_of n k l b)) (up_to 0 (n + 1))

-- The listing of a recording, or of its fault.
abbrev pub listing_of : Result Recording RunFault → List ℕ
listing_of (Ok r) = rows_text r.header.pages r.header.top (ledger_of r)
listing_of (Err e) = fault_line (tells_of e)

-- The listing of some bytes.
abbrev pub listing_text : List ℕ → List ℕ
listing_text bs = listing_of (calls_of bs)
