-- The lines of the recoveries of a reading's log, in its own terms; `proofs.Entries` has that the list's bytes give the same lines.
use Rattle.std.specs.Prelude.{ℕ, List, [], ◌∷◌, ◌++◌}
use Rattle.text.specs.Text.{ascii}
use Rattle.recovered.specs.Applied.{kind_of}
use Rattle.recovered.specs.Applied.{action_number}
use Rattle.demand_three.specs.WholeReading.{Entry}
use Rattle.reading_lines.specs.Lines.{action_name, record_text}

-- "a line for each recovery: its action (5 or 5A), then cylinder, head and record as 3, 2 and 3 decimal digits"
unfoldable pub entry_line : Entry → List ℕ
entry_line t = ascii "action " ++ action_name (action_number (kind_of t.kind)) ++ record_text t.at.cylinder t.at.head t.r

-- the lines of several, in order
unfoldable pub entry_lines : List Entry → List ℕ
entry_lines [] = []
entry_lines (t ∷ ts) = entry_line t ++ entry_lines ts
