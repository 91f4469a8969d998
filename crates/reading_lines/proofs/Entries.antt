-- The lines that the list's bytes give are those of the recoveries of the log.
--   lines_of_log   for the list behind a reading
use Prim.Native.Nat.{ℕ, ◌*◌}
use mathlib.Core.Path.{◌≡◌, refl, ap₂}
use mathlib.Core.List.{List, [], ◌∷◌, ◌++◌}
use lib.ListN.{length, drop}
use Rattle.base.specs.Bytes.{two}
use Rattle.base.proofs.Bytes.{two_back}
use Rattle.drive.specs.Drive.{address_bytes}
use Rattle.demand_three.specs.WholeReading.{Entry}
use Rattle.reading_cut.specs.Entry.{entry_bytes}
use Rattle.reading_runs.specs.Conclusion.{entries_bytes, list_after}
use Rattle.reading_lines.specs.Lines.{recovery_line, recovery_lines}
use Rattle.reading_lines.specs.Entries.{entry_line, entry_lines}

line_of_entry : (t : Entry) (l : List ℕ) → recovery_line (entry_bytes t ++ l) ≡ entry_line t
unfolding recovery_line entry_line entry_bytes address_bytes two
line_of_entry t l = rw (two_back t.at.cylinder, two_back t.at.head)

lines_of : (ts : List Entry) (l : List ℕ) → recovery_lines (length ts) (entries_bytes ts ++ l) ≡ entry_lines ts
unfolding recovery_lines entries_bytes entry_lines entry_bytes address_bytes two
lines_of [] l = refl
lines_of (t ∷ ts) l = ap₂ (λ (x y : List ℕ). x ++ y) (line_of_entry t (entries_bytes ts ++ l)) (lines_of ts l)

pub lines_of_log : (made : List Entry) (l : List ℕ) → recovery_lines (length made) (list_after made l) ≡ entry_lines made
unfolding list_after
lines_of_log made l = lines_of made (drop (length made * 6) l)
