-- The areas behind a reading, from recovery to recovery.
--   note_at, part_at, home_at        six bytes in the list; the part that is lent for them; the list once it comes home
--   part-long .. part-noted        how long that part is, and the list behind it
--   noted_list                     the list with one recovery more
--   program_last, arguments_last   the restart areas with one restart more
use Prim.Native.Nat.{ℕ, ◌+◌, ◌-◌, ◌*◌, ◌≤◌}
use native.Mathlib.Omega.{arith}
use mathlib.Core.Path.{◌≡◌, refl, ap, ap₂, sym, ◌∙◌}
use mathlib.Core.List.{List, [], ◌∷◌, ◌++◌, append_assoc, append-nil}
use lib.ListN.{length, take, drop, length-append, length-drop}
use lib.Seq.{take-append_seam, drop-append-add, drop-drop}
use borrow.Rule.Slice.PartMut.{mid_of, put_mid, put_same}
use Rattle.base.specs.Bytes.{two}
use Rattle.copy.proofs.Lists.{tail_lent, put_home}
use Rattle.drive.specs.Drive.{address_bytes}
use Rattle.demand_three.specs.WholeReading.{Entry, Restarted}
use Rattle.reading_cut.specs.Entry.{entry_bytes}
use Rattle.reading_runs.specs.Conclusion.{entries_bytes, list_after, program_after, restart_arguments_after}

entry_length : (t : Entry) → length (entry_bytes t) ≡ 6
unfolding entry_bytes address_bytes two
entry_length t = refl

-- six bytes in a list, behind those of the recoveries made
unfoldable pub note_at : ℕ → (entry list : List ℕ) → List ℕ
note_at made s l = take (made * 6) l ++ (s ++ drop (made * 6 + 6) l)

-- what is lent of the list, and the list once it comes home
abbrev pub part_at : ℕ → List ℕ → List ℕ
part_at made l = mid_of (made * 6) (length l - made * 6) l

abbrev pub home_at : ℕ → (l part : List ℕ) → List ℕ
home_at made l part = put_mid (made * 6) (length l - made * 6) l part

pub part_long : (made limit : ℕ) (l : List ℕ) {n : ℕ} → made ≤ limit → (made ≡ limit → ⊥) → length l ≡ n → limit * 6 ≤ n → 6 ≤ length (part_at made l)
part_long made limit l h ne e g = rw (tail_lent l (made * 6), length-drop) (omega arith)

pub part_kept : (made : ℕ) (l : List ℕ) → home_at made l (part_at made l) ≡ l
part_kept made l = put_same (made * 6) (length l - made * 6) l

pub part_noted : (made : ℕ) (l part : List ℕ) (t : Entry) → part ≡ entry_bytes t ++ drop 6 (part_at made l) → home_at made l part ≡ note_at made (entry_bytes t) l
unfolding note_at
part_noted made l part t e =
    put_home l (entry_bytes t) (made * 6) part (e ∙ ap (λ (n : ℕ). entry_bytes t ++ drop n (part_at made l)) (sym (entry_length t)))
    ∙ ap (λ (n : ℕ). take (made * 6) l ++ (entry_bytes t ++ drop (made * 6 + n) l)) (entry_length t)

entries_length : (ts : List Entry) → length (entries_bytes ts) ≡ length ts * 6
unfolding entries_bytes
entries_length [] = refl
entries_length (t ∷ ts) =
    let a = length-append (entry_bytes t) (entries_bytes ts) in
    let b = entry_length t in
    let c = entries_length ts in
    omega arith

entries_more : (ts : List Entry) (t : Entry) → entries_bytes (ts ++ t ∷ []) ≡ entries_bytes ts ++ entry_bytes t
unfolding entries_bytes
entries_more [] t = append-nil (entry_bytes t)
entries_more (u ∷ ts) t = ap (λ (l : List ℕ). entry_bytes u ++ l) (entries_more ts t) ∙ sym (append_assoc (entry_bytes u) (entries_bytes ts) (entry_bytes t))

one_more : (ts : List Entry) (t : Entry) → length (ts ++ t ∷ []) ≡ length ts + 1
one_more ts t = length-append ts (t ∷ [])

pub noted_list : (ts : List Entry) (t : Entry) (l : List ℕ) (n : ℕ) → n ≡ length ts → note_at n (entry_bytes t) (list_after ts l) ≡ list_after (ts ++ t ∷ []) l
unfolding note_at list_after
noted_list ts t l n e =
    let s : List ℕ = entries_bytes ts in
    let rest : List ℕ = drop (length ts * 6) l in
    let size : n * 6 ≡ length s = omega (arith, e, entries_length ts) in
    let more : n * 6 + 6 ≡ length s + 6 = omega (arith, size) in
    let many : length (ts ++ t ∷ []) * 6 ≡ length ts * 6 + 6 = omega (arith, one_more ts t) in
    let front : take (n * 6) (s ++ rest) ≡ s = ap (λ (k : ℕ). take k (s ++ rest)) size ∙ take-append_seam s rest in
    let back : drop (n * 6 + 6) (s ++ rest) ≡ drop (length ts * 6 + 6) l = ap (λ (k : ℕ). drop k (s ++ rest)) more ∙ drop-append-add s rest 6 ∙ drop-drop 6 (length ts * 6) l in
    ap₂ (λ (x y : List ℕ). x ++ (entry_bytes t ++ y)) front back
    ∙ sym (append_assoc s (entry_bytes t) (drop (length ts * 6 + 6) l))
    ∙ ap₂ (λ (x : List ℕ) (k : ℕ). x ++ drop k l) (sym (entries_more ts t)) (sym many)

pub program_last : (rs : List Restarted) (r : Restarted) (p : List ℕ) → program_after (rs ++ r ∷ []) p ≡ r.program
unfolding program_after
program_last [] r p = refl
program_last (q ∷ rs) r p = program_last rs r q.program

pub arguments_last : (rs : List Restarted) (r : Restarted) (a : List ℕ) → restart_arguments_after (rs ++ r ∷ []) a ≡ r.restart_arguments
unfolding restart_arguments_after
arguments_last [] r a = refl
arguments_last (q ∷ rs) r a = arguments_last rs r q.restart_arguments
