-- A read's data chain retraced, for three bytes of the read: where each of them stayed.
use Rattle.std.specs.Prelude.{ℕ, zero, suc, ◌+◌, ◌-◌, ◌≡◌, Bool, true, false, ◌&&◌, List, [], ◌∷◌, ltb, leb, Option, Some, None, Result, Ok, Err}
use Rattle.base.specs.Choice.{pick}
use Rattle.channel.specs.declared.Ccw.{Ccw}
use Rattle.channel.specs.declared.Location.{Location}
use Rattle.channel.specs.Ccw.{Lent, skips, next, resolve}
use Rattle.channel.specs.Fetch.{InBytes, Inside}
use Rattle.channel.specs.Walk.{Walk, walked, checked, walk, readable}
use Rattle.recovery.specs.Correct.{mend, overwritten}
use Rattle.correction.specs.declared.ThreeStayed.{ThreeStayed}
use Rattle.correction.specs.declared.Correction.{Correction}
use Rattle.correction.specs.declared.End.{End}

-- where byte j of a read stayed; nowhere if it was skipped, came past the counts, or a later byte went to the same place
unfoldable pub final_at : List (Option ℕ) → ℕ → Option ℕ
final_at [] j = None
final_at (q ∷ ps) zero = pick (overwritten q ps) None q
final_at (q ∷ ps) (suc j) = final_at ps j

-- a storage address or none, as the code has it
abbrev pub stayed_of : Option ℕ → Option ℕ
stayed_of None = None
stayed_of (Some a) = Some a

-- and as the definitions have it
abbrev pub place_of : Option ℕ → Option ℕ
place_of None = None
place_of (Some a) = Some a

-- bytes k, k + 1 and k + 2
abbrev pub three_stayed_of : ℕ → List (Option ℕ) → ThreeStayed
three_stayed_of k ps = record { first = stayed_of (final_at ps k); second = stayed_of (final_at ps (k + 1)); third = stayed_of (final_at ps (k + 2)) }

-- how a walk ended, and where the three bytes stayed
unfoldable pub retraced : ℕ → Walk → Option End
retraced k (walked ps l c left over) = Some (record { at = l; ccw = c; left = left; over = over; stayed = three_stayed_of k ps })
retraced k (checked ps l) = None

-- the walk of n bytes from the CCW c at l on
abbrev pub Retraces : (chain : List ℕ) → ℕ → Location → Ccw → ℕ → ℕ → Option End → Type 0
Retraces chain size l c n k r =
    (p : Lent) → p.chain ≡ chain → p.program ≡ [] → r ≡ retraced k (walk p size n l c c.count c.address)

-- a CCW that a read may not use is a program check
unfoldable pub usable : ℕ → Result (Location × Ccw) Location → Result (Location × Ccw) Location
usable size (Err l) = Err l
usable size (Ok (l, c)) = pick (readable size c) (Ok (l, c)) (Err l)

-- the CCW that a data chain goes on with behind the one at l
abbrev pub NextUsable : (chain : List ℕ) → ℕ → Location → Result (Location × Ccw) Location → Type 0
NextUsable chain size l f = (p : Lent) → p.chain ≡ chain → p.program ≡ [] → f ≡ usable size (resolve p l (next l))

-- it stands in the chain, and a read may use it
abbrev pub Usable : (chain : List ℕ) → ℕ → Result (Location × Ccw) Location → Type 0
Usable chain size (Err l) = Unit {0}
Usable chain size (Ok (l, c)) = Inside chain [] l × InBytes c × (readable size c ≡ true)

-- ---- a stretch of n bytes, from byte `from` of the read on, under the CCW c

-- one of them goes to the place of an earlier byte
unfoldable pub overwrites : Ccw → ℕ → Option ℕ → Bool
overwrites c n None = false
overwrites c n (Some a) = leb c.address a && ltb a (c.address + n)

-- where an earlier byte stays, if the stretch does not go over it
unfoldable pub unless_overwritten : Ccw → ℕ → Option ℕ → Option ℕ
unless_overwritten c n q = pick (overwrites c n q) None q

-- where byte j stands behind it
unfoldable pub passed : Ccw → (from n j : ℕ) → Option ℕ → Option ℕ
passed c from n j q = pick (skips c) q (pick (leb from j && ltb j (from + n)) (Some (c.address + (j - from))) (unless_overwritten c n q))

-- the same of bytes k, k + 1 and k + 2
unfoldable pub all_passed : Ccw → (from n k : ℕ) → ThreeStayed → ThreeStayed
all_passed c from n k s = record {
  first = passed c from n k s.first;
  second = passed c from n (k + 1) s.second;
  third = passed c from n (k + 2) s.third;
}

-- ---- the correction at three places

-- the pattern exclusive-ored into the bytes of storage where the three stayed;
-- "Skipped bytes, bytes past the counts, and bytes overwritten later by the same read are left."
unfoldable pub mended : Correction → List ℕ → List ℕ
mended c st =
    mend (place_of c.stayed.third) c.pattern2 (mend (place_of c.stayed.second) c.pattern1 (mend (place_of c.stayed.first) c.pattern0 st))

-- no byte stayed
abbrev pub nowhere : ThreeStayed
nowhere = record { first = None; second = None; third = None }

-- nothing to correct
abbrev pub nothing : Correction
nothing = record { stayed = nowhere; pattern0 = 0; pattern1 = 0; pattern2 = 0 }
