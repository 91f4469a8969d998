-- Eleven bytes: the eight of a CSW, and three behind them.
--   second_fits, third_fits    behind one byte there is a place for the second, behind two for the third
--   over_written               the whole, from the parts that the code writes
use Prim.Native.Nat.{ℕ, ◌/◌, ◌%◌, ◌<◌}
use native.Mathlib.Omega.{arith}
use mathlib.Core.Path.{◌≡◌, refl, ap, ◌∙◌}
use mathlib.Core.List.{List, [], ◌∷◌, ◌++◌}
use lib.ListN.{length, set, drop, length-set, length-append, length-drop}
use Rattle.base.specs.Bytes.{two, three}
use Rattle.channel.specs.declared.Csw.{Csw}
use Rattle.channel.specs.Csw.{csw_bytes}
use Rattle.location.proofs.CswBytes.{csw_length}
use Rattle.reading_runs.specs.declared.Over.{Over}
use Rattle.reading_answer.specs.ReadingAnswer.{stop_number, over_bytes}

-- three bytes set behind a CSW
behind_csw : (w : Csw) (t : List ℕ) (a b c : ℕ) → length t ≡ 3 → set (set (set (csw_bytes w ++ t) 8 a) 9 b) 10 c ≡ csw_bytes w ++ a ∷ b ∷ c ∷ []
unfolding csw_bytes three two
behind_csw w [] a b c n = absurd (omega arith)
behind_csw w (p ∷ []) a b c n = absurd (omega arith)
behind_csw w (p ∷ q ∷ []) a b c n = absurd (omega arith)
behind_csw w (p ∷ q ∷ r ∷ []) a b c n = refl
behind_csw w (p ∷ q ∷ r ∷ s ∷ t) a b c n = absurd (omega arith)

module _ (w : Csw) (x y : List ℕ) (n : length x ≡ 11) (e : y ≡ csw_bytes w ++ drop 8 x) where
  csw_kept : length y ≡ 11
  csw_kept = rw (e, length-append, length-drop, csw_length w) (omega arith)

  pub second_fits : (a : ℕ) → 9 < length (set y 8 a)
  second_fits a = rw (length-set y 8 a, csw_kept) (omega arith)

  pub third_fits : (a b : ℕ) → 10 < length (set (set y 8 a) 9 b)
  third_fits a b = rw (length-set (set y 8 a) 9 b, length-set y 8 a, csw_kept) (omega arith)

pub over_written : (o : Over) (x y : List ℕ) (s : ℕ) → length x ≡ 11 → y ≡ csw_bytes o.csw ++ drop 8 x → s ≡ stop_number o.how
    → set (set (set y 8 (o.made / 256)) 9 (o.made % 256)) 10 s ≡ over_bytes o
unfolding over_bytes csw_bytes three two
over_written o x y s n e f =
    ap (λ (l : List ℕ). set (set (set l 8 (o.made / 256)) 9 (o.made % 256)) 10 s) e
    ∙ behind_csw o.csw (drop 8 x) _ _ s (rw length-drop (omega arith))
    ∙ rw f
