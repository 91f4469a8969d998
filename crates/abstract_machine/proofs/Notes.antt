-- What is noted of a run, where one note is made from another.
--   filtered         the notes that f makes of others, in order
--   notes_filtered   a run's notes by f are f's of its notes
use Rattle.std.specs.Prelude.{Option, Some, None}
use Prim.Native.Nat.{ℕ, zero, suc}
use mathlib.Core.Path.{◌≡◌, refl}
use mathlib.Core.List.{List, [], ◌∷◌}
use Rattle.base.specs.Choice.{opt}
use Rattle.abstract_machine.specs.Machine.{Stepped, goes, ends, cuts, notes}

unfoldable pub filtered : {A H : Type 0} → (A → Option H) → List A → List H
filtered f [] = []
filtered f (a ∷ rest) = opt (f a) (filtered f rest) (λ h. h ∷ filtered f rest)

module _ {S E C A H : Type 0} (step : S → Stepped S E C) (note : S → Option A) (flag : S → Option H) (f : A → Option H) where
  -- one note more
  filtered_more : (o : Option A) (rest : List A) → opt (opt o None f) (filtered f rest) (λ h. h ∷ filtered f rest) ≡ filtered f (opt o rest (λ a. a ∷ rest))
  unfolding filtered opt
  filtered_more None rest = refl
  filtered_more (Some a) rest = refl

  pub notes_filtered : ((s : S) → flag s ≡ opt (note s) None f) → (n : ℕ) (s : S) → notes step flag n s ≡ filtered f (notes step note n s)
  unfolding notes filtered
  notes_filtered made zero s = refl
  notes_filtered made (suc n) s = by (notes_filtered made n) (step s) refl
    where
      by : ((t : S) → notes step flag n t ≡ filtered f (notes step note n t)) → (o : Stepped S E C) → step s ≡ o
          → notes step flag (suc n) s ≡ filtered f (notes step note (suc n) s)
      by rest (goes t) q = rw (q, notes, made s, rest t) (filtered_more (note s) (notes step note n t))
      by rest (ends e) q = rw (q, notes, made s) (filtered_more (note s) [])
      by rest (cuts c) q = rw (q, notes, made s) (filtered_more (note s) [])
