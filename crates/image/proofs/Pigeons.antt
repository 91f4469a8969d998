-- At most n different numbers are below n.
--   Apart       no number of a list is among those before it
--   few         a list of numbers below n, each apart from the others, has at most n
use Prim.Native.Nat.{ℕ, zero, suc, ◌+◌, ◌<◌, ◌≤◌}
use native.Mathlib.Omega.{arith}
use mathlib.Core.Path.{◌≡◌, refl, ap}
use mathlib.Core.List.{List, [], ◌∷◌}
use lib.Dec.{eqb}
use lib.ListN.{length}
use borrow.Author.Tests.{eqb-true, eqb-false}
use Rattle.base.specs.Choice.{pick}
use Rattle.base.proofs.Choice.{split}

-- no number equals q
abbrev pub Without : ℕ → List ℕ → Type 0
Without q [] = Unit {0}
Without q (x ∷ xs) = (x ≡ q → ⊥) × Without q xs

abbrev pub Apart : List ℕ → Type 0
Apart [] = Unit {0}
Apart (x ∷ xs) = Without x xs × Apart xs

abbrev pub Below : ℕ → List ℕ → Type 0
Below n [] = Unit {0}
Below n (x ∷ xs) = (x < n) × Below n xs

-- the list without a number
unfoldable drop_all : ℕ → List ℕ → List ℕ
drop_all q [] = []
drop_all q (x ∷ xs) = pick (eqb x q) (drop_all q xs) (x ∷ drop_all q xs)

keeps : (q r : ℕ) (xs : List ℕ) → Without r xs → Without r (drop_all q xs)
unfolding drop_all pick
keeps q r [] w = tt
keeps q r (x ∷ xs) w = split (eqb x q) (λ e. rw e (keeps q r xs w.1)) (λ e. rw e (w.0, keeps q r xs w.1))

apart_still : (q : ℕ) (xs : List ℕ) → Apart xs → Apart (drop_all q xs)
unfolding drop_all pick
apart_still q [] a = tt
apart_still q (x ∷ xs) a = split (eqb x q) (λ e. rw e (apart_still q xs a.1)) (λ e. rw e (keeps q x xs a.0, apart_still q xs a.1))

below_less : (n : ℕ) (xs : List ℕ) → Below (suc n) xs → Below n (drop_all n xs)
unfolding drop_all pick
below_less n [] b = tt
below_less n (x ∷ xs) b =
    split (eqb x n) (λ e. rw e (below_less n xs b.1))
    (λ e. let g : x ≡ n → ⊥ = eqb-false x n e in let h : x < suc n = b.0 in rw e (omega arith, below_less n xs b.1))

same_without : (q : ℕ) (xs : List ℕ) → Without q xs → drop_all q xs ≡ xs
unfolding drop_all pick
same_without q [] w = refl
same_without q (x ∷ xs) w = split (eqb x q) (λ e. absurd (w.0 (eqb-true x q e))) (λ e. rw e (ap (λ (l : List ℕ). x ∷ l) (same_without q xs w.1)))

one_less : (q : ℕ) (xs : List ℕ) → Apart xs → length xs ≤ length (drop_all q xs) + 1
unfolding drop_all pick
one_less q [] a = omega arith
one_less q (x ∷ xs) a =
    split (eqb x q)
    (λ e. let z : x ≡ q = eqb-true x q e in rw (e, ap (λ (l : List ℕ). length l) (same_without q xs (rw z at a.0))) (omega arith))
    (λ e. let i = one_less q xs a.1 in rw e (omega arith))

pub few : (n : ℕ) (xs : List ℕ) → Apart xs → Below n xs → length xs ≤ n
few zero [] a b = omega arith
few zero (x ∷ xs) a b = let h : x < 0 = b.0 in absurd (omega arith)
few (suc n) xs a b =
    let i = few n (drop_all n xs) (apart_still n xs a) (below_less n xs b) in
    let j = one_less n xs a in
    omega arith
