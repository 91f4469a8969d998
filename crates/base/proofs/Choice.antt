-- Laws of `pick` and `opt`, and of tests.
--   pick_true, pick_false      what a known test picks
--   both, both_if              a property of both sides is one of the choice; with -if a side knows the test
--   choose, choose_if          choices by one test are equal where their sides are
--   either, either_if          the same properties for what may be missing
--   found, found_if            and the same equations
--   opt_const, opt_opt         a choice that comes to the same; a choice of a choice
--   opt_some                   what was chosen, where something was
--   split                      a test taken apart, with its outcome in hand
--   opt_none, opt_is           a choice whose outcome is known
--   and_left, and_right        what a true conjunction says
--   and_true, and_second       a conjunction whose second part is known
--   not_not, never, some_is    a test turned round twice; no test is both; what is the same in `some`
use Rattle.std.specs.Prelude.{Option, Some, None, Result, Ok, Err, IsErrAnd}
use mathlib.Core.Path.{◌≡◌, refl, ap}
use mathlib.Core.Bool.{Bool, true, false, ◌&&◌, not}
use Prim.Native.Nat.{ℕ}
use native.Mathlib.Omega.{arith}
use Rattle.base.specs.Choice.{pick, opt}

pub pick_true {ℓ} : {A : Type ℓ} {b : Bool} (x y : A) → b ≡ true → pick b x y ≡ x
unfolding pick
pick_true x y h = rw h

pub pick_false {ℓ} : {A : Type ℓ} {b : Bool} (x y : A) → b ≡ false → pick b x y ≡ y
unfolding pick
pick_false x y h = rw h

pub both {ℓ} : {A : Type 0} (P : A → Type ℓ) (b : Bool) {x y : A} → P x → P y → P (pick b x y)
unfolding pick
both P true u v = u
both P false u v = v

pub both_if {ℓ} : {A : Type 0} (P : A → Type ℓ) (b : Bool) {x y : A} → (b ≡ true → P x) → (b ≡ false → P y) → P (pick b x y)
unfolding pick
both_if P true u v = u refl
both_if P false u v = v refl

pub choose {ℓ} : {A : Type ℓ} (b : Bool) {x y u v : A} → x ≡ u → y ≡ v → pick b x y ≡ pick b u v
unfolding pick
choose true e f = e
choose false e f = f

pub choose_if {ℓ} : {A : Type ℓ} (b : Bool) {x y u v : A} → (b ≡ true → x ≡ u) → (b ≡ false → y ≡ v) → pick b x y ≡ pick b u v
unfolding pick
choose_if true e f = e refl
choose_if false e f = f refl

pub either {ℓ} : {A B : Type 0} (P : B → Type ℓ) (o : Option A) {y : B} {f : A → B} → P y → ((a : A) → P (f a)) → P (opt o y f)
unfolding opt
either P None u v = u
either P (Some a) u v = v a

pub either_if {ℓ} : {A B : Type 0} (P : B → Type ℓ) (o : Option A) {y : B} {f : A → B} → (o ≡ None → P y) → ((a : A) → o ≡ Some a → P (f a)) → P (opt o y f)
unfolding opt
either_if P None u v = u refl
either_if P (Some a) u v = v a refl

pub found : {A B : Type 0} (o : Option A) {x y : B} {f g : A → B} → x ≡ y → ((a : A) → f a ≡ g a) → opt o x f ≡ opt o y g
unfolding opt
found None e h = e
found (Some a) e h = h a

pub split {ℓ} : {P : Type ℓ} (b : Bool) → (b ≡ true → P) → (b ≡ false → P) → P
split true f g = f refl
split false f g = g refl

pub and_left : (a b : Bool) → (a && b) ≡ true → a ≡ true
and_left true b h = refl
and_left false b h = h

pub and_right : (a b : Bool) → (a && b) ≡ true → b ≡ true
and_right true b h = h
and_right false b h = let z : ◌≡◌ {A = ℕ} 0 1 = cc in absurd (omega arith)

pub and_true : (a : Bool) → (a && true) ≡ a
and_true true = refl
and_true false = refl

pub and_second : (a : Bool) {b : Bool} → b ≡ false → (a && b) ≡ false
and_second true h = h
and_second false h = refl

pub not_not : (b : Bool) → b ≡ not (not b)
not_not true = refl
not_not false = refl

pub never : {P : Type 0} → false ≡ true → P
never e = let z : ◌≡◌ {A = ℕ} 0 1 = cc in absurd (omega arith)

pub some_is : {A : Type 0} {a b : A} → Some a ≡ Some b → a ≡ b
some_is e = cc

pub opt_none : {A B : Type 0} (o : Option A) (y : B) (f : A → B) → None ≡ o → opt o y f ≡ y
unfolding opt
opt_none o y f e = rw (← e)

pub opt_is : {A B : Type 0} (o : Option A) (y : B) (f : A → B) (z : A) → Some z ≡ o → opt o y f ≡ f z
unfolding opt
opt_is o y f z e = rw (← e)

pub opt_opt : {A B C : Type 0} (o : Option A) (f : A → Option B) (y : C) (g : B → C) → opt (opt o None f) y g ≡ opt o y (λ a. opt (f a) y g)
unfolding opt
opt_opt None f y g = refl
opt_opt (Some a) f y g = refl

pub found_if : {A B : Type 0} (o : Option A) {x y : B} {f g : A → B} → x ≡ y → ((a : A) → o ≡ Some a → f a ≡ g a) → opt o x f ≡ opt o y g
unfolding opt
found_if None e h = e
found_if (Some a) e h = h a refl

pub opt_const : {A B : Type 0} (o : Option A) {y : B} {f : A → B} → ((a : A) → o ≡ Some a → f a ≡ y) → opt o y f ≡ y
unfolding opt
opt_const None h = refl
opt_const (Some a) h = h a refl

pub opt_some : {A B : Type 0} (o : Option A) (f : A → Option B) {b : B} → opt o None f ≡ Some b → (a : A) × (o ≡ Some a) × (f a ≡ Some b)
unfolding opt
opt_some None f h = let z : ◌≡◌ {A = ℕ} 0 1 = cc in absurd (omega arith)
opt_some (Some a) f h = (a, refl, h)

-- an error that `?` hands on as it is
pub err_is : {A E : Type 0} (r : Result A E) {e : E} → IsErrAnd r (λ x. x ≡ e) → r ≡ Err e
err_is (Ok a) h = absurd h
err_is (Err x) h = ap Err h
