-- Command codes, and what the code answers about a CCW's argument, from the tests that it makes.
--   unlisted                       a code that is none of the fifteen
--   chain-inside .. restart-high   whether an argument is inside its area
--   unargued, argued               and whether the CCW is formed besides
--   chain_ends, restart_ends       where an argument that is inside ends
--   chain_byte, restart_byte       a byte of it
--   seek-in .. search-in           the argument of a command without program check is inside
use Prim.Native.Nat.{ℕ, ◌+◌, ◌-◌, ◌<◌, ◌≤◌}
use native.Mathlib.Omega.{arith}
use mathlib.Core.Path.{◌≡◌, refl, sym, ◌∙◌}
use mathlib.Core.Bool.{Bool, true, false, ◌&&◌}
use mathlib.Core.List.{List}
use lib.Dec.{eqb, leb}
use lib.ListN.{length, get_or}
use borrow.Author.Tests.{le-leb, lt-leb, leb-true, leb-false, ne_eqb}
use Rattle.base.specs.Choice.{pick}
use Rattle.base.proofs.Choice.{split, and_left, and_right}
use Rattle.base.proofs.Bytes.{get_or-part}
use Rattle.channel.specs.declared.Ccw.{Ccw}
use Rattle.channel.specs.declared.Location.{Location}
use Rattle.channel.specs.declared.Location.TheVariants.{Chain, Restart}
use Rattle.channel.specs.Ccw.{Lent, formed, arguments_at, arguments_base, argument_inside, argument}
use Rattle.drive.specs.declared.Command.TheVariants.{Seek, SetMask, SetSector, SearchId, Unlisted}
use Rattle.drive.specs.Command.{codes, look_up, command_of}
use Rattle.drive.specs.Step.{sound}
use Rattle.drive.specs.Arguments.{only_arguments, ArgumentIn}

-- ---- command codes

-- what a code is not, with the listed code first
other : (x k : ℕ) → (x ≡ k → ⊥) → eqb k x ≡ false
other x k h = ne_eqb k x (λ e. h (sym e))

pub unlisted : (x : ℕ) → (x ≡ 0x03 → ⊥) → (x ≡ 0x07 → ⊥) → (x ≡ 0x1f → ⊥) → (x ≡ 0x23 → ⊥) → (x ≡ 0x31 → ⊥)
    → (x ≡ 0x06 → ⊥) → (x ≡ 0x0e → ⊥) → (x ≡ 0x12 → ⊥) → (x ≡ 0x1e → ⊥) → (x ≡ 0x1a → ⊥)
    → (x ≡ 0xb1 → ⊥) → (x ≡ 0x86 → ⊥) → (x ≡ 0x8e → ⊥) → (x ≡ 0x92 → ⊥) → (x ≡ 0x9e → ⊥)
    → Unlisted ≡ command_of x
unfolding command_of look_up codes pick
unlisted x a b c d e f g h i j k l m n o =
    rw (
      other x _ a,
      other x _ b,
      other x _ c,
      other x _ d,
      other x _ e,
      other x _ f,
      other x _ g,
      other x _ h,
      other x _ i,
      other x _ j,
      other x _ k,
      other x _ l,
      other x _ m,
      other x _ n,
      other x _ o,
    )

-- ---- whether an argument is inside its area

module _ (p : Lent) (a : ℕ) (c : Ccw) where
  pub chain_inside : (n : ℕ) → length p.arguments ≡ n → leb (c.address + c.count) n ≡ argument_inside p (Chain a) c
  unfolding argument_inside arguments_base arguments_at
  chain_inside n e = let z : 0 + length p.arguments ≡ n = omega arith in rw (le-leb 0 c.address (omega arith), z)

  pub restart_low : c.address < 0x2000 → false ≡ argument_inside p (Restart a) c
  unfolding argument_inside arguments_base
  restart_low h = rw (lt-leb _ _ h)

  pub restart_high : 0x2000 ≤ c.address → (n : ℕ) → length p.restart_arguments ≡ n → leb (c.address - 0x2000 + c.count) n ≡ argument_inside p (Restart a) c
  unfolding argument_inside arguments_base arguments_at
  restart_high h n e = rw (le-leb _ _ h, e) moved
    where
      moved : leb (c.address - 0x2000 + c.count) n ≡ leb (c.address + c.count) (0x2000 + n)
      moved =
          split (leb (c.address - 0x2000 + c.count) n)
          (λ t. let x : c.address - 0x2000 + c.count ≤ n = leb-true _ _ t in t ∙ sym (le-leb (c.address + c.count) (0x2000 + n) (omega arith)))
          (λ t. let x : n < c.address - 0x2000 + c.count = leb-false _ _ t in t ∙ sym (lt-leb (c.address + c.count) (0x2000 + n) (omega arith)))

module _ (p : Lent) (l : Location) (c : Ccw) where
  pub unargued : formed c ≡ false → false ≡ (formed c && argument_inside p l c)
  unargued e = rw e

  pub argued : formed c ≡ true → {b : Bool} → b ≡ argument_inside p l c → b ≡ (formed c && argument_inside p l c)
  argued e q = rw e q

-- ---- the bytes of an argument

module _ (s r : List ℕ) (a : ℕ) (c : Ccw) where
  pub chain_ends : ArgumentIn s r (Chain a) c → c.address + c.count ≤ length s
  unfolding argument_inside arguments_base arguments_at
  chain_ends h = let e : c.address + c.count ≤ 0 + length s = leb-true _ _ (and_right (leb 0 c.address) _ h) in omega arith

  pub restart_ends : ArgumentIn s r (Restart a) c → (0x2000 ≤ c.address) × (c.address - 0x2000 + c.count ≤ length r)
  unfolding argument_inside arguments_base arguments_at
  restart_ends h =
      let low : 0x2000 ≤ c.address = leb-true _ _ (and_left _ _ h) in
      let e : c.address + c.count ≤ 0x2000 + length r = leb-true _ _ (and_right (leb 0x2000 c.address) _ h) in
      (low, omega arith)

module _ (p : Lent) (a : ℕ) (c : Ccw) (k : ℕ) (h : k < c.count) {s : List ℕ} {b : ℕ} where
  pub chain_byte : p.arguments ≡ s → b ≡ get_or s (c.address + k) 0 → b ≡ get_or (argument p (Chain a) c) k 0
  unfolding argument arguments_base arguments_at
  chain_byte e q =
      let z : c.address - 0 ≡ c.address = omega arith in
      rw (z, e) (q ∙ sym (get_or-part s c.address (c.address + c.count) k (omega arith)))

  pub restart_byte : p.restart_arguments ≡ s → b ≡ get_or s (c.address - 0x2000 + k) 0 → b ≡ get_or (argument p (Restart a) c) k 0
  unfolding argument arguments_base arguments_at
  restart_byte e q = rw e (q ∙ sym (get_or-part s (c.address - 0x2000) (c.address - 0x2000 + c.count) k (omega arith)))

-- ---- from `sound` to an argument's bytes

-- the areas of CCWs do not matter
same_inside : (p : Lent) (l : Location) (c : Ccw) → argument_inside p l c ≡ argument_inside (only_arguments p.arguments p.restart_arguments) l c
unfolding argument_inside arguments_at
same_inside p (Chain a) c = refl
same_inside p (Restart a) c = refl

argument_in : (p : Lent) (l : Location) (c : Ccw) → (formed c && argument_inside p l c) ≡ true → ArgumentIn p.arguments p.restart_arguments l c
argument_in p l c h = sym (same_inside p l c) ∙ and_right (formed c) _ h

module _ (p : Lent) (l : Location) (size : ℕ) (c : Ccw) where
  pub seek_in : sound p l size c Seek ≡ true → ArgumentIn p.arguments p.restart_arguments l c
  unfolding sound
  seek_in = argument_in p l c

  pub mask_in : sound p l size c SetMask ≡ true → ArgumentIn p.arguments p.restart_arguments l c
  unfolding sound
  mask_in = argument_in p l c

  pub sector_in : sound p l size c SetSector ≡ true → ArgumentIn p.arguments p.restart_arguments l c
  unfolding sound
  sector_in = argument_in p l c

  pub search_in : sound p l size c SearchId ≡ true → ArgumentIn p.arguments p.restart_arguments l c
  unfolding sound
  search_in = argument_in p l c
