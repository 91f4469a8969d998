-- The restart areas, from what was placed in a cleared area.
--   begun_unset, begun_set          the front of a program, with no mask and with one
--   with_counts, without, home      the programs of 5A, of 5, and of 8, 10 and 10A
--   rest_alone, rest_tic            the programs of 9 and 11, without the last TIC and with it
--   arguments_begun, arguments_id   the arguments of seek, mask and sector, and with an ID
use Rattle.std.specs.Prelude.{Option, Some, None}
use Prim.Native.Nat.{ℕ, ◌+◌}
use mathlib.Core.Path.{◌≡◌, refl}
use mathlib.Core.List.{List, [], ◌∷◌}
use lib.ListN.{length, replicate}
use Rattle.base.specs.Bytes.{two, three}
use Rattle.address.specs.declared.Address.{Address}
use Rattle.channel.specs.declared.Ccw.{Ccw}
use Rattle.drive.specs.Drive.{address_bytes}
use Rattle.restart.specs.declared.ReadCount.{ReadCount}
use Rattle.restart.specs.declared.ReadCount.TheVariants.{Omitted, Single, Multitrack}
use Rattle.restart.specs.Restart.{ccw_bytes, tic_to, padded, mask_ccw, program_ending, program_of, tic_ccw, overflow_program, search_address, count_ccw, searching, search_program, mask_byte, restart_arguments_of, search_arguments}
use Rattle.restart_areas.specs.Placed.{placed, begun, begun_to}

-- ---- programs

module _ (p : List ℕ) (h : length p ≡ 64) {p0 p1 : List ℕ} (e0 : p0 ≡ replicate (length p) 0)
    (e1 : p1 ≡ placed p0 0 (ccw_bytes 0x07 0x2000 0x40 6)) where
  pub begun_unset : {m : Option ℕ} {p2 : List ℕ} → m ≡ None → p2 ≡ placed p1 8 (ccw_bytes 0x23 0x2007 0x40 1) → p2 ≡ begun m
  unfolding placed begun padded mask_ccw ccw_bytes two three
  begun_unset e e2 = rw (e2, e1, e0, h, e)

  pub begun_set : {m : Option ℕ} {x : ℕ} {p2 p3 : List ℕ} → m ≡ Some x → p2 ≡ placed p1 8 (ccw_bytes 0x1f 0x2006 0x40 1)
      → p3 ≡ placed p2 16 (ccw_bytes 0x23 0x2007 0x40 1) → p3 ≡ begun m
  unfolding placed begun padded mask_ccw ccw_bytes two three
  begun_set e e2 e3 = rw (e3, e2, e1, e0, h, e)

-- a search and the TIC to it, behind the front of a program
searched : Option ℕ → List ℕ
searched m = placed (placed (begun m) (begun_to m) (ccw_bytes 0x31 0x2008 0x40 5)) (begun_to m + 8) (ccw_bytes 0x08 (0x1000 + begun_to m) 0 0)

-- the read count of a restart has this code
pub data Counts : ReadCount → ℕ → Type 0 where
  by_12 : Counts Single 0x12
  by_92 : Counts Multitrack 0x92

counts_is : (m : Option ℕ) (to : ℕ) (counts : ReadCount) (command : ℕ) → Counts counts command
    → placed (placed (searched m) (begun_to m + 16) (ccw_bytes command 0 0x50 8)) (begun_to m + 24) (ccw_bytes 0x08 to 0 0) ≡ search_program m counts to
unfolding searched placed begun begun_to search_program program_of program_ending padded mask_ccw searching search_address count_ccw tic_to ccw_bytes two three
counts_is None to counts command by_12 = refl
counts_is None to counts command by_92 = refl
counts_is (Some x) to counts command by_12 = refl
counts_is (Some x) to counts command by_92 = refl

without_is : (m : Option ℕ) (to : ℕ) → placed (searched m) (begun_to m + 16) (ccw_bytes 0x08 to 0 0) ≡ search_program m Omitted to
unfolding searched placed begun begun_to search_program program_of program_ending padded mask_ccw searching search_address count_ccw tic_to ccw_bytes two three
without_is None to = refl
without_is (Some x) to = refl

home_is : (m : Option ℕ) (to : ℕ)
    → placed (placed (begun m) (begun_to m) (ccw_bytes 0x1a 0 0x50 5)) (begun_to m + 8) (ccw_bytes 0x08 to 0 0) ≡ program_of m (ccw_bytes 0x1a 0 0x50 5) to
unfolding placed begun begun_to program_of program_ending padded mask_ccw tic_to ccw_bytes two three
home_is None to = refl
home_is (Some x) to = refl

-- restart CCW 1, behind the home address
rested : Option ℕ → Ccw → List ℕ
rested m f =
    placed (placed (begun m) (begun_to m) (ccw_bytes 0x1a 0 0x50 5)) (begun_to m + 8) (ccw_bytes f.command f.address f.flags f.count)

alone_is : (m : Option ℕ) (f : Ccw) → rested m f ≡ overflow_program m f None
unfolding rested placed begun begun_to overflow_program program_ending padded mask_ccw tic_ccw ccw_bytes two three
alone_is None f = refl
alone_is (Some x) f = refl

tic_is : (m : Option ℕ) (f : Ccw) (to : ℕ) → placed (rested m f) (begun_to m + 16) (ccw_bytes 0x08 to 0 0) ≡ overflow_program m f (Some to)
unfolding rested placed begun begun_to overflow_program program_ending padded mask_ccw tic_ccw tic_to ccw_bytes two three
tic_is None f to = refl
tic_is (Some x) f to = refl

module _ (m : Option ℕ) (at : ℕ) {p0 : List ℕ} (e0 : p0 ≡ begun m) (ea : at ≡ begun_to m) (f : Ccw) (tic : Option ℕ) {p1 p2 : List ℕ}
    (e1 : p1 ≡ placed p0 at (ccw_bytes 0x1a 0 0x50 5)) (e2 : p2 ≡ placed p1 (at + 8) (ccw_bytes f.command f.address f.flags f.count)) where
  pub rest_alone : tic ≡ None → p2 ≡ overflow_program m f tic
  unfolding rested
  rest_alone e = rw (e2, e1, e0, ea, e) (alone_is m f)

  pub rest_tic : (to : ℕ) {p3 : List ℕ} → tic ≡ Some to → p3 ≡ placed p2 (at + 16) (ccw_bytes 0x08 to 0 0) → p3 ≡ overflow_program m f tic
  unfolding rested
  rest_tic to e e3 = rw (e3, e2, e1, e0, ea, e) (tic_is m f to)

module _ (m : Option ℕ) (to at : ℕ) {p0 : List ℕ} (e0 : p0 ≡ begun m) (ea : at ≡ begun_to m) where
  module _ (counts : ReadCount) {p1 p2 : List ℕ} (e1 : p1 ≡ placed p0 at (ccw_bytes 0x31 0x2008 0x40 5))
      (e2 : p2 ≡ placed p1 (at + 8) (ccw_bytes 0x08 (0x1000 + at) 0 0)) where
    pub with_counts : {p3 p4 : List ℕ} (command : ℕ) → Counts counts command → p3 ≡ placed p2 (at + 16) (ccw_bytes command 0 0x50 8)
        → p4 ≡ placed p3 (at + 24) (ccw_bytes 0x08 to 0 0) → p4 ≡ search_program m counts to
    unfolding searched
    with_counts command e e3 e4 = rw (e4, e3, e2, e1, e0, ea) (counts_is m to counts command e)

    pub without : {p3 : List ℕ} → counts ≡ Omitted → p3 ≡ placed p2 (at + 16) (ccw_bytes 0x08 to 0 0) → p3 ≡ search_program m counts to
    unfolding searched
    without e e3 = rw (e3, e2, e1, e0, ea, e) (without_is m to)

  pub home : {p1 p2 : List ℕ} → p1 ≡ placed p0 at (ccw_bytes 0x1a 0 0x50 5) → p2 ≡ placed p1 (at + 8) (ccw_bytes 0x08 to 0 0)
      → p2 ≡ program_of m (ccw_bytes 0x1a 0 0x50 5) to
  home e1 e2 = rw (e2, e1, e0, ea) (home_is m to)

-- ---- arguments

module _ (a : Address) (m : Option ℕ) (sector : ℕ) where
  pub arguments_begun : (s : List ℕ) → length s ≡ 16 → {b : ℕ} {s0 s1 s2 : List ℕ} → b ≡ mask_byte m → s0 ≡ replicate (length s) 0
      → s1 ≡ placed s0 2 (address_bytes a) → s2 ≡ placed s1 6 (b ∷ sector ∷ []) → s2 ≡ restart_arguments_of a m sector []
  unfolding placed restart_arguments_of padded address_bytes two
  arguments_begun s h eb e0 e1 e2 = rw (e2, e1, e0, h, eb)

  pub arguments_id : (r : ℕ) {s0 s1 s2 : List ℕ} → s0 ≡ restart_arguments_of a m sector [] → s1 ≡ placed s0 8 (address_bytes a)
      → s2 ≡ placed s1 12 (r ∷ []) → s2 ≡ search_arguments a m sector r
  unfolding placed restart_arguments_of search_arguments padded address_bytes two
  arguments_id r e0 e1 e2 = rw (e2, e1, e0)
