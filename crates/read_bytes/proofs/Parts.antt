-- The bytes of a read as one part of the image.
--   part_joined   two parts behind each other
--   bytes_part    the bytes of each read that the drive has
--   part_inside   that part lies in the image
--   part_short    it has no more bytes than count area, key and data
use Prim.Native.Nat.{ℕ, zero, suc, ◌+◌, ◌-◌, ◌/◌, ◌%◌, ◌<◌, ◌≤◌}
use native.Mathlib.Nat.{suc-add, zero-add}
use native.Mathlib.Omega.{arith}
use mathlib.Core.Path.{◌≡◌, refl, ap, sym, subst, ◌∙◌}
use mathlib.Core.Bool.{Bool, true, false}
use mathlib.Core.Logic.{inl, inr}
use mathlib.Core.List.{List, [], ◌∷◌, ◌++◌, append-nil}
use lib.Dec.{eqb}
use lib.ListN.{length, get_or, take, drop}
use lib.Seq.{drop-cons, drop-drop, take-nil}
use Rattle.base.specs.Choice.{pick}
use Rattle.base.specs.Bytes.{be16_at, part, two}
use Rattle.base.proofs.Choice.{both}
use Rattle.base.proofs.Bytes.{length_part}
use Rattle.pack.specs.declared.Place.{Place}
use Rattle.pack.specs.Places.{record_from, Within}
use Rattle.drive.specs.declared.Read.{Read}
use Rattle.drive.specs.declared.Command.{Command}
use Rattle.drive.specs.declared.Command.TheVariants.{NoOperation, Seek, SetMask, SetSector, SearchId, ReadHome, ReadRecord, SearchIdMultitrack, ReadMultitrack, Unlisted}
use Rattle.drive.specs.Command.{codes, look_up, command_of}
use Rattle.drive.specs.Drive.{address_bytes, identifier, count_area}
use Rattle.drive.specs.Step.{included, bytes_of}
use Rattle.read_bytes.specs.Bytes.{AreBytes, Counted, from, to, ReadsRecord}

-- ---- the reads

abbrev read_of : (just counts keys datas : Bool) → Read
read_of just counts keys datas = record { just = just; counts = counts; keys = keys; datas = datas }

abbrev OfRead : (Read → Type 0) → Command → Type 0
OfRead P NoOperation = Unit {0}
OfRead P Seek = Unit {0}
OfRead P SetMask = Unit {0}
OfRead P SetSector = Unit {0}
OfRead P SearchId = Unit {0}
OfRead P ReadHome = Unit {0}
OfRead P (ReadRecord r) = P r
OfRead P SearchIdMultitrack = Unit {0}
OfRead P (ReadMultitrack r) = P r
OfRead P Unlisted = Unit {0}

-- what holds for 06, 0E, 12 and 1E holds for each read that the drive has, multitrack ones too
module _ (P : Read → Type 0) (a : P (read_of true false false true)) (b : P (read_of true false true true))
    (c : P (read_of false true false false)) (d : P (read_of false true true true)) where
  each_code : (code : ℕ) → OfRead P (command_of code)
  unfolding command_of look_up codes
  each_code code =
      both (OfRead P) (eqb 0x03 code) tt
      (both (OfRead P) (eqb 0x07 code) tt
      (both (OfRead P) (eqb 0x1f code) tt
      (both (OfRead P) (eqb 0x23 code) tt
      (both (OfRead P) (eqb 0x31 code) tt
      (both (OfRead P) (eqb 0x06 code) a
      (both (OfRead P) (eqb 0x0e code) b
      (both (OfRead P) (eqb 0x12 code) c
      (both (OfRead P) (eqb 0x1e code) d
      (both (OfRead P) (eqb 0x1a code) tt
      (both (OfRead P) (eqb 0xb1 code) tt
      (both (OfRead P) (eqb 0x86 code) a
      (both (OfRead P) (eqb 0x8e code) b
      (both (OfRead P) (eqb 0x92 code) c
      (both (OfRead P) (eqb 0x9e code) d tt))))))))))))))

  each_read : (code : ℕ) (r : Read) → ReadsRecord code r → P r
  each_read code r (inl e) = subst (OfRead P) e (each_code code)
  each_read code r (inr e) = subst (OfRead P) e (each_code code)

-- ---- parts

take_joined : (m n : ℕ) (l : List ℕ) → take m l ++ take n (drop m l) ≡ take (m + n) l
take_joined zero n l = rw zero-add
take_joined (suc m) n [] = rw (take-nil n, take-nil (suc m + n))
take_joined (suc m) n (x ∷ l) = rw suc-add (ap (λ (t : List ℕ). x ∷ t) (take_joined m n l))

pub part_joined : (s : List ℕ) (a b c : ℕ) → a ≤ b → b ≤ c → part s a b ++ part s b c ≡ part s a c
unfolding part
part_joined s a b c h g =
    let n : b - a + (c - b) ≡ c - a = omega arith in
    let m : a + (b - a) ≡ b = omega arith in
    ap (λ (l : List ℕ). take (b - a) (drop a s) ++ take (c - b) l) (sym (drop-drop (b - a) a s ∙ ap (λ k. drop k s) m))
    ∙ take_joined (b - a) (c - b) (drop a s)
    ∙ rw n

-- its first byte apart
part_more : (s : List ℕ) (a b e : ℕ) → b ≡ a + 1 → a < e → e ≤ length s → part s a e ≡ get_or s a 0 ∷ part s b e
unfolding part
part_more s a b e q h g =
    let n : e - a ≡ suc (e - b) = omega arith in
    let one : suc a ≡ b = omega arith in
    rw (n, drop-cons s a 0 (omega arith), one)

part_none : (s : List ℕ) (a : ℕ) → part s a a ≡ []
unfolding part
part_none s a = let n : a - a ≡ 0 = omega arith in rw n

part_eight : (s : List ℕ) (a e : ℕ) → e ≡ a + 8 → e ≤ length s
    → part s a e ≡ get_or s a 0 ∷ get_or s (a + 1) 0 ∷ get_or s (a + 2) 0 ∷ get_or s (a + 2 + 1) 0 ∷ get_or s (a + 4) 0 ∷ get_or s (a + 5) 0 ∷ get_or s (a + 6) 0 ∷ get_or s (a + 6 + 1) 0 ∷ []
part_eight s a e q g =
    rw (
      part_more s a (a + 1) e (omega arith) (omega arith) g,
      part_more s (a + 1) (a + 2) e (omega arith) (omega arith) g,
      part_more s (a + 2) (a + 2 + 1) e (omega arith) (omega arith) g,
      part_more s (a + 2 + 1) (a + 4) e (omega arith) (omega arith) g,
      part_more s (a + 4) (a + 5) e (omega arith) (omega arith) g,
      part_more s (a + 5) (a + 6) e (omega arith) (omega arith) g,
      part_more s (a + 6) (a + 6 + 1) e (omega arith) (omega arith) g,
      part_more s (a + 6 + 1) e e (omega arith) (omega arith) g,
      part_none s e,
    )

-- ---- a record's bytes

two_at : (s : List ℕ) (a n : ℕ) → n ≡ be16_at s a → get_or s (a + 1) 0 < 256 → two n ≡ get_or s a 0 ∷ get_or s (a + 1) 0 ∷ []
unfolding two
two_at s a n e h =
    let high : n / 256 ≡ get_or s a 0 = omega arith in
    let low : n % 256 ≡ get_or s (a + 1) 0 = omega arith in
    rw (high, low)

-- the bytes of a read are one part of the image
abbrev Joined : List ℕ → Place → Read → Type 0
Joined s p r = bytes_of r (record_from s p) ≡ part s (from r p) (to r p)

module _ (s : List ℕ) (p : Place) (w : Within s p) (k : Counted s p) (small : AreBytes s) where
  count_part : count_area (record_from s p) ≡ part s (p.key - 8) p.key
  unfolding count_area identifier address_bytes record_from
  count_part =
      let a = k.start in
      let start : p.key - 8 ≡ a = omega (arith, k.key) in
      let inside : p.key ≤ length s = omega (arith, w.key_first, w.body_first, w.inside) in
      let keys : length (part s p.key p.body) ≡ get_or s (a + 5) 0 = length_part s p.key p.body (omega (arith, w.body_first, w.inside)) ∙ omega (arith, k.body) in
      let datas : length (part s p.body p.next) ≡ be16_at s (a + 6) = length_part s p.body p.next w.inside ∙ omega (arith, k.next) in
      rw (
        start,
        part_eight s a p.key k.key inside,
        two_at s a p.at.cylinder k.cylinder (small (a + 1)),
        two_at s (a + 2) p.at.head k.head (small (a + 2 + 1)),
        k.number,
        keys,
        two_at s (a + 6) _ datas (small (a + 6 + 1)),
      )

  data_read : Joined s p (read_of true false false true)
  unfolding bytes_of included from to pick record_from
  data_read = refl

  key_read : Joined s p (read_of true false true true)
  unfolding bytes_of included from to pick record_from
  key_read = part_joined s p.key p.body p.next w.key_first w.body_first

  count_read : Joined s p (read_of false true false false)
  unfolding bytes_of included from to pick
  count_read = rw count_part (append-nil _ ∙ append-nil _)

  whole_read : Joined s p (read_of false true true true)
  unfolding bytes_of included from to pick record_from
  whole_read =
      rw (
        count_part,
        part_joined s (p.key - 8) p.key p.body (omega arith) w.key_first,
        part_joined s (p.key - 8) p.body p.next (omega (arith, w.key_first)) w.body_first,
      )

  pub bytes_part : (code : ℕ) (r : Read) → ReadsRecord code r → bytes_of r (record_from s p) ≡ part s (from r p) (to r p)
  bytes_part = each_read (Joined s p) data_read key_read count_read whole_read

module _ (s : List ℕ) (p : Place) (w : Within s p) where
  pub part_inside : (code : ℕ) (r : Read) → ReadsRecord code r → (from r p ≤ to r p) × (to r p ≤ length s)
  unfolding from to pick
  part_inside =
      let more : p.key ≤ p.body = w.key_first in
      let end : p.body ≤ p.next = w.body_first in
      let inside : p.next ≤ length s = w.inside in
      each_read (λ r. (from r p ≤ to r p) × (to r p ≤ length s))
      (omega arith, omega arith)
      (omega arith, omega arith)
      (omega arith, omega arith)
      (omega arith, omega arith)

  pub part_short : (code : ℕ) (r : Read) → ReadsRecord code r → to r p - from r p ≤ 8 + (p.next - p.key)
  unfolding from to pick
  part_short =
      let more : p.key ≤ p.body = w.key_first in
      let end : p.body ≤ p.next = w.body_first in
      each_read (λ r. to r p - from r p ≤ 8 + (p.next - p.key)) (omega arith) (omega arith) (omega arith) (omega arith)
