-- What the readers of home addresses and records answer, from the tests that their code makes.
use Rattle.std.specs.Prelude.{Option, Some, None}
use Prim.Native.Nat.{ℕ, ◌+◌, ◌-◌, ◌<◌, ◌≤◌}
use mathlib.Core.Path.{◌≡◌}
use mathlib.Core.Bool.{false}
use mathlib.Core.List.{List}
use lib.ListN.{get_or}
use borrow.Author.Tests.{le-leb, lt-leb, eq-eqb, ne_eqb}
use Rattle.base.specs.Choice.{pick, opt}
use Rattle.base.specs.Bytes.{be16_at}
use Rattle.fields.specs.declared.Field.{Field}
use Rattle.fields.specs.TaggedAt.{tagged_at}
use Rattle.address.specs.declared.Address.{Address}
use Rattle.address.specs.Order.{same}
use Rattle.pack.specs.declared.Home.{Home}
use Rattle.pack.specs.Places.{is_home, home_in, home_at, is_track, is_record, placed, place_in, record_at}
use Rattle.pack.specs.declared.Place.{Place}

module _ (s : List ℕ) (y : Field) where
  pub not_home : (y.tag ≡ 1 → ⊥) → None ≡ home_in s y
  unfolding home_in pick
  not_home h = rw (ne_eqb _ _ h)

  pub not_record : (y.tag ≡ 2 → ⊥) → None ≡ place_in s y
  unfolding place_in pick
  not_record h = rw (ne_eqb _ _ h)

  module _ (h : y.tag ≡ 1) where
    pub home_length : (y.next - y.start ≡ 5 → ⊥) → None ≡ home_in s y
    unfolding home_in is_home pick
    home_length n = rw (eq-eqb _ _ h, ne_eqb _ _ n)

    module _ (n : y.next - y.start ≡ 5) where
      pub home_flag : (get_or s y.start 0 ≡ 0 → ⊥) → None ≡ home_in s y
      unfolding home_in is_home pick
      home_flag f = rw (eq-eqb _ _ h, eq-eqb _ _ n, ne_eqb _ _ f)

      module _ (f : get_or s y.start 0 ≡ 0) where
        pub home_zero : (get_or s (y.start + 3) 0 ≡ 0 → ⊥) → None ≡ home_in s y
        unfolding home_in is_home pick
        home_zero z = rw (eq-eqb _ _ h, eq-eqb _ _ n, eq-eqb _ _ f, ne_eqb _ _ z)

        pub home_whole : {c k : ℕ} → get_or s (y.start + 3) 0 ≡ 0 → c ≡ be16_at s (y.start + 1) → k ≡ get_or s (y.start + 4) 0 → Some (record { at = record { cylinder = c; head = k }; next = y.next }) ≡ home_in s y
        unfolding home_in is_home pick
        home_whole z e g = rw (eq-eqb _ _ h, eq-eqb _ _ n, eq-eqb _ _ f, eq-eqb _ _ z, e, g)

  module _ (h : y.tag ≡ 2) where
    pub record_short : y.next - y.start < 8 → None ≡ place_in s y
    unfolding place_in is_record pick
    record_short n = rw (eq-eqb _ _ h, lt-leb _ _ n)

    module _ (n : 8 ≤ y.next - y.start) (k b : ℕ) (ke : k ≡ get_or s (y.start + 5) 0) (be : b ≡ be16_at s (y.start + 6)) where
      pub record_length : (y.next - y.start ≡ 8 + k + b → ⊥) → None ≡ place_in s y
      unfolding place_in is_record pick
      record_length m = rw (eq-eqb _ _ h, le-leb _ _ n, ne_eqb _ _ (rw (ke, be) at m))

      pub record_whole : {c g r : ℕ} → y.next - y.start ≡ 8 + k + b → c ≡ be16_at s y.start → g ≡ be16_at s (y.start + 2) → r ≡ get_or s (y.start + 4) 0
          → Some (record { at = record { cylinder = c; head = g }; r = r; key = y.start + 8; body = y.start + 8 + k; next = y.next }) ≡ place_in s y
      unfolding place_in is_record placed pick
      record_whole m e f i = rw (eq-eqb _ _ h, le-leb _ _ n, eq-eqb _ _ (rw (ke, be) at m), e, f, i, ke)

-- what stands at a place is what the field there is
module _ (s : List ℕ) (at : ℕ) where
  pub home_torn : None ≡ tagged_at s at → None ≡ home_at s at
  unfolding home_at opt
  home_torn e = rw (← e)

  pub record_torn : None ≡ tagged_at s at → None ≡ record_at s at
  unfolding record_at opt
  record_torn e = rw (← e)

  module _ {y : Field} (e : tagged_at s at ≡ Some y) where
    pub home_field : {h : Option Home} → h ≡ home_in s y → h ≡ home_at s at
    unfolding home_at opt
    home_field g = rw e g

    pub record_field : {x : Option Place} → x ≡ place_in s y → x ≡ record_at s at
    unfolding record_at opt
    record_field g = rw e g

module _ (s : List ℕ) (y : Field) (a : Address) where
  pub no_track : home_in s y ≡ None → false ≡ is_track s y a
  unfolding is_track opt
  no_track e = rw e

  pub track_same : (b : Home) → home_in s y ≡ Some b → same b.at a ≡ is_track s y a
  unfolding is_track opt
  track_same b e = rw e
