-- The count area of a record that was found.
--   counted   it is the eight bytes before the key
--   room      there are eight
use Rattle.std.specs.Prelude.{Some}
use Prim.Native.Nat.{ℕ, ◌+◌, ◌-◌, ◌≤◌}
use native.Mathlib.Omega.{arith}
use mathlib.Core.Path.{◌≡◌, ap, sym}
use mathlib.Core.List.{List}
use lib.Dec.{eqb, leb}
use lib.ListN.{get_or}
use borrow.Author.Tests.{eqb-true, leb-true}
use Rattle.base.specs.Bytes.{be16_at}
use Rattle.base.proofs.Choice.{and_left, and_right}
use Rattle.pack.specs.declared.Place.{Place}
use Rattle.pack.specs.Places.{is_record, placed, record_at}
use Rattle.pack.proofs.Decode.{place_from}
use Rattle.read_bytes.specs.Bytes.{Counted}

pub counted : (s : List ℕ) (at : ℕ) (p : Place) → record_at s at ≡ Some p → Counted s p
unfolding is_record placed
counted s at p h =
    let f = place_from s at p h in
    let st = f.0.start in
    let size = f.0.next - st in
    let long : 8 ≤ size = leb-true _ _ (and_left _ (eqb size (8 + get_or s (st + 5) 0 + be16_at s (st + 6))) f.4) in
    let whole : size ≡ 8 + get_or s (st + 5) 0 + be16_at s (st + 6) = eqb-true _ _ (and_right (leb 8 size) _ f.4) in
    let n : f.0.next ≡ p.next = ap (λ (q : Place). q.next) f.5 in
    let k : st + 8 ≡ p.key = ap (λ (q : Place). q.key) f.5 in
    let m : st + 8 + get_or s (st + 5) 0 ≡ p.body = ap (λ (q : Place). q.body) f.5 in
    record {
      start = st;
      key = sym k;
      cylinder = sym (ap (λ (q : Place). q.at.cylinder) f.5);
      head = sym (ap (λ (q : Place). q.at.head) f.5);
      number = sym (ap (λ (q : Place). q.r) f.5);
      body = omega arith;
      next = omega arith;
    }

pub room : (s : List ℕ) (p : Place) → Counted s p → 8 ≤ p.key
room s p k = omega (arith, k.key)
