-- What the reader of a fault answers, from the tests that its code makes.
use Rattle.std.specs.Prelude.{Option, Some, None}
use Prim.Native.Nat.{ℕ, ◌+◌, ◌-◌}
use mathlib.Core.Path.{◌≡◌}
use mathlib.Core.List.{List}
use lib.ListN.{get_or}
use borrow.Author.Tests.{eq-eqb, ne_eqb}
use Rattle.base.specs.Choice.{pick, opt}
use Rattle.base.specs.Bytes.{be16_at}
use Rattle.fields.specs.declared.Field.{Field}
use Rattle.fields.specs.TaggedAt.{tagged_at}
use Rattle.faults.specs.FaultAt.{listed, fault_in, fault_at}
use Rattle.faults.specs.declared.Listed.{Listed}

module _ (s : List ℕ) (y : Field) where
  pub not_fault : (y.tag ≡ 0x20 → ⊥) → None ≡ fault_in s y
  unfolding fault_in pick
  not_fault h = rw (ne_eqb _ _ h)

  module _ (h : y.tag ≡ 0x20) where
    pub fault_length : (y.next - y.start ≡ 10 → ⊥) → None ≡ fault_in s y
    unfolding fault_in pick
    fault_length n = rw (eq-eqb _ _ h, ne_eqb _ _ n)

    pub fault_whole : {c g r d : ℕ} → y.next - y.start ≡ 10 → c ≡ be16_at s y.start → g ≡ be16_at s (y.start + 2) → r ≡ get_or s (y.start + 4) 0 → d ≡ be16_at s (y.start + 5)
        → Some (record {
          at = record { cylinder = c; head = g };
          r = r;
          displacement = record { 0 = d };
          first = get_or s (y.start + 7) 0;
          second = get_or s (y.start + 8) 0;
          third = get_or s (y.start + 9) 0;
          next = y.next;
        })
        ≡ fault_in s y
    unfolding fault_in listed pick
    fault_whole n e f i j = rw (eq-eqb _ _ h, eq-eqb _ _ n, e, f, i, j)

module _ (s : List ℕ) (at : ℕ) where
  pub fault_torn : None ≡ tagged_at s at → None ≡ fault_at s at
  unfolding fault_at opt
  fault_torn e = rw (← e)

  pub fault_field : {y : Field} → tagged_at s at ≡ Some y → {x : Option Listed} → x ≡ fault_in s y → x ≡ fault_at s at
  unfolding fault_at opt
  fault_field e g = rw e g
