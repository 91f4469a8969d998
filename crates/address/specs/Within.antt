-- Document 01, "Tagged fields": "Extent: 8 bytes, first and last track as cylinder 2, head 2."
use Rattle.std.specs.Prelude.{ℕ, Bool, ◌&&◌, not, List, eqb, length, Result, Ok, Err}
use Rattle.base.specs.Choice.{pick}
use Rattle.base.specs.Bytes.{be16_at}
use Rattle.address.specs.declared.Address.{Address}
use Rattle.address.specs.declared.Extent.{Extent}
use Rattle.address.specs.declared.Model.{Model}
use Rattle.address.specs.Model.{last_of}
use Rattle.address.specs.Order.{before, on_pack}
use Rattle.questions.specs.declared.Question.{Question}

-- "8 bytes, first and last track as cylinder 2, head 2", on a pack of a model; whether there are 8 is asked apart
unfoldable pub extent_of : Model → List ℕ → Extent
extent_of m s = record {
  first = record { cylinder = be16_at s 0; head = be16_at s 2 };
  last = record { cylinder = be16_at s 4; head = be16_at s 6 };
  model = m;
}

-- a track that is neither before the first nor behind the last
unfoldable pub within : Extent → Address → Bool
within e a = not (before a e.first) && not (before e.last a)

-- "Is the extent on the pack, first not after last?"
unfoldable pub sound_extent : Extent → Bool
sound_extent e = on_pack (last_of e.model) e.first && on_pack (last_of e.model) e.last && not (before e.last e.first)

-- Questions 1 and 5, for an extent alone.
unfoldable pub extent_answer : Model → List ℕ → Result Unit Question
extent_answer m s =
    pick (eqb (length s) 8)
    (pick (sound_extent (extent_of m s)) (Ok tt) (Err Question.Extent))
    (Err Question.Areas)
