-- The parts of the program's input (document 01, the last paragraph under "Proved cases").
use Rattle.std.specs.Prelude.{ℕ, zero, suc, List, eqb, leb, length, get_or, drop, Option, Some, None}
use Rattle.base.specs.Choice.{pick, opt}
use Rattle.base.specs.Bytes.{part}
use Rattle.fields.specs.TaggedAt.{tagged_at, wanted_at}

-- "fields 30 chain, 31 arguments, 32 extent, then faults, then image"; of a field its contents
pub record Parts : Type 0 where
  pub chain : List ℕ
  pub arguments : List ℕ
  pub extent : List ℕ
  pub faults : List ℕ
  pub image : List ℕ

-- What f makes of the contents of the field at a place and of the place behind it; nothing where no whole field of this tag stands there.
unfoldable pub led : List ℕ → ℕ → ℕ → (List ℕ → ℕ → Option Parts) → Option Parts
led s at tag f = opt (wanted_at s at tag) None (λ g. f (part s g.start g.next) g.next)

-- The place behind at most n faults. One that runs past the end takes all the rest.
unfoldable pub image_up_to : ℕ → List ℕ → ℕ → ℕ
image_up_to zero s at = at
image_up_to (suc n) s at = pick (eqb (get_or s at 0) 0x20) (opt (tagged_at s at) (length s) (λ f. image_up_to n s f.next)) at

-- "then faults, then image"; "faults end at the first other tag". As many faults as bytes are enough.
unfoldable pub image_at : List ℕ → ℕ → ℕ
image_at s at = image_up_to (length s) s at

-- "on standard input fields 30 chain, 31 arguments, 32 extent, then faults, then image, at most 60,000 bytes in all (more, or a bad 30 to
-- 32, is refusal 1"; nothing for such a refusal
unfoldable pub parts_of : List ℕ → Option Parts
parts_of s =
    pick (leb (length s) 60000)
    (led s 0 0x30 λ chain second.
    led s second 0x31 λ arguments third.
    led s third 0x32 λ extent faults.
    Some (record { chain = chain; arguments = arguments; extent = extent; faults = part s faults (image_at s faults); image = drop (image_at s faults) s }))
    None
