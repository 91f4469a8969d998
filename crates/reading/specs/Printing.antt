-- What the program writes for what it reads. A reader or writer that tells no bytes, as those of the system, is None: nothing is said of it.
use Rattle.std.specs.Prelude.{ℕ, List, ◌≡◌, ⊤, Option, IfSome, Result, Ok, Err}
use Rattle.std.specs.Io.KnownBytes.{Appends}
use Rattle.reading_session.specs.Session.{printed}
use Rattle.reading.specs.declared.Failed.{Failed}
use Rattle.reading.specs.declared.Failed.TheVariants.{Read, Write}

-- Behind what was written before stands the text for the whole input; nothing is written where a read failed.
abbrev pub Prints : (input before after : Option (List ℕ)) → Result Unit Failed → Type 0
Prints input before after (Ok tt) = IfSome input (λ s. Appends before after (printed s))
Prints input before after (Err (Read e)) = after ≡ before
Prints input before after (Err (Write e)) = ⊤
