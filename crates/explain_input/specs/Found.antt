-- The places that the code finds, as parts, and that they lie in the input in order.
use Rattle.std.specs.Prelude.{ℕ, ◌≤◌, List, drop, Option, Some, None}
use Rattle.base.specs.Bytes.{part}
use Rattle.explain_input.specs.Input.{Parts}
use Rattle.explain_input.specs.declared.Places.{Places}
use Rattle.explain_input.specs.declared.Last.{Last}

-- Where the extent's field stands, its places are in order from the given one on, within the first n bytes.
abbrev pub LastInside : Option Last → ℕ → ℕ → Type 0
LastInside None from n = Unit
LastInside (Some l) from n = (from ≤ l.at) × (l.at ≤ l.field.start) × (l.field.start ≤ l.field.next) × (l.field.next ≤ n)

-- the parts at these places
abbrev pub parts_in : List ℕ → Places → Parts
parts_in s p = record { chain = part s p.chain p.report; report = part s p.report p.end; extent = drop p.extent s }

-- the parts, if they were found
abbrev pub found_in : List ℕ → Option Places → Option Parts
found_in s (Some p) = Some (parts_in s p)
found_in s None = None

-- The places stand in order, within the first n bytes.
pub record Ordered (p : Places) (n : ℕ) : Type 0 where
  pub chain : p.chain ≤ p.report
  pub report : p.report ≤ p.end
  pub end : p.end ≤ p.extent
  pub extent : p.extent ≤ n

-- Places that were found are ordered so.
abbrev pub Inside : Option Places → ℕ → Type 0
Inside (Some p) n = Ordered p n
Inside None n = Unit
