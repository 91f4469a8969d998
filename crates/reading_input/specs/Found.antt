-- The places that the code finds, as parts, and that they lie in the input in order.
use Rattle.std.specs.Prelude.{ℕ, ◌≤◌, List, drop, Option, Some, None}
use Rattle.base.specs.Bytes.{part}
use Rattle.reading_input.specs.Input.{Parts}
use Rattle.reading_input.specs.declared.Places.{Places}

-- the parts at these places
abbrev pub parts_in : List ℕ → Places → Parts
parts_in s p = record {
  chain = part s p.chain p.second;
  arguments = part s p.arguments p.third;
  extent = part s p.extent p.faults;
  faults = part s p.faults p.image;
  image = drop p.image s;
}

-- the parts, if they were found
abbrev pub found_in : List ℕ → Option Places → Option Parts
found_in s (Some p) = Some (parts_in s p)
found_in s None = None

-- Each part ends no earlier than it begins, and within the first n bytes.
pub record Ordered (p : Places) (n : ℕ) : Type 0 where
  pub chain : p.chain ≤ p.second
  pub second : p.second ≤ n
  pub arguments : p.arguments ≤ p.third
  pub third : p.third ≤ n
  pub extent : p.extent ≤ p.faults
  pub faults : p.faults ≤ p.image
  pub image : p.image ≤ n

-- Places that were found are ordered so.
abbrev pub Inside : Option Places → ℕ → Type 0
Inside (Some p) n = Ordered p n
Inside None n = Unit
