-- DEMAND 3 of the program: the text that `reading` prints for an input (Rattle.reading_session.specs.Session) keeps demand 3
-- (Rattle.demand_three.specs.Demand), for every reading that document 01 lets begin.
use Rattle.std.specs.Prelude.{ℕ, ◌≡◌, List, ◌++◌, replicate, Some}
use Rattle.address.specs.declared.Model.TheVariants.{One}
use Rattle.drive.specs.Step.{End}
use Rattle.demand_three.specs.Demand.{Lending, Begins, Provided, end_of, LikeFaultless}
use Rattle.reading_runs.specs.declared.How.TheVariants.{Ended}
use Rattle.reading_input.specs.Input.{parts_of}
use Rattle.reading_lines.specs.Lines.{end_line, storage_line}
use Rattle.reading_lines.specs.Entries.{entry_lines}
use Rattle.reading_session.specs.Session.{printed}

-- The program lends g for the input s: "fields 30 chain, 31 arguments, 32 extent, then faults, then image", "with 4,096 zero bytes of storage
-- and limit 4,096".
pub record InputOf (g : Lending) (s : List ℕ) : Type 0 where
  pub parts : parts_of s ≡ Some (record { chain = g.chain; arguments = g.arguments; extent = g.extent; faults = g.fault_list; image = g.image })
  pub storage : g.storage ≡ replicate 4096 0
  pub limit : g.limit ≡ 4096
  -- "The program `reading` stays with model 1"
  pub model : g.model ≡ One

-- What demand 3 says of a printed text; the faultless run ends with e.
pub record PrintedLikeFaultless (g : Lending) (e : End) (text : List ℕ) : Type 0 where
  -- the reading as the definitions have it: the recoveries that it makes are the faulted data areas that the faultless run reads, in order
  pub like : LikeFaultless g e
  -- "a line for each recovery"; then the word "end", which neither "limit" nor "stopped" replaces, with "ending address, unit status, channel
  -- status and count left" of the faultless run, but for the exception that `end_of` states; then "the first 16 bytes of storage" of that run
  pub lines : text ≡ entry_lines like.made ++ end_line Ended (end_of g e).csw ++ storage_line e.storage

-- DEMAND 3 of every input: where the reading may begin and the provisos hold, the text is what demand 3 asks for.
abbrev pub PrintedKeepsDemandThree : Type 0
PrintedKeepsDemandThree = (s : List ℕ) (g : Lending) (e : End) → InputOf g s → Begins g → Provided g e → PrintedLikeFaultless g e (printed s)
