-- A read into the rest of an area.
use Rattle.std.proofs.Common.{◌≡◌, ℕ, ◌+◌, ◌≤◌, List, ◌++◌, length, take, sym, ap, subst, ◌∙◌}
use Rattle.std.proofs.Math.Seq.{take-append-add}
use Rattle.std.proofs.lemmas.List.{take-append-le}
use Rattle.std.specs.Prelude.{Option}
use Rattle.std.specs.Io.KnownBytes.{Consumes}
use Rattle.std.proofs.KnownBytes.{Consumes-trans}

-- what was read into the part stands behind the front
take_read : (front part rest : List ℕ) (at n : ℕ) → length front ≡ at → n ≤ length part → take (at + n) (front ++ (part ++ rest)) ≡ front ++ take n part
take_read front part rest at n long fits =
    ap (λ i. take (i + n) (front ++ (part ++ rest))) (sym long) ∙ take-append-add front (part ++ rest) n ∙ ap (λ l. front ++ l) (take-append-le n part rest fits)

-- the front was what an input gave, and the part what it gave next
pub taken_more : (a b c : Option (List ℕ)) (front part rest : List ℕ) (at n : ℕ) → length front ≡ at → n ≤ length part
    → Consumes a b front → Consumes b c (take n part) → Consumes a c (take (at + n) (front ++ (part ++ rest)))
taken_more a b c front part rest at n long fits before read =
    subst (Consumes a c) (sym (take_read front part rest at n long fits)) (Consumes-trans a b c front (take n part) before read)
