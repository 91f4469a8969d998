-- Fronts of areas and of inputs.
--   text_front      a text that was put at the front of an area, read back
--   text_for_input  the text for the front of an input, where that is the text for all of it
use Rattle.std.proofs.Common.{◌≡◌, ℕ, ◌≤◌, List, length, take, ap, subst, ◌∙◌, zero-add, arith, Some, None, IfSome}
use Rattle.std.specs.Prelude.{Option}
use Rattle.std.specs.Io.KnownBytes.{Appends}
use Rattle.text.specs.Text.{Puts}
use Rattle.text.proofs.Written.{front_written, same_length_of_puts}

pub text_front : (x y s : List ℕ) (n : ℕ) → Puts x 0 s y n → n ≤ length y → take n y ≡ s
text_front x y s n p h =
    let e : n ≡ length s = p.next ∙ zero-add (length s) in
    let g : length y ≡ length x = same_length_of_puts p in
    rw (e, p.bytes) (front_written x s (omega arith))

-- an area of so many bytes holds the front of an input, and the text for those bytes was written
pub text_for_input : (text : List ℕ → List ℕ) (most : ℕ) → ((xs : List ℕ) → text (take most xs) ≡ text xs) → (a b c : Option (List ℕ)) (n : ℕ) (s out : List ℕ)
    → length s ≡ most → IfSome a (λ xs. take n s ≡ take (length s) xs) → out ≡ text (take n s) → Appends b c out → IfSome a (λ xs. Appends b c (text xs))
text_for_input text most enough None b c n s out long front shown appended = tt
text_for_input text most enough (Some x) b c n s out long front shown appended =
    subst (Appends b c) (shown ∙ ap text (front ∙ ap (λ i. take i x) long) ∙ enough x) appended
