-- A CSW and a refusal, from the texts that the code puts one behind the other: csw-put, refused-put.
use Prim.Native.Nat.{ℕ}
use mathlib.Core.Path.{◌≡◌}
use mathlib.Core.List.{List, [], ◌∷◌}
use Rattle.text.specs.Text.{Puts, ascii, number}
use Rattle.text.proofs.Written.{puts_then}
use Rattle.questions.specs.declared.Question.{Question}
use Rattle.questions.specs.Number.{number_of}
use Rattle.channel.specs.declared.Csw.{Csw}
use Rattle.status.specs.Status.{csw_text, refused_text}

pub csw_put : {x y₁ y₂ y₃ y₄ y : List ℕ} {at r₁ r₂ r₃ r₄ r u v : ℕ} (w : Csw) → u ≡ w.unit → v ≡ w.channel
    → Puts x at (number 16 6 w.address) y₁ r₁ → Puts y₁ r₁ (number 16 2 u) y₂ r₂ → Puts y₂ r₂ (number 16 2 v) y₃ r₃
    → Puts y₃ r₃ (number 16 4 w.count) y₄ r₄ → Puts y₄ r₄ (0x0a ∷ []) y r → Puts x at (csw_text w) y r
unfolding csw_text ascii
csw_put w eu ev a b c d e = rw (← eu, ← ev) (puts_then (puts_then (puts_then (puts_then a b) c) d) e)

pub refused_put : {x y₁ y : List ℕ} {at r₁ r k n : ℕ} (q : Question) → k ≡ number_of q → n ≡ k
    → Puts x at (0x72 ∷ 0x65 ∷ 0x66 ∷ 0x75 ∷ 0x73 ∷ 0x65 ∷ 0x64 ∷ []) y₁ r₁ → Puts y₁ r₁ (number 10 1 n) y r → Puts x at (refused_text q) y r
unfolding refused_text ascii
refused_put q ek en a b = rw (← ek, ← en) (puts_then a b)
