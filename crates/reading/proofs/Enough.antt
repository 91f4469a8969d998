-- The first 60,001 bytes of an input decide what is printed for it, as one of more than 60,000 bytes is refused.
use Rattle.std.specs.Prelude.{None}
use Rattle.std.proofs.Common.{◌≡◌, ℕ, ◌<◌, List, length, take, ap, sym, ◌∙◌, arith, length-take-le, take_all, ⊎_elim}
use Rattle.std.proofs.lemmas.Bool.{lt-leb}
use Rattle.std.proofs.lemmas.Bool.Decides.{leb_tells}
use Rattle.base.proofs.Choice.{pick_false}
use Rattle.reading_input.specs.Input.{parts_of}
use Rattle.reading_session.specs.Session.{printed, text_of, answered}

too_long : (s : List ℕ) → 60000 < length s → parts_of s ≡ None
unfolding parts_of
too_long s h = pick_false _ _ (lt-leb (length s) 60000 h)

parts_enough : (s : List ℕ) → parts_of (take 60001 s) ≡ parts_of s
parts_enough s = ⊎_elim
    (λ p. ap parts_of (take_all 60001 s (omega (arith, p.1))))
    (λ p. too_long (take 60001 s) (omega (arith, length-take-le 60001 s (omega (arith, p.1)))) ∙ sym (too_long s p.1))
    (leb_tells (length s) 60000)

pub printed_enough : (s : List ℕ) → printed (take 60001 s) ≡ printed s
unfolding printed text_of answered
printed_enough s = rw (parts_enough s)
