-- `channel::resolve` meets its contract: each answer is a law of `resolve` at the tests that led there. Assumes nothing.
use mathlib.Core.Path.{sym, ◌∙◌}
use Rattle.channel.proofs.Answers.{nothing_there, plain_ccw, tic_nowhere, tic_to_tic, tic_lands}
use Rattle.channel.proofs.resolve.Goals as goal

pub returns-in_default : goal.returns-in_default
returns-in_default c =
    let f = rw c.in_default.is at c.fetch.ensures.fetches in record { resolves = λ p e h. rw c.anew.ensures (nothing_there _ _ _ (f p e h)); got_inside = tt }

pub returns-then-not-is_tic : goal.returns-then-not-is_tic
returns-then-not-is_tic c =
    let f = rw c.in-Some.is at c.fetch.ensures.fetches in
    let i = rw c.in-Some.is at c.fetch.ensures.fetched_from in record { resolves = λ p e h. rw c.anew-then-not-is_tic.ensures (plain_ccw _ _ _ (f p e h) (sym c.is_tic.ensures ∙ c.if-not-is_tic.true)); got_inside = rw c.anew-then-not-is_tic.ensures i }

pub returns-in_default-fetch : goal.returns-in_default-fetch
returns-in_default-fetch c =
    let f = rw c.in-Some.is at c.fetch.ensures.fetches in
    let t = sym c.is_tic.ensures ∙ c.if-not-is_tic.false in
    let g = rw c.in_default-fetch.is at c.fetch-2.ensures.fetches in record { resolves = λ p e h. rw c.anew-in_default-fetch.ensures (tic_nowhere _ _ _ (f p e h) t c.target-to.ensures (g p e h)); got_inside = tt }

pub returns-then-is_tic : goal.returns-then-is_tic
returns-then-is_tic c =
    let f = rw c.in-Some.is at c.fetch.ensures.fetches in
    let i = rw c.in-Some.is at c.fetch.ensures.fetched_from in
    let t = sym c.is_tic.ensures ∙ c.if-not-is_tic.false in
    let g = rw c.in-Some-fetch.is at c.fetch-2.ensures.fetches in
    let j = rw c.in-Some-fetch.is at c.fetch-2.ensures.fetched_from in record { resolves = λ p e h. tic_to_tic _ _ _ (f p e h) t c.target-to.ensures (g p e h) (sym c.is_tic-2.ensures ∙ c.if-is_tic.true); got_inside = tt }

pub returns : goal.returns
returns c =
    let f = rw c.in-Some.is at c.fetch.ensures.fetches in
    let i = rw c.in-Some.is at c.fetch.ensures.fetched_from in
    let t = sym c.is_tic.ensures ∙ c.if-not-is_tic.false in
    let g = rw c.in-Some-fetch.is at c.fetch-2.ensures.fetches in
    let j = rw c.in-Some-fetch.is at c.fetch-2.ensures.fetched_from in record { resolves = λ p e h. tic_lands _ _ _ (f p e h) t c.target-to.ensures (g p e h) (sym c.is_tic-2.ensures ∙ c.if-is_tic.false); got_inside = j }
