-- `trial::run_on` meets its contract. Invariant: the commands left, from the state and storage that the loop has come to, come to what all of
-- them come to; the drive stands in the image, and a CSW can show the state. Assumes nothing.
use Prim.Native.Nat.{◌+◌, ◌-◌}
use native.Mathlib.Omega.{arith}
use mathlib.Core.Path.{◌≡◌}
use Rattle.trial.proofs.Runs.{goes_on, ends_so, cut_so, out}
use Rattle.trial.proofs.run_on.Goals as goal

pub loop-init : goal.loop-init
loop-init c =
    let n : c.args.limit - 0 ≡ c.args.limit = omega arith in record { standing = c.requires.standing; low = c.requires.state_low; alike = λ fs l. rw n }

pub loop-preserved : goal.loop-preserved
loop-preserved c =
    let s₀ = c.args.s in
    let n : c.args.limit - (c.loop.counter + 1) ≡ c.args.limit - c.loop.counter - 1 = omega arith in record {
      standing = c.in-Goes.ensures.kept.0;
      low = c.in-Goes.ensures.kept.1;
      alike = rw n (goes_on _ _ _ _ _ _ _ _ s₀ _ _ c.loop.here _ c.loop.invariant.alike c.in-Goes.t _ (omega arith) c.in-Goes.ensures.steps);
    }

pub returns-in-Ends-clause-runs_on : goal.returns-in-Ends-clause-runs_on
returns-in-Ends-clause-runs_on c =
    let s₀ = c.args.s in
    ends_so _ _ _ _ _ _ _ _ s₀ _ _ c.loop.here _ c.loop.invariant.alike c.in-Ends.e _ (omega arith) c.in-Ends.ensures.steps

pub returns-in-Cuts-clause-runs_on : goal.returns-in-Cuts-clause-runs_on
returns-in-Cuts-clause-runs_on c =
    let s₀ = c.args.s in
    cut_so _ _ _ _ _ _ _ _ s₀ _ _ c.loop.here _ c.loop.invariant.alike c.in-Cuts.k _ (omega arith) c.in-Cuts.ensures.steps

pub returns-clause-runs_on : goal.returns-clause-runs_on
returns-clause-runs_on c =
    let s₀ = c.args.s in
    out _ _ _ _ _ _ _ _ s₀ _ _ c.loop.here _ c.loop.invariant.alike (omega arith) _ c.csw_at.ensures.value
