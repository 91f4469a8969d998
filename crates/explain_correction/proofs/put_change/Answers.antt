-- `explain_correction::put_change` meets its contract. Assumes nothing.
use Rattle.text.specs.Text.{ascii}
use Rattle.explain_correction.proofs.Lines.{left_same, left_none, left_fewer, unchanged, spent, change_put}
use native.Mathlib.Omega.{arith}
use Rattle.explain_correction.proofs.put_change.Goals as goal

pub returns-then-b-eq0 : goal.returns-then-b-eq0
returns-then-b-eq0 c = record { puts = unchanged _ _ _ _ _ c.if-b-eq0.true; b_bound = omega (arith, left_same c.args.n c.args.b c.if-b-eq0.true) }

pub returns-then-n-eq0 : goal.returns-then-n-eq0
returns-then-n-eq0 c = record { puts = spent _ _ _ _ _ c.if-b-eq0.false c.if-n-eq0.true; b_bound = omega (arith, left_none c.args.n c.args.b c.if-b-eq0.false c.if-n-eq0.true) }

pub returns : goal.returns
unfolding ascii
returns c =
    let a = c.args in record {
      puts = change_put _ _ _ c.if-b-eq0.false c.if-n-eq0.false c.put-address.ensures.puts c.put_number-colon.ensures.puts c.put-pattern.ensures.puts
          c.put_number-end.ensures.puts c.put.ensures.puts;
      b_bound = omega (
        arith,
        left_fewer a.n a.b c.if-b-eq0.false,
        c.if-n-eq0.false,
        c.put-address.ensures.value,
        c.put_number-colon.ensures.value,
        c.put-pattern.ensures.value,
        c.put_number-end.ensures.value,
        c.put.ensures.value,
      );
    }
