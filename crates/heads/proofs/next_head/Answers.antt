-- `heads::next_head` meets its contract: the definition, test by test. Assumes nothing.
use mathlib.Core.Path.{sym, ◌∙◌}
use Rattle.heads.proofs.Reach.{step_ends, step_protected, step_reaches}
use Rattle.heads.proofs.next_head.Goals as goal

pub returns-then-last : goal.returns-then-last
returns-then-last c = record { value = step_ends _ c.if-last.true; reached_stands = tt }

pub returns-then-barred : goal.returns-then-barred
returns-then-barred c =
    let low = c.if-last.false in record { value = step_protected _ low (sym c.protects_step-barred.ensures ∙ c.if-barred.true); reached_stands = low }

pub next_index-requires : goal.next_index-requires
next_index-requires c = record { standing = c.requires.standing; track_ends = c.requires.track_ends; head_bound = c.if-last.false }

pub returns : goal.returns
returns c = record { value = step_reaches _ c.if-last.false (sym c.protects_step-barred.ensures ∙ c.if-barred.false) _ c.next_index.ensures.value; reached_stands = c.next_index.ensures.stands }
