-- `drive::Command::from` meets its contract: each listed code computes, the others are a law. Assumes nothing.
use Rattle.base.specs.Choice.{pick}
use Rattle.drive.specs.Command.{codes, look_up, command_of}
use Rattle.drive.proofs.Arguments.{unlisted}
use Rattle.drive.proofs.CommandFromU8.from.Goals as goal

pub returns-in-3 : goal.returns-in-3
unfolding command_of look_up codes pick
returns-in-3 c = rw c.in-3.is

pub returns-in-7 : goal.returns-in-7
unfolding command_of look_up codes pick
returns-in-7 c = rw c.in-7.is

pub returns-in-31 : goal.returns-in-31
unfolding command_of look_up codes pick
returns-in-31 c = rw c.in-31.is

pub returns-in-35 : goal.returns-in-35
unfolding command_of look_up codes pick
returns-in-35 c = rw c.in-35.is

pub returns-in-49 : goal.returns-in-49
unfolding command_of look_up codes pick
returns-in-49 c = rw c.in-49.is

pub returns-in-6 : goal.returns-in-6
unfolding command_of look_up codes pick
returns-in-6 c = rw c.in-6.is

pub returns-in-14 : goal.returns-in-14
unfolding command_of look_up codes pick
returns-in-14 c = rw c.in-14.is

pub returns-in-18 : goal.returns-in-18
unfolding command_of look_up codes pick
returns-in-18 c = rw c.in-18.is

pub returns-in-30 : goal.returns-in-30
unfolding command_of look_up codes pick
returns-in-30 c = rw c.in-30.is

pub returns-in-26 : goal.returns-in-26
unfolding command_of look_up codes pick
returns-in-26 c = rw c.in-26.is

pub returns-in-177 : goal.returns-in-177
unfolding command_of look_up codes pick
returns-in-177 c = rw c.in-177.is

pub returns-in-134 : goal.returns-in-134
unfolding command_of look_up codes pick
returns-in-134 c = rw c.in-134.is

pub returns-in-142 : goal.returns-in-142
unfolding command_of look_up codes pick
returns-in-142 c = rw c.in-142.is

pub returns-in-146 : goal.returns-in-146
unfolding command_of look_up codes pick
returns-in-146 c = rw c.in-146.is

pub returns-in-158 : goal.returns-in-158
unfolding command_of look_up codes pick
returns-in-158 c = rw c.in-158.is

pub returns-in_default : goal.returns-in_default
returns-in_default c =
    let n = c.in_default.in_default-own.rest in
    unlisted _ n.0.0.0.0.0.0.0.0.0.0.0.0.0.0.1 n.0.0.0.0.0.0.0.0.0.0.0.0.0.1 n.0.0.0.0.0.0.0.0.0.0.0.0.1 n.0.0.0.0.0.0.0.0.0.0.0.1 n.0.0.0.0.0.0.0.0.0.0.1 n.0.0.0.0.0.0.0.0.0.1 n.0.0.0.0.0.0.0.0.1 n.0.0.0.0.0.0.0.1 n.0.0.0.0.0.0.1 n.0.0.0.0.0.1 n.0.0.0.0.1 n.0.0.0.1 n.0.0.1 n.0.1 n.1
