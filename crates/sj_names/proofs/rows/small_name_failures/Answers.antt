use Rattle.std.proofs.Common.{refl}
use Rattle.sj_names.proofs.rows.small_name_failures.Goals as goal

pub returns-clause-none : goal.returns-clause-none
returns-clause-none c = refl

pub returns-clause-each_role : goal.returns-clause-each_role
returns-clause-each_role c = refl

pub returns-clause-unknown : goal.returns-clause-unknown
returns-clause-unknown c = refl

pub returns-clause-emitted_trap : goal.returns-clause-emitted_trap
returns-clause-emitted_trap c = refl

pub returns-clause-assigned_signal : goal.returns-clause-assigned_signal
returns-clause-assigned_signal c = refl

pub returns-clause-tested_channel : goal.returns-clause-tested_channel
returns-clause-tested_channel c = refl

pub returns-clause-sent_signal : goal.returns-clause-sent_signal
returns-clause-sent_signal c = refl

pub returns-clause-status_of_a_variable : goal.returns-clause-status_of_a_variable
returns-clause-status_of_a_variable c = refl

pub returns-clause-exit_of_a_signal : goal.returns-clause-exit_of_a_signal
returns-clause-exit_of_a_signal c = refl

pub returns-clause-twice : goal.returns-clause-twice
returns-clause-twice c = refl

pub returns-clause-shared : goal.returns-clause-shared
returns-clause-shared c = refl

pub returns-clause-one_each : goal.returns-clause-one_each
returns-clause-one_each c = refl

pub returns-clause-shared_before_emitted : goal.returns-clause-shared_before_emitted
returns-clause-shared_before_emitted c = refl

pub returns-clause-emitted_input : goal.returns-clause-emitted_input
returns-clause-emitted_input c = refl

pub returns-clause-joined : goal.returns-clause-joined
returns-clause-joined c = refl

pub returns-clause-no_send : goal.returns-clause-no_send
returns-clause-no_send c = refl

pub returns-clause-no_receive : goal.returns-clause-no_receive
returns-clause-no_receive c = refl

pub returns-clause-second_channel : goal.returns-clause-second_channel
returns-clause-second_channel c = refl

pub returns-clause-send_then_receive : goal.returns-clause-send_then_receive
returns-clause-send_then_receive c = refl

pub returns-clause-receive_then_send : goal.returns-clause-receive_then_send
returns-clause-receive_then_send c = refl

pub returns-clause-second_sender : goal.returns-clause-second_sender
returns-clause-second_sender c = refl

pub returns-clause-second_receiver : goal.returns-clause-second_receiver
returns-clause-second_receiver c = refl

pub returns-clause-lesser_place : goal.returns-clause-lesser_place
returns-clause-lesser_place c = refl

pub returns-clause-too_many_domains : goal.returns-clause-too_many_domains
returns-clause-too_many_domains c = refl
