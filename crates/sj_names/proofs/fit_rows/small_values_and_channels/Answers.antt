use Rattle.std.proofs.Common.{refl}
use Rattle.sj_names.proofs.fit_rows.small_values_and_channels.Goals as goal

pub returns-clause-own_variable : goal.returns-clause-own_variable
returns-clause-own_variable c = refl

pub returns-clause-variable_of_another_domain : goal.returns-clause-variable_of_another_domain
returns-clause-variable_of_another_domain c = refl

pub returns-clause-no_such_variable : goal.returns-clause-no_such_variable
returns-clause-no_such_variable c = refl

pub returns-clause-assigned_value : goal.returns-clause-assigned_value
returns-clause-assigned_value c = refl

pub returns-clause-updated : goal.returns-clause-updated
returns-clause-updated c = refl

pub returns-clause-updated_in_another_domain : goal.returns-clause-updated_in_another_domain
returns-clause-updated_in_another_domain c = refl

pub returns-clause-updated_by : goal.returns-clause-updated_by
returns-clause-updated_by c = refl

pub returns-clause-new : goal.returns-clause-new
returns-clause-new c = refl

pub returns-clause-new_of_another_kind : goal.returns-clause-new_of_another_kind
returns-clause-new_of_another_kind c = refl

pub returns-clause-new_in_another_domain : goal.returns-clause-new_in_another_domain
returns-clause-new_in_another_domain c = refl

pub returns-clause-first_value : goal.returns-clause-first_value
returns-clause-first_value c = refl

pub returns-clause-emitted_value : goal.returns-clause-emitted_value
returns-clause-emitted_value c = refl

pub returns-clause-sustained_value : goal.returns-clause-sustained_value
returns-clause-sustained_value c = refl

pub returns-clause-sender : goal.returns-clause-sender
returns-clause-sender c = refl

pub returns-clause-receiver_that_sends : goal.returns-clause-receiver_that_sends
returns-clause-receiver_that_sends c = refl

pub returns-clause-no_such_channel : goal.returns-clause-no_such_channel
returns-clause-no_such_channel c = refl

pub returns-clause-sent_value : goal.returns-clause-sent_value
returns-clause-sent_value c = refl

pub returns-clause-receiver : goal.returns-clause-receiver
returns-clause-receiver c = refl

pub returns-clause-sender_that_receives : goal.returns-clause-sender_that_receives
returns-clause-sender_that_receives c = refl

pub returns-clause-status_in_the_receiver : goal.returns-clause-status_in_the_receiver
returns-clause-status_in_the_receiver c = refl

pub returns-clause-status_in_the_sender : goal.returns-clause-status_in_the_sender
returns-clause-status_in_the_sender c = refl

pub returns-clause-status_of_a_signal : goal.returns-clause-status_of_a_signal
returns-clause-status_of_a_signal c = refl

pub returns-clause-status_of_a_signal_elsewhere : goal.returns-clause-status_of_a_signal_elsewhere
returns-clause-status_of_a_signal_elsewhere c = refl

pub returns-clause-name_of_a_variable : goal.returns-clause-name_of_a_variable
returns-clause-name_of_a_variable c = refl

pub returns-clause-name_of_a_variable_elsewhere : goal.returns-clause-name_of_a_variable_elsewhere
returns-clause-name_of_a_variable_elsewhere c = refl

pub returns-clause-written_out : goal.returns-clause-written_out
returns-clause-written_out c = refl

pub returns-clause-status_of_a_variable : goal.returns-clause-status_of_a_variable
returns-clause-status_of_a_variable c = refl

pub returns-clause-name_of_a_signal : goal.returns-clause-name_of_a_signal
returns-clause-name_of_a_signal c = refl

pub returns-clause-name_of_a_channel : goal.returns-clause-name_of_a_channel
returns-clause-name_of_a_channel c = refl
