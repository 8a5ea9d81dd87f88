use Rattle.std.proofs.Common.{◌∙◌, sym}
use Rattle.std.proofs.lemmas.Bool.{true≢false}
use Rattle.sj_accept.proofs.KindLemmas.{no_kind_fails, program_of_typing}
use Rattle.sj_accept.proofs.StaticRuleLemmas.{unaccepted, breaks_rules, accepts}
use Rattle.sj_accept.proofs.source.accept.Goals as goal

pub returns-in_default : goal.returns-in_default
returns-in_default c =
    unaccepted c.sources_are_one_tree.ensures c.args.source.now c.in_ok-tree.tree c.requires c.in_ok-tree.ensures c.in-Ok.ensures.bound.sound (no_kind_fails c.in_ok-tree.tree c.in-Ok.bound c.in-Ok-typed.typed c.in-Ok.ensures.bound c.in-Ok-typed.ensures)
    (program_of_typing c.in_ok-tree.tree c.in-Ok.bound c.in-Ok-typed.typed c.in-Ok.ensures.bound c.in-Ok-typed.ensures ∙ (rw c.in_default.is at c.in_ok-system.ensures))

pub returns-then-not-keep_static_rules : goal.returns-then-not-keep_static_rules
returns-then-not-keep_static_rules c =
    let k = rw c.domains.ensures at c.keep_static_rules.ensures in
    breaks_rules c.sources_are_one_tree.ensures c.args.source.now c.in_ok-tree.tree c.in-Ok-typed.typed.tables c.in-Ok-typed.typed.tree c.in-Some.system c.requires c.in_ok-tree.ensures c.in-Ok.ensures.bound.sound
    (no_kind_fails c.in_ok-tree.tree c.in-Ok.bound c.in-Ok-typed.typed c.in-Ok.ensures.bound c.in-Ok-typed.ensures) (program_of_typing c.in_ok-tree.tree c.in-Ok.bound c.in-Ok-typed.typed c.in-Ok.ensures.bound c.in-Ok-typed.ensures)
    (rw c.in-Some.is at c.in_ok-system.ensures) (λ h. true≢false (sym (k.1 h) ∙ c.if-not-keep_static_rules.true))

pub returns : goal.returns
returns c =
    let k = rw c.domains.ensures at c.keep_static_rules.ensures in
    accepts c.args.source.now c.in_ok-tree.tree c.in-Ok-typed.typed.tables c.in-Ok-typed.typed.tree c.in-Some.system c.requires c.in_ok-tree.ensures c.in-Ok.ensures.bound.sound
    (no_kind_fails c.in_ok-tree.tree c.in-Ok.bound c.in-Ok-typed.typed c.in-Ok.ensures.bound c.in-Ok-typed.ensures) (program_of_typing c.in_ok-tree.tree c.in-Ok.bound c.in-Ok-typed.typed c.in-Ok.ensures.bound c.in-Ok-typed.ensures)
    (rw c.in-Some.is at c.in_ok-system.ensures) (k.0 c.if-not-keep_static_rules.false)

pub returns-in-Err-typed : goal.returns-in-Err-typed
returns-in-Err-typed c = c.kind_error.ensures c.args.source.now c.in_ok-tree.tree c.in-Ok.bound c.in_ok-tree.ensures c.in-Ok.ensures.bound c.in-Err-typed.ensures
