use Rattle.std.proofs.Common.{rules, ◌≡◌, ap, sym, ◌∙◌, to_z, of_z, w64}
use Rattle.std.specs.Prelude.{is_some}
use Rattle.signal_store.proofs.MomentLemmas.{adds, where_ok}
use Rattle.signal_store.proofs.inputs.Inputs.add.Goals as goal

pub returns-clause-ok : goal.returns-clause-ok
returns-clause-ok c =
    let updated = where_ok c.insert.result _ (sym c.is_err.ensures.value ∙ c.if-is_err.false) c.insert.ensures.updates in
    let number : to_z w64 (of_z w64 c.args.n) ≡ c.args.n = search rules in
    let same : c.self.inside.numbers.entries ≡ c.args.self.now = search rules in
    adds c.args.self.now c.self.inside.numbers.entries c.insert.new.self.entries c.args.signal c.args.tick c.args.n (to_z w64 (of_z w64 c.args.n)) same number
    (ap is_some (sym c.at.ensures) ∙ sym c.is_some.ensures ∙ c.if-is_some.false)
    updated.0
