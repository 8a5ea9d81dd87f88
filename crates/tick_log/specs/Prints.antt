-- What a printer puts, where a failure of the sink before or within leaves a prefix.
use Rattle.std.specs.Prelude.{◌≡◌, ℕ, ◌≤◌, Bool, true, false, List, Option}
use Rattle.sj_io.specs.definitions.Causes.{Rose}
use Rattle.sj_io.specs.definitions.Gathers.{waiting, Gathers, GathersPrefix}
use Rattle.tick_log.specs.declared.printer.Printer.{Printer}

-- whether all went well, what the sink has taken and its faults, and what waits for it
pub record Standing : Type 0 where
  pub good : Bool
  pub told : Option (List ℕ)
  pub faults : ℕ
  pub waits : List ℕ

abbrev pub AddsAt : Bool → Bool → Standing → Standing → List ℕ → Type 0
AddsAt true true p q x = Gathers p.told q.told p.waits q.waits x
AddsAt true false p q x = GathersPrefix p.told q.told p.waits q.waits x × Rose p.faults q.faults
AddsAt false true p q x = ⊥
AddsAt false false p q x = (q.told ≡ p.told) × ((q.waits ≡ p.waits) × (q.faults ≡ p.faults))

-- where it went well before, these bytes are put, or a prefix of them and the sink has failed; after a failure nothing is
pub record Adds (p q : Standing) (x : List ℕ) : Type 0 where
  pub what : AddsAt p.good q.good p q x
  pub later : p.faults ≤ q.faults

module _ {K : Type 0} where
  abbrev pub standing : (K → Option (List ℕ)) → (K → ℕ) → Printer → K → Standing
  standing taken faults printer out =
      record {
        good = printer.good;
        told = taken out;
        faults = faults out;
        waits = waiting printer.gathered;
      }

  abbrev pub Prints : (K → Option (List ℕ)) → (K → ℕ) → Printer → Printer → K → K → List ℕ → Type 0
  Prints taken faults printer printer' out out' x =
      Adds (standing taken faults printer out) (standing taken faults printer' out') x
