-- A legal tick reads what is handed in at it, and nothing else.
use Rattle.std.proofs.Common.{◌≡◌, ℕ, suc, ℤ, Bool, true, false, cond, List, Option, refl, ap, ◌∙◌}
use Rattle.kernel_terms.specs.declared.tables.Tables.{Tables}
use Rattle.kernel_terms.specs.TableEntries.{signal_at, is_input, is_interface_of}
use Rattle.kernel_rules.specs.definitions.Signals.{Status}
use Rattle.kernel_rules.specs.definitions.LegalTick.{DomainState, Inputs, IsLegalTick, input_status, emitted_status}

other_inputs :
    (t : Bool) (a b : Option ℤ) (v : ℤ) (other : Status) → (t ≡ true → a ≡ b)
    → cond t (input_status a v) other ≡ cond t (input_status b v) other
other_inputs true a b v other h = ap (λ i. input_status i v) (h refl)
other_inputs false a b v other h = refl

pub reads_inputs :
    (tables : Tables) (I J : Inputs) (d : ℕ) (old : DomainState) (row : List (Option ℤ)) (new : DomainState)
    → ((s : ℕ) → is_interface_of d (signal_at tables s) ≡ true → is_input (signal_at tables s).sort ≡ true → I s (suc old.ticks) ≡ J s (suc old.ticks))
    → IsLegalTick tables I d old row new → IsLegalTick tables J d old row new
reads_inputs tables I J d old row new same h =
    let now = suc old.ticks in
    record {
      goes_on = h.goes_on;
      env = h.env;
      tick = h.tick;
      ticks = h.ticks;
      coherent = λ s e. h.coherent s e
          ∙ other_inputs (is_input (signal_at tables s).sort) (I s now) (J s now) (old.values s) (emitted_status (signal_at tables s) s (old.values s) h.tick.emits) (same s e);
      code = h.code;
      shows = h.shows;
      next = h.next;
    }
