-- What the answers say.
use Rattle.std.proofs.Common.{ℕ, List, refl, ap}
use Rattle.std.specs.Prelude.{Option, Some, None, IfSome, codes}
use Rattle.kernel_terms.specs.Systems.{tables_of}
use Rattle.sj_io.specs.definitions.Causes.{Rose}
use Rattle.sj_io.specs.definitions.Files.{CountsStay}
use Rattle.sj_io.specs.definitions.Sinks.{TakesMore, TakesPrefix}
use Rattle.tick_log.specs.definitions.RunText.{run_text}
use Rattle.tick_log.specs.definitions.Holding.{run_state}
use Rattle.sj_main.specs.declared.commands.Turns.{Turns}
use Rattle.sj_main.specs.declared.order.Made.{Made}
use Rattle.sj_main.specs.declared.order.OrderError.TheVariants as error
use Rattle.sj_accept.specs.declared.refusal.Refusal.{Refusal}
use Rattle.sj_main.specs.definitions.Answers.{BeginsAnswer, CountsShow, FailsToRead, PrintsWeight, PrintsRefusal}
use Rattle.sj_main.specs.OrderSteps.{IsMadeFrom, IsWhyNotMade, BeginsOrder, TellsWeight}
use Rattle.sj_main.specs.definitions.Commands.{IsOrder, IsNoCommand, IsCommand}
use Rattle.sj_main.specs.definitions.Verdicts.{usage_line, misfit_line, overweight_line, size_line, refusal_line, IsTextOfRun, IsRefusal, ForSize, ForReason, CommandOutcome, Done, Refused, NoCommand, Misfit, ReadFault, NoMemory, Overweight, IsOrderAnswer, ToNoCommand, ToOrder}

-- to the order of a file

begins : (told : Option (List ℕ)) (turns : Turns) (outcome : CommandOutcome) (text : List ℕ) (file : List ℕ) (f g : List ℕ → ℕ) (a b : Option (List ℕ)) → IsOrderAnswer told turns outcome text → TakesPrefix a b text → CountsShow (Rose (f file) (g file)) f g outcome → BeginsOrder told turns file f g a b
begins told turns outcome text file f g a b is takes c = record { outcome = outcome; text = text; is = is; counts = c; takes = takes }

run_text_of : (told : Option (List ℕ)) (turns : Turns) (made : Made) → IfSome told (λ bytes. IsMadeFrom bytes turns made) → IfSome told (λ bytes. IsTextOfRun bytes turns (run_text (tables_of made.system) (run_state made.run)))
run_text_of None turns made h = tt
run_text_of (Some bytes) turns made h = record {
  program = h.program;
  source = h.source;
  can = h.can;
  run = run_state made.run;
  last = h.last;
  scheduled = h.scheduled;
  whole = h.whole;
  is = ap (λ t. run_text t (run_state made.run)) h.tables;
}

pub run_begins : (told : Option (List ℕ)) (turns : Turns) (made : Made) (file : List ℕ) (f g : List ℕ → ℕ) (a b : Option (List ℕ)) → IfSome told (λ bytes. IsMadeFrom bytes turns made) → TakesPrefix a b (run_text (tables_of made.system) (run_state made.run)) → CountsStay f g → BeginsOrder told turns file f g a b
run_begins told turns made file f g a b h t c = begins told turns Done (run_text (tables_of made.system) (run_state made.run)) file f g a b (run_text_of told turns made h) t c

pub read_fault_begins : (told : Option (List ℕ)) (turns : Turns) (file : List ℕ) (f g : List ℕ → ℕ) (a b : Option (List ℕ)) → TakesPrefix a b (codes "read fault\n") → Rose (f file) (g file) → BeginsOrder told turns file f g a b
read_fault_begins told turns file f g a b t c = begins told turns ReadFault (codes "read fault\n") file f g a b refl t c

pub no_memory_begins : (told : Option (List ℕ)) (turns : Turns) (file : List ℕ) (f g : List ℕ → ℕ) (a b : Option (List ℕ)) → TakesPrefix a b (codes "no memory\n") → CountsStay f g → BeginsOrder told turns file f g a b
no_memory_begins told turns file f g a b t c = begins told turns NoMemory (codes "no memory\n") file f g a b refl t c

size_refused : (told : Option (List ℕ)) (turns : Turns) → IfSome told (λ bytes. IsWhyNotMade bytes turns error.Size) → IfSome told (λ bytes. IsRefusal bytes size_line)
size_refused None turns h = tt
size_refused (Some bytes) turns h = ForSize h refl

pub size_begins : (told : Option (List ℕ)) (turns : Turns) (file : List ℕ) (f g : List ℕ → ℕ) (a b : Option (List ℕ)) → IfSome told (λ bytes. IsWhyNotMade bytes turns error.Size) → TakesPrefix a b size_line → CountsStay f g → BeginsOrder told turns file f g a b
size_begins told turns file f g a b h t c = begins told turns Refused size_line file f g a b (size_refused told turns h) t c

reason_refused : (told : Option (List ℕ)) (turns : Turns) (reason : Refusal) → IfSome told (λ bytes. IsWhyNotMade bytes turns (error.Refused reason)) → IfSome told (λ bytes. IsRefusal bytes (refusal_line reason))
reason_refused None turns reason h = tt
reason_refused (Some bytes) turns reason h = ForReason reason h.0 h.1 refl

pub reason_begins : (told : Option (List ℕ)) (turns : Turns) (reason : Refusal) (file : List ℕ) (f g : List ℕ → ℕ) (a b : Option (List ℕ)) → IfSome told (λ bytes. IsWhyNotMade bytes turns (error.Refused reason)) → TakesPrefix a b (refusal_line reason) → CountsStay f g → BeginsOrder told turns file f g a b
reason_begins told turns reason file f g a b h t c = begins told turns Refused (refusal_line reason) file f g a b (reason_refused told turns reason h) t c

pub reason_prints : (told : Option (List ℕ)) (turns : Turns) (reason : Refusal) (a b : Option (List ℕ)) → IfSome told (λ bytes. IsWhyNotMade bytes turns (error.Refused reason)) → TakesMore a b (refusal_line reason) → IfSome told (λ bytes. PrintsRefusal bytes a b)
reason_prints None turns reason a b h t = tt
reason_prints (Some bytes) turns reason a b h t = record { text = refusal_line reason; is = ForReason reason h.0 h.1 refl; takes = t }

pub misfit_begins : (told : Option (List ℕ)) (turns : Turns) (file : List ℕ) (f g : List ℕ → ℕ) (a b : Option (List ℕ)) → IfSome told (λ bytes. IsWhyNotMade bytes turns error.DomainsDoNotFit) → TakesPrefix a b misfit_line → CountsStay f g → BeginsOrder told turns file f g a b
misfit_begins told turns file f g a b h t c = begins told turns Misfit misfit_line file f g a b (h, refl) t c

pub weight_begins : (told : Option (List ℕ)) (turns : Turns) (weight : ℕ) (file : List ℕ) (f g : List ℕ → ℕ) (a b : Option (List ℕ)) → IfSome told (λ bytes. IsWhyNotMade bytes turns (error.OverWeight weight)) → TakesPrefix a b (overweight_line weight) → CountsStay f g → BeginsOrder told turns file f g a b
weight_begins told turns weight file f g a b h t c = begins told turns (Overweight weight) (overweight_line weight) file f g a b (h, refl) t c

-- to the words

counts_of : (P Q : Type 0) (f g : List ℕ → ℕ) (outcome : CommandOutcome) → (P → Q) → CountsShow P f g outcome → CountsShow Q f g outcome
counts_of P Q f g Done h c = c
counts_of P Q f g Refused h c = c
counts_of P Q f g NoCommand h c = c
counts_of P Q f g Misfit h c = c
counts_of P Q f g ReadFault h c = h c
counts_of P Q f g NoMemory h c = c
counts_of P Q f g (Overweight weight) h c = c

pub order_begins : (words : List (List ℕ)) (told : List ℕ → Option (List ℕ)) (file : List ℕ) (turns : Turns) (f g : List ℕ → ℕ) (a b : Option (List ℕ)) → IsOrder words file turns → BeginsOrder (told file) turns file f g a b → BeginsAnswer words told f g a b
order_begins words told file turns f g a b o h = record {
  outcome = h.outcome;
  text = h.text;
  is = ToOrder file turns o h.is;
  counts = counts_of (Rose (f file) (g file)) (FailsToRead words f g) f g h.outcome (λ r. record { file = file; turns = turns; command = o; rose = r }) h.counts;
  takes = h.takes;
}

pub order_weighs : (words : List (List ℕ)) (told : List ℕ → Option (List ℕ)) (file : List ℕ) (turns : Turns) (a b : Option (List ℕ)) → IsOrder words file turns → TellsWeight (told file) turns a b → PrintsWeight words told a b
order_weighs words told file turns a b o h = record { weight = h.weight; orders = record { file = file; turns = turns; command = o; holds = h.is }; takes = h.takes }

pub usage_begins : (words : List (List ℕ)) (told : List ℕ → Option (List ℕ)) (f g : List ℕ → ℕ) (a b : Option (List ℕ)) → IsNoCommand words → TakesPrefix a b usage_line → CountsStay f g → BeginsAnswer words told f g a b
usage_begins words told f g a b n t c = record { outcome = NoCommand; text = usage_line; is = ToNoCommand n refl refl; counts = c; takes = t }

pub want_begins : (words : List (List ℕ)) (told : List ℕ → Option (List ℕ)) (f g : List ℕ → ℕ) (a b : Option (List ℕ)) → IsCommand words → TakesPrefix a b (codes "no memory\n") → CountsStay f g → BeginsAnswer words told f g a b
want_begins words told f g a b c t s = record { outcome = NoMemory; text = codes "no memory\n"; is = ToOrder c.file c.turns c.command refl; counts = s; takes = t }
