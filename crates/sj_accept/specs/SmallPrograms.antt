-- The programs of small sources, with the places of their statements, and sources that are too deep.
use Rattle.std.specs.Prelude.{ℕ, pos, List, [], ◌∷◌, ◌++◌, None, codes, replicate}
use Rattle.java_values.specs.declared.kind.Kind.TheVariants.{Int}
use Rattle.kernel_terms.specs.declared.term.Term.{Term}
use Rattle.kernel_terms.specs.declared.term.Form as form
use Rattle.kernel_terms.specs.declared.tables.SignalInfo.{SignalInfo}
use Rattle.kernel_terms.specs.declared.tables.Tables.{Tables}
use Rattle.kernel_terms.specs.declared.tables.Sort.TheVariants.{Output}
use Rattle.kernel_terms.specs.declared.tables.Combine.TheVariants.{Max}
use Rattle.sj_accept.specs.definitions.Lowering.{term_at, block_of, int_expression}
use Rattle.sj_accept.specs.definitions.Programs.{LoweredProgram}

abbrev pub output : List ℕ → ℕ → SignalInfo
output name domain =
    record { name = name; domain = domain; sort = Output; kind = None; combine = Max }

abbrev pub outputs : List SignalInfo → Tables
outputs signals = record { signals = signals; channels = []; variables = [] }

-- `system{interface{}{}}`
abbrev pub empty : LoweredProgram
empty = record { tables = outputs []; terms = block_of 18 [] ∷ [] }

-- `system{interface{output signal A;}{emit A;pause;emit A;}}`
abbrev pub blink : LoweredProgram
blink = record {
  tables = outputs (output (codes "A") 0 ∷ []);
  terms =
      block_of 34 (term_at 35 (form.Emit 0 None) ∷ term_at 42 form.Pause ∷
      term_at 48 (form.Emit 0 None) ∷ []) ∷ [];
}

-- `system{interface{output signal A;output signal B;}{while(true){emit A;pause;emit B;}}}`

abbrev pub body : Term
body =
    block_of 62 (term_at 63 (form.Emit 0 None) ∷ term_at 70 form.Pause ∷
    term_at 76 (form.Emit 1 None) ∷ [])

abbrev pub looping : LoweredProgram
looping =
    record {
      tables = outputs (output (codes "A") 0 ∷ output (codes "B") 0 ∷ []);
      terms = block_of 50 (term_at 51 (form.Loop body) ∷ []) ∷ [];
    }

-- `system{interface{output signal D;output signal B;int channel C;}{send C(5); emit D;}><{receive C; emit B;}}`

abbrev pub second : Term
second = block_of 86 (term_at 87 (form.Receive 0) ∷ term_at 98 (form.Emit 1 None) ∷ [])

abbrev pub rendezvous : LoweredProgram
rendezvous = record {
  tables = record {
    signals = output (codes "D") 0 ∷ output (codes "B") 1 ∷ [];
    channels = record { name = codes "C"; kind = Int; sender = 0; receiver = 1 } ∷ [];
    variables = [];
  };
  terms =
      block_of 64 (term_at 65 (form.Send 0 (int_expression (pos 5))) ∷
      term_at 76 (form.Emit 0 None) ∷ []) ∷
      second ∷ [];
}

-- 64 braces in a `system`, of which the last one is one level too many; 123 is a `{`
abbrev pub many_levels : List ℕ
many_levels = codes "system{interface{}" ++ replicate 64 123

-- 257 signs in an expression, of which the last one is one operator too many; 45 is a `-`
abbrev pub many_operators : List ℕ
many_operators = codes "system{interface{}{emit A(" ++ replicate 257 45
