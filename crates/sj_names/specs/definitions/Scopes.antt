-- Which names are visible, and what they stand for.
use Rattle.std.specs.Prelude.{ℕ, ◌+◌, cond, List, [], ◌∷◌, ◌++◌, take, Option, Some, None}
use Rattle.std.specs.Str.{bytes_eq}
use Rattle.sj_names.specs.declared.mention.NameSort.{NameSort}
use Rattle.sj_names.specs.declared.mention.NameSort.TheVariants as sort
use Rattle.sj_names.specs.declared.mention.Meaning.{Meaning}
use Rattle.sj_names.specs.declared.mention.Counts.{Counts}

pub record Named : Type 0 where
  pub name : List ℕ
  pub meaning : Meaning

-- the visible names in order of declaration, and how many names of each sort were declared so far
pub record Scope : Type 0 where
  pub visible : List Named
  pub counts : Counts

abbrev pub no_names : Scope
no_names =
    record { visible = []; counts = record { signals = 0; channels = 0; variables = 0; traps = 0 } }

-- what a name stands for
abbrev pub meaning_in : List Named → List ℕ → Option Meaning
meaning_in [] name = None
meaning_in (v ∷ vs) name = cond (bytes_eq name v.name) (Some v.meaning) (meaning_in vs name)

-- the number of the next name of this sort
abbrev pub count_of : NameSort → Counts → ℕ
count_of sort.Input n = n.signals
count_of sort.Output n = n.signals
count_of sort.Local n = n.signals
count_of sort.Channel n = n.channels
count_of sort.Variable n = n.variables
count_of sort.Trap n = n.traps

abbrev pub one_signal_more : Counts → Counts
one_signal_more n =
    record {
      signals = n.signals + 1;
      channels = n.channels;
      variables = n.variables;
      traps = n.traps;
    }

abbrev pub counted : NameSort → Counts → Counts
counted sort.Input n = one_signal_more n
counted sort.Output n = one_signal_more n
counted sort.Local n = one_signal_more n
counted sort.Channel n =
    record {
      signals = n.signals;
      channels = n.channels + 1;
      variables = n.variables;
      traps = n.traps;
    }
counted sort.Variable n =
    record {
      signals = n.signals;
      channels = n.channels;
      variables = n.variables + 1;
      traps = n.traps;
    }
counted sort.Trap n =
    record {
      signals = n.signals;
      channels = n.channels;
      variables = n.variables;
      traps = n.traps + 1;
    }

-- a name that is visible isn't declared again
abbrev pub declared_where : Option Meaning → NameSort → List ℕ → Scope → Scope
declared_where (Some m) s name scope = scope
declared_where None s name scope = record {
  visible =
      scope.visible ++
      record { name = name; meaning = record { sort = s; number = count_of s scope.counts } } ∷ [];
  counts = counted s scope.counts;
}

abbrev pub declare : NameSort → List ℕ → Scope → Scope
declare s name scope = declared_where (meaning_in scope.visible name) s name scope

-- the first names alone are visible
abbrev pub closed_at : ℕ → Scope → Scope
closed_at first scope = record { visible = take first scope.visible; counts = scope.counts }
