-- What one tick makes of the state of a domain over pure signals.
use Rattle.std.proofs.Common.{◌≡◌, ℕ, zero, suc, ◌<◌, ◌≤◌, ℤ, pos, Bool, true, false, cond, List, [], ◌∷◌, length, get_or, map, Option, Some, None, refl, sym, ap, ◌∙◌, subst, inl, inr, arith}
use Rattle.std.specs.Prelude.{◌==◌, ◌&&◌, replicate, unwrap_or, is_some}
use Rattle.std.specs.Int.{int_wrap}
use Rattle.std.specs.List.{All, filter}
use Rattle.std.proofs.lemmas.List.{get_or_default}
use Rattle.std.proofs.lemmas.List.Elements.{All-filter, filter_passes}
use Rattle.std.proofs.Math.Path.{fun_ext}
use Rattle.std.proofs.lemmas.Bool.{cases_lt, cond-false, true≢false}
use Rattle.java_values.specs.declared.kind.Kind.{Kind}
use Rattle.java_values.specs.declared.kind.Kind.TheVariants as kind
use Rattle.kernel_terms.specs.declared.tables.Tables.{Tables}
use Rattle.kernel_terms.specs.declared.tables.SignalInfo.{SignalInfo}
use Rattle.kernel_terms.specs.declared.tables.Combine.{Combine}
use Rattle.kernel_terms.specs.declared.tables.Combine.TheVariants.{Add, Max, Min, And, Or, Xor}
use Rattle.kernel_terms.specs.TableEntries.{signal_at, no_signal, value_kind, is_input, is_interface_of, interface_of, is_valued_of, valued_of, numbers_where}
use Rattle.kernel_terms.specs.Statements.{Stmt}
use Rattle.kernel_terms.specs.Statements as rules
use Rattle.kernel_rules.specs.definitions.Signals.{Emission, is_emitted, values_of, combined, combined_all, folded, shown}
use Rattle.kernel_terms.specs.Marks.{Going, Ended}
use Rattle.kernel_rules.specs.definitions.Registers.{residual, held_for, values_held, first_value}
use Rattle.kernel_rules.specs.definitions.LegalTick.{DomainState, Inputs, IsCoherent, IsLegalTick, emitted_status, input_status, values_after, is_tick_code, mark_after}
use Rattle.tick_log.specs.definitions.Runs.{statuses_of}
use Rattle.tick_log.specs.definitions.RunText.{interface_signals}
use Rattle.tick_log.specs.definitions.Fits.{IsSignalValue, IsStatus, AreStatuses}
use Rattle.tick_log.proofs.InterfaceSignals.{interface_found, interface_count}
use Rattle.domain_core.specs.equations.BuiltForms.{Plain, whole}
use Rattle.domain_core.specs.equations.Codes.{TellsTick}
use Rattle.domain_core.specs.definitions.step.PureSignals.{HasPureOutputs}

zero_combined : (c : Combine) → combined c kind.Boolean (pos 0) (pos 0) ≡ pos 0
unfolding int_wrap
zero_combined Add = refl
zero_combined Max = refl
zero_combined Min = refl
zero_combined And = refl
zero_combined Or = refl
zero_combined Xor = refl

abbrev AllZero : List ℤ → Type 0
AllZero [] = Unit {0}
AllZero (v ∷ vs) = (v ≡ pos 0) × AllZero vs

zeros_combined : (c : Combine) (vs : List ℤ) → AllZero vs → combined_all c kind.Boolean (pos 0) vs ≡ pos 0
zeros_combined c [] z = refl
zeros_combined c (v ∷ vs) z = ap (λ w. combined_all c kind.Boolean (combined c kind.Boolean (pos 0) w) vs) z.0 ∙ ap (λ w. combined_all c kind.Boolean w vs) (zero_combined c) ∙ zeros_combined c vs z.1

zeros_folded : (info : SignalInfo) (vs : List ℤ) → info.kind ≡ None → AllZero vs → folded info (pos 0) vs ≡ pos 0
zeros_folded info [] pure z = refl
zeros_folded info (v ∷ vs) pure z =
    let kinds : value_kind info ≡ kind.Boolean = ap (λ (k : Option Kind). unwrap_or k kind.Boolean) pure in
    ap (λ k. combined_all info.combine k v vs) kinds ∙ ap (λ w. combined_all info.combine kind.Boolean w vs) z.0 ∙ zeros_combined info.combine vs z.1

-- the emissions have the value 0
zero_values : (s : ℕ) (m : List Emission) → All (λ (e : Emission). e.value ≡ pos 0) m → AllZero (values_of s m)
zero_values s [] all = tt
zero_values s (e ∷ es) all = here (e.signal == s) (zero_values s es (λ k d less. all (suc k) d (omega (arith, less))))
  where
    here : (t : Bool) → AllZero (values_of s es) → AllZero (cond t (e.value ∷ values_of s es) (values_of s es))
    here true rest = (all 0 e (omega arith), rest)
    here false rest = rest

-- past the end of a table there is no signal
past_table : (xs : List SignalInfo) (s : ℕ) → length xs ≤ s → get_or xs s no_signal ≡ no_signal
past_table [] s past = refl
past_table (x ∷ xs) zero past = absurd (omega (arith, past))
past_table (x ∷ xs) (suc s) past = past_table xs s (omega (arith, past))

local_only : (t : Bool) → t && false ≡ false
local_only true = refl
local_only false = refl

pub interface_below : (tables : Tables) (d s : ℕ) → is_interface_of d (signal_at tables s) ≡ true → s < length tables.signals
interface_below tables d s is = elim (cases_lt s (length tables.signals)) [
  | inl less ↦ less
  | inr past ↦
      absurd (true≢false (sym is ∙ ap (is_interface_of d) (past_table tables.signals s past) ∙ local_only (0 == d)))
]

pure_status : (info : SignalInfo) (b : Bool) → info.kind ≡ None → IsStatus info.kind (cond b (Some (pos 0)) None)
pure_status info true pure = subst (λ k. IsSignalValue k (pos 0)) (sym pure) refl
pure_status info false pure = tt

pure_statuses : (infos : List SignalInfo) (bs : List Bool) → length bs ≡ length infos → All (λ (i : SignalInfo). i.kind ≡ None) infos →
    AreStatuses infos (statuses_of bs (replicate (length infos) (pos 0)))
pure_statuses [] [] len pure = tt
pure_statuses [] (b ∷ bs) len pure = absurd (omega (arith, len))
pure_statuses (info ∷ infos) [] len pure = absurd (omega (arith, len))
pure_statuses (info ∷ infos) (b ∷ bs) len pure =
    (pure_status info b (pure 0 info (omega arith)), pure_statuses infos bs (omega (arith, len)) (λ k e less. pure (suc k) e (omega (arith, less))))

-- an entry over pure outputs has a status of each interface signal
pub statuses_fit : (tables : Tables) (d : ℕ) (shows : List Bool) → HasPureOutputs tables d → length shows ≡ length (interface_of tables d) →
    AreStatuses (interface_signals tables d) (statuses_of shows (replicate (length (interface_of tables d)) (pos 0)))
statuses_fit tables d shows pure len =
    let found = filter (is_interface_of d) tables.signals in
    let count = interface_count tables d in
    let is_pure : All (λ (i : SignalInfo). is_interface_of d i ≡ true → i.kind ≡ None) tables.signals =
    λ k e less is. let same = get_or_default tables.signals k no_signal e less in sym (ap (λ (i : SignalInfo). i.kind) same) ∙ (pure k (ap (is_interface_of d) same ∙ is)).pure in
    let all_pure : All (λ (i : SignalInfo). i.kind ≡ None) found =
    λ k e less. All-filter (is_interface_of d) (λ (i : SignalInfo). is_interface_of d i ≡ true → i.kind ≡ None) tables.signals is_pure k e less (filter_passes (is_interface_of d) tables.signals k e less) in
    subst (λ l. AreStatuses l (statuses_of shows (replicate (length (interface_of tables d)) (pos 0)))) (sym (interface_found tables d))
    (subst (λ n. AreStatuses found (statuses_of shows (replicate n (pos 0)))) (sym count) (pure_statuses found shows (len ∙ count) all_pure))

module _ (tables : Tables) (d : ℕ) (p : Plain) (from : Stmt) (present : List Bool) (new : ℕ → ℤ) (ended : Bool)
    (pure : HasPureOutputs tables d) (tells : TellsTick tables (whole p) (length tables.signals) (interface_of tables d) from present new ended) where
  -- whatever is handed in, since no interface signal is an input
  coherent : (handed : ℕ → Option ℤ) (last x : ℕ → ℤ) → IsCoherent tables d handed (λ s. pos 0) tells.env (tells.tick last x).emits
  coherent handed last x s is =
      let less = interface_below tables d s is in
      let info = signal_at tables s in
      let m = (tells.tick last x).emits in
      ap (λ b. record { present = b; value = (tells.env s).value }) (tells.emitted last x s less)
      ∙ ap (λ v. record { present = is_emitted m s; value = v }) (tells.pure s less ∙ sym (zeros_folded info (values_of s m) (pure s is).pure (zero_values s m (tells.zeros last x))))
      ∙ sym (cond-false (is_input info.sort) (input_status (handed s) (pos 0)) (emitted_status info s (pos 0) m) (pure s is).output)

  zero_after : (s : ℕ) → values_after tables d tells.env (λ s. pos 0) s ≡ pos 0
  zero_after s = at_signal (is_interface_of d (signal_at tables s)) refl
    where
      at_signal : (t : Bool) → is_interface_of d (signal_at tables s) ≡ t → cond t (tells.env s).value (pos 0) ≡ pos 0
      at_signal true is = tells.pure s (interface_below tables d s is)
      at_signal false is = refl

  -- the entry of a log shows the signals that are present
  shown_all : (ss : List ℕ) → ((k : ℕ) (e : ℕ) → k < length ss → get_or ss k e < length tables.signals) →
      statuses_of (map (λ s. (tells.env s).present) ss) (replicate (length ss) (pos 0)) ≡ map (λ s. shown (tells.env s)) ss
  shown_all [] below = refl
  shown_all (s ∷ ss) below =
      let less = below 0 s (omega arith) in
      let rest = shown_all ss (λ k e within. below (suc k) e (omega (arith, within))) in
      ap (λ v. cond (tells.env s).present (Some v) None ∷ statuses_of (map (λ s. (tells.env s).present) ss) (replicate (length ss) (pos 0))) (sym (tells.pure s less))
      ∙ ap (λ l. shown (tells.env s) ∷ l) rest

  -- the code, and what is left
  pub code_is : (last x : ℕ → ℤ) → (tells.tick last x).code ≡ cond ended 0 1
  code_is last x = by_end ended refl
    where
      by_end : (t : Bool) → ended ≡ t → (tells.tick last x).code ≡ cond t 0 1
      by_end true is = tells.ends last x is
      by_end false is = tells.pauses last x is

  pub left_is : (last x : ℕ → ℤ) → (tells.tick last x).rest ≡ cond ended rules.Nothing (residual tables (whole p) 0 new)
  left_is last x = by_end ended refl
    where
      by_end : (t : Bool) → ended ≡ t → (tells.tick last x).rest ≡ cond t rules.Nothing (residual tables (whole p) 0 new)
      by_end true is = tells.over last x is
      by_end false is = sym (tells.rest last x is)

  -- the state that the tick leaves
  abbrev pub after_tick : (last x : ℕ → ℤ) (n : ℕ) → DomainState
  after_tick last x n = record {
    statement = cond ended rules.Nothing (residual tables (whole p) 0 new);
    variables = x;
    values = λ s. pos 0;
    last = last;
    ticks = suc n;
    mark = cond ended Ended Going;
  }

  pub tick_is_legal : (inputs : Inputs) (last x : ℕ → ℤ) (n : ℕ) →
      ((k : ℕ) (e : ℕ) → k < length (interface_of tables d) → get_or (interface_of tables d) k e < length tables.signals) →
      IsLegalTick tables inputs d (record { statement = from; variables = x; values = λ s. pos 0; last = last; ticks = n; mark = Going })
      (statuses_of present (replicate (length (interface_of tables d)) (pos 0))) (after_tick last x n)
  tick_is_legal inputs last x n below =
      let o = tells.tick last x in
      let code = code_is last x in
      record {
        goes_on = refl;
        env = tells.env;
        tick = o;
        ticks = tells.ticks last x;
        coherent = coherent (λ s. inputs s (suc n)) last x;
        code = subst (λ k. is_tick_code k ≡ true) (sym code) (low ended);
        shows = ap (λ l. statuses_of l (replicate (length (interface_of tables d)) (pos 0))) tells.shows ∙ shown_all (interface_of tables d) below;
        next =
            ap (λ t. record { statement = t; variables = x; values = λ s. pos 0; last = last; ticks = suc n; mark = cond ended Ended Going }) (sym (left_is last x))
            ∙ ap (λ v. record { statement = o.rest; variables = v; values = λ s. pos 0; last = last; ticks = suc n; mark = cond ended Ended Going }) (sym (tells.variables last x))
            ∙ ap (λ v. record { statement = o.rest; variables = o.variables; values = v; last = last; ticks = suc n; mark = cond ended Ended Going }) (sym (fun_ext zero_after))
            ∙ ap (λ m. record { statement = o.rest; variables = o.variables; values = values_after tables d tells.env (λ s. pos 0); last = last; ticks = suc n; mark = m })
            (mark_is ended ∙ ap mark_after (sym code));
      }
    where
      low : (t : Bool) → is_tick_code (cond t 0 1) ≡ true
      low true = refl
      low false = refl

      mark_is : (t : Bool) → cond t Ended Going ≡ mark_after (cond t 0 1)
      mark_is true = refl
      mark_is false = refl

-- no interface signal has a value
pub none_valued : (tables : Tables) (d : ℕ) → HasPureOutputs tables d → valued_of tables d ≡ []
none_valued tables d pure = none_from 0 tables.signals (λ i e less is. let same = get_or_default tables.signals i no_signal e less in sym (ap (λ (x : SignalInfo). x.kind) same) ∙ (pure i (ap (is_interface_of d) same ∙ is)).pure)
  where
    none_from : (n : ℕ) (xs : List SignalInfo) → All (λ (x : SignalInfo). is_interface_of d x ≡ true → x.kind ≡ None) xs → numbers_where (is_valued_of d) n xs ≡ []
    none_from n [] all = refl
    none_from n (x ∷ xs) all =
        cond-false (is_valued_of d x) (n ∷ numbers_where (is_valued_of d) (suc n) xs) (numbers_where (is_valued_of d) (suc n) xs) (unvalued (is_interface_of d x) refl)
        ∙ none_from (suc n) xs (λ i e less. all (suc i) e (omega (arith, less)))
      where
        unvalued : (t : Bool) → is_interface_of d x ≡ t → t && is_some x.kind ≡ false
        unvalued true is = ap is_some (all 0 x (omega arith) is)
        unvalued false is = refl

pub values_none : (tables : Tables) (d : ℕ) (p : Stmt) (r : ℕ → ℤ) → HasPureOutputs tables d → values_held tables d p r ≡ (λ s. pos 0)
values_none tables d p r pure = ap (λ is. held_for is (first_value tables d p) r) (none_valued tables d pure)
