-- The texts of loops: signals, ticks, domains, joins and channels.
use Rattle.std.proofs.Common.{All, ◌≡◌, ℕ, zero, suc, ℤ, get_or, ◌+◌, ◌-◌, ◌≤◌, ◌<◌, List, [], ◌∷◌, ◌++◌, length, map, drop, refl, sym, ap, ◌∙◌, subst, arith, Option, None}
use Rattle.std.proofs.Math.Seq.{drop-cons}
use Rattle.std.proofs.lemmas.List.{drop_all, get_or_read, length-map}
use Rattle.std.proofs.lemmas.List.Elements.{All-get_or}
use Rattle.std.proofs.lemmas.Grind.{flat_map-append}
use Rattle.java_values.specs.declared.kind.Kind.{Kind}
use Rattle.kernel_terms.specs.declared.system.System.{System}
use Rattle.kernel_terms.specs.declared.tables.SignalInfo.{SignalInfo}
use Rattle.kernel_terms.specs.declared.tables.ChannelInfo.{ChannelInfo}
use Rattle.kernel_terms.specs.declared.tables.Tables.{Tables}
use Rattle.kernel_terms.specs.Systems.{tables_of}
use Rattle.kernel_terms.specs.Limits.{most_signals}
use Rattle.kernel_terms.specs.TableEntries.{no_signal, no_channel, interface_of, signal_at, channel_at}
use Rattle.tick_log.specs.declared.history.JoinRow.{JoinRow}
use Rattle.tick_log.specs.Prints.{Standing, Adds}
use Rattle.tick_log.specs.definitions.Runs.{Entry, entry_at, row_at}
use Rattle.tick_log.specs.declared.run.Run.{Run}
use Rattle.tick_log.specs.definitions.Containers.{LogState, HistoryState, logged, joined, no_log}
use Rattle.tick_log.specs.definitions.Holding.{HoldsRun}
use Rattle.tick_log.specs.definitions.RunText.{signal_text, signal_texts, interface_signals, tick_line, tick_lines, domain_line, domain_lines, join_line, join_lines, channel_line, channel_lines, text_of_lines}
use Rattle.kernel_terms.proofs.SystemLimits.{few_signals}
use Rattle.tick_log.proofs.PrinterTexts.{Completes, completes_first, completes_on, completes_last}

no_statuses : (infos : List SignalInfo) → signal_texts infos [] ≡ []
no_statuses [] = refl
no_statuses (n ∷ ns) = refl

texts_drop : (x : SignalInfo) (rest : List SignalInfo) (statuses : List (Option ℤ)) (own : ℕ) → signal_texts (x ∷ rest) (drop own statuses) ≡ signal_text x (get_or statuses own None) ++ signal_texts rest (drop (own + 1) statuses)
texts_drop x rest [] own =
    let none : (k : ℕ) → drop k [] ≡ [] = λ k. drop_all k [] (omega arith) in
    ap (λ l. signal_texts (x ∷ rest) l) (none own) ∙ sym (ap (λ l. signal_texts rest l) (none (own + 1)) ∙ no_statuses rest)
texts_drop x rest (s ∷ ss) zero = refl
texts_drop x rest (s ∷ ss) (suc own) = let z : suc own + 1 ≡ suc (own + 1) = omega arith in rw z (texts_drop x rest ss own)

-- the text of the i-th signal of a domain, and those after it
pub signals_more : (p q r : Standing) (t : Tables) (own : List ℕ) (statuses : List (Option ℤ)) (i d : ℕ) (info : SignalInfo) (status : Option ℤ) (all : List ℕ) → i < length own → All (λ n. n < length t.signals) own → info ≡ get_or t.signals (get_or own i d) info → status ≡ get_or statuses i None
    → Completes p q (signal_texts (map (signal_at t) (drop i own)) (drop i statuses)) all → Adds q r (signal_text info status) → Completes p r (signal_texts (map (signal_at t) (drop (i + 1) own)) (drop (i + 1) statuses)) all
signals_more p q r t own statuses i d info status all lt known at e s u =
    let number = get_or own i d in
    let rest = map (signal_at t) (drop (i + 1) own) in
    let one : suc i ≡ i + 1 = omega arith in
    let same : signal_at t number ≡ info = sym (get_or_read t.signals number info (All-get_or (λ n. n < length t.signals) own i d lt known) at no_signal) in
    let here : map (signal_at t) (drop i own) ≡ info ∷ rest = ap (map (signal_at t)) (drop-cons own i d lt ∙ ap (λ l. number ∷ drop l own) one) ∙ ap (λ x. x ∷ rest) same in
    let split = ap (λ l. signal_texts l (drop i statuses)) here ∙ texts_drop info rest statuses i ∙ ap (λ o. signal_text info o ++ signal_texts rest (drop (i + 1) statuses)) (sym e) in
    completes_on p q r (signal_text info status) (signal_texts rest (drop (i + 1) statuses)) all (subst (λ l. Completes p q l all) split s) u

pub signals_last : (p q : Standing) (t : Tables) (own : List ℕ) (statuses : List (Option ℤ)) (i : ℕ) (all : List ℕ) → length own ≤ i → Completes p q (signal_texts (map (signal_at t) (drop i own)) (drop i statuses)) all → Adds p q all
signals_last p q t own statuses i all le s =
    completes_last p q all (subst (λ l. Completes p q (signal_texts (map (signal_at t) l) (drop i statuses)) all) (drop_all i own le) s)

-- the line of the i-th tick, and the lines after it
ticks_drop : (infos : List SignalInfo) (entries : List Entry) (i tick : ℕ) → i < length entries
    → text_of_lines (tick_lines infos tick (drop i entries)) ≡ (tick_line infos tick (entry_at entries i) ++ 10 ∷ []) ++ text_of_lines (tick_lines infos (tick + 1) (drop (i + 1) entries))
ticks_drop infos [] i tick lt = absurd (omega arith)
ticks_drop infos (e ∷ es) zero tick lt = refl
ticks_drop infos (e ∷ es) (suc i) tick lt = let z : suc i + 1 ≡ suc (i + 1) = omega arith in rw z (ticks_drop infos es i tick (omega arith))

pub ticks_more : (p q r : Standing) (infos : List SignalInfo) (entries : List Entry) (i : ℕ) (all : List ℕ) → i < length entries
    → Completes p q (text_of_lines (tick_lines infos (i + 1) (drop i entries))) all → Adds q r (tick_line infos (i + 1) (entry_at entries (i + 1 - 1)) ++ 10 ∷ []) → Completes p r (text_of_lines (tick_lines infos (i + 1 + 1) (drop (i + 1) entries))) all
ticks_more p q r infos entries i all lt t u =
    let same : i + 1 - 1 ≡ i = omega arith in
    completes_on p q r (tick_line infos (i + 1) (entry_at entries i) ++ 10 ∷ []) _ all (subst (λ l. Completes p q l all) (ticks_drop infos entries i (i + 1) lt) t) (subst (λ n. Adds q r (tick_line infos (i + 1) (entry_at entries n) ++ 10 ∷ [])) same u)

-- the lines of the i-th domain, and the lines after them
domains_drop : (t : Tables) (logs : List LogState) (i domain : ℕ) (d : LogState) → i < length logs
    → text_of_lines (domain_lines t domain (map logged (drop i logs))) ≡ text_of_lines (domain_line domain (logged (get_or logs i d)) ∷ tick_lines (interface_signals t domain) 1 (get_or logs i d).entries) ++ text_of_lines (domain_lines t (domain + 1) (map logged (drop (i + 1) logs)))
domains_drop t [] i domain d lt = absurd (omega arith)
domains_drop t (l ∷ ls) zero domain d lt = flat_map-append (λ line. line ++ 10 ∷ []) (domain_line domain (logged l) ∷ tick_lines (interface_signals t domain) 1 l.entries) (domain_lines t (domain + 1) (map logged ls))
domains_drop t (l ∷ ls) (suc i) domain d lt = let z : suc i + 1 ≡ suc (i + 1) = omega arith in rw z (domains_drop t ls i domain d (omega arith))

pub domains_more : (p q r : Standing) (t : Tables) (logs : List LogState) (i : ℕ) (log : LogState) (all : List ℕ) → i < length logs → log ≡ get_or logs i log
    → Completes p q (text_of_lines (domain_lines t i (map logged (drop i logs)))) all → Adds q r (text_of_lines (domain_line i (logged log) ∷ tick_lines (interface_signals t i) 1 log.entries)) → Completes p r (text_of_lines (domain_lines t (i + 1) (map logged (drop (i + 1) logs)))) all
domains_more p q r t logs i log all lt is s u =
    let rest = text_of_lines (domain_lines t (i + 1) (map logged (drop (i + 1) logs))) in
    let e = domains_drop t logs i i log lt ∙ ap (λ l. text_of_lines (domain_line i (logged l) ∷ tick_lines (interface_signals t i) 1 l.entries) ++ rest) (sym is) in
    completes_on p q r (text_of_lines (domain_line i (logged log) ∷ tick_lines (interface_signals t i) 1 log.entries)) rest all (subst (λ l. Completes p q l all) e s) u

-- the line of the i-th join, and the lines after it
joins_drop : (kind : Kind) (rows : List JoinRow) (i join : ℕ) → i < length rows → text_of_lines (join_lines kind join (drop i rows)) ≡ (join_line kind join (row_at rows i) ++ 10 ∷ []) ++ text_of_lines (join_lines kind (join + 1) (drop (i + 1) rows))
joins_drop kind [] i join lt = absurd (omega arith)
joins_drop kind (r ∷ rs) zero join lt = refl
joins_drop kind (r ∷ rs) (suc i) join lt = let z : suc i + 1 ≡ suc (i + 1) = omega arith in rw z (joins_drop kind rs i join (omega arith))

pub joins_more : (p q r : Standing) (kind : Kind) (rows : List JoinRow) (i : ℕ) (row : JoinRow) (all : List ℕ) → i < length rows → row ≡ row_at rows (i + 1 - 1)
    → Completes p q (text_of_lines (join_lines kind (i + 1) (drop i rows))) all → Adds q r (join_line kind (i + 1) row ++ 10 ∷ []) → Completes p r (text_of_lines (join_lines kind (i + 1 + 1) (drop (i + 1) rows))) all
joins_more p q r kind rows i row all lt is t u =
    let same : i + 1 - 1 ≡ i = omega arith in
    let at : row ≡ row_at rows i = is ∙ ap (λ n. row_at rows n) same in
    completes_on p q r (join_line kind (i + 1) (row_at rows i) ++ 10 ∷ []) _ all (subst (λ l. Completes p q l all) (joins_drop kind rows i (i + 1) lt) t) (subst (λ x. Adds q r (join_line kind (i + 1) x ++ 10 ∷ [])) at u)

-- the lines of the i-th channel, and the lines after them
channels_drop : (t : Tables) (histories : List HistoryState) (i channel : ℕ) (d : HistoryState) → i < length histories
    → text_of_lines (channel_lines t channel (map joined (drop i histories))) ≡ text_of_lines (channel_line (channel_at t channel).name (get_or histories i d).rows ∷ join_lines (channel_at t channel).kind 1 (get_or histories i d).rows) ++ text_of_lines (channel_lines t (channel + 1) (map joined (drop (i + 1) histories)))
channels_drop t [] i channel d lt = absurd (omega arith)
channels_drop t (x ∷ xs) zero channel d lt = flat_map-append (λ line. line ++ 10 ∷ []) (channel_line (channel_at t channel).name x.rows ∷ join_lines (channel_at t channel).kind 1 x.rows) (channel_lines t (channel + 1) (map joined xs))
channels_drop t (x ∷ xs) (suc i) channel d lt = let z : suc i + 1 ≡ suc (i + 1) = omega arith in rw z (channels_drop t xs i channel d (omega arith))

pub channels_more : (p q r : Standing) (t : Tables) (histories : List HistoryState) (i : ℕ) (history : HistoryState) (info : ChannelInfo) (all : List ℕ) → i < length histories → history ≡ get_or histories i history → i < length t.channels → info ≡ get_or t.channels i info
    → Completes p q (text_of_lines (channel_lines t i (map joined (drop i histories)))) all → Adds q r (text_of_lines (channel_line info.name history.rows ∷ join_lines info.kind 1 history.rows)) → Completes p r (text_of_lines (channel_lines t (i + 1) (map joined (drop (i + 1) histories)))) all
channels_more p q r t histories i history info all lt is less at s u =
    let rest = text_of_lines (channel_lines t (i + 1) (map joined (drop (i + 1) histories))) in
    let same : channel_at t i ≡ info = sym (get_or_read t.channels i info less at no_channel) in
    let e = channels_drop t histories i i history lt ∙ ap (λ l. text_of_lines (channel_line (channel_at t i).name l.rows ∷ join_lines (channel_at t i).kind 1 l.rows) ++ rest) (sym is) ∙ ap (λ x. text_of_lines (channel_line x.name history.rows ∷ join_lines x.kind 1 history.rows) ++ rest) same in
    completes_on p q r (text_of_lines (channel_line info.name history.rows ∷ join_lines info.kind 1 history.rows)) rest all (subst (λ l. Completes p q l all) e s) u

-- the i-th log is over the signals of its domain
pub log_signals : (system : System) (run : Run) (i : ℕ) (log : LogState) → HoldsRun system run → i < length run.domains.items → log ≡ get_or run.domains.items i log → log.signals ≡ length (interface_of (tables_of system) i)
log_signals system run i log holds lt at = ap (λ l. l.signals) (get_or_read run.domains.items i log lt at no_log) ∙ holds.signals i lt

pub domain_few : (system : System) (run : Run) (i : ℕ) → HoldsRun system run → i < length run.domains.items → length (interface_of (tables_of system) i) ≤ most_signals
domain_few system run i holds lt = few_signals system i (omega (arith, lt, length-map run.domains.items logged, holds.fits.domains))

-- the i-th history is one of a channel
pub channel_within : (system : System) (run : Run) (i : ℕ) → HoldsRun system run → i < length run.channels.items → i < length (tables_of system).channels
channel_within system run i holds lt = omega (arith, lt, length-map run.channels.items joined, holds.fits.channels)

pub ruleset signal_steps = (completes_first, signals_more, signals_last)

pub ruleset tick_steps = (completes_first, completes_last, ticks_more)

pub ruleset domain_steps = (completes_first, completes_last, domains_more, log_signals, domain_few)

pub ruleset join_steps = (completes_first, completes_last, joins_more)

pub ruleset channel_steps = (completes_first, completes_last, channels_more, channel_within)
