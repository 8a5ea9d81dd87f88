-- What is declared, one part after another.
use Rattle.std.proofs.Common.{◌≡◌, ℕ, suc, ◌+◌, ◌<◌, List, [], ◌∷◌, ◌++◌, length, drop, ap, sym, ◌∙◌, arith, append_assoc, length-append}
use Rattle.std.specs.Prelude.{slice_index_or}
use Rattle.java_values.specs.declared.kind.Kind.{Kind}
use Rattle.kernel_terms.specs.declared.tables.SignalInfo.{SignalInfo}
use Rattle.kernel_terms.specs.declared.tables.ChannelInfo.{ChannelInfo}
use Rattle.sj_ast.specs.declared.name.Name.{Name}
use Rattle.sj_ast.specs.declared.expression.Raw.{Raw}
use Rattle.sj_ast.specs.declared.port.Port.{Port}
use Rattle.sj_ast.specs.declared.port.Port.TheVariants as port
use Rattle.sj_ast.specs.declared.statement.Block.{Block}
use Rattle.sj_names.specs.declared.mention.Mention.{Mention}
use Rattle.sj_names.specs.definitions.DeclaredTables.{Declared, both, declared_block, declared_domains, port_signals, port_channels}
use Rattle.sj_names.proofs.LeastLemmas.{rest_of}

both_both : (a b c : Declared) → both (both a b) c ≡ both a (both b c)
both_both a b c =
    ap (λ l. let d : Declared = record { signals = l; variables = (a.variables ++ b.variables) ++ c.variables } in d) (append_assoc a.signals b.signals c.signals)
    ∙ ap (λ l. let d : Declared = record { signals = a.signals ++ (b.signals ++ c.signals); variables = l } in d) (append_assoc a.variables b.variables c.variables)

pub domains_next : (all : List (Block Name (Raw Name))) (i n : ℕ) (x : Block Name (Raw Name)) (whole a b : Declared) → i < length all → x ≡ slice_index_or all i x → n ≡ i → whole ≡ both a (declared_domains i (drop i all)) → b ≡ both a (declared_block n x)
    → whole ≡ both b (declared_domains (i + 1) (drop (i + 1) all))
domains_next all i n x whole a b lt is e h s =
    h ∙ ap (λ l. both a (declared_domains i l)) (rest_of all i x lt is) ∙ sym (both_both a (declared_block i x) (declared_domains (suc i) (drop (i + 1) all)))
    ∙ ap (λ k. both (both a (declared_block k x)) (declared_domains (suc i) (drop (i + 1) all))) (sym e) ∙ ap (λ d. both d (declared_domains (suc i) (drop (i + 1) all))) (sym s)
    ∙ ap (λ k. both b (declared_domains k (drop (i + 1) all))) one
  where
    one : suc i ≡ i + 1
    one = omega arith

-- the entries of the ports before the rest, and those of the rest

signals_split : (domains : List (List Mention)) (n : ℕ) (p : Port Name) (ps : List (Port Name)) → port_signals domains n (p ∷ ps) ≡ port_signals domains n (p ∷ []) ++ port_signals domains (n + length (port_signals domains n (p ∷ []))) ps
signals_split domains n (port.Signal p) ps = ap (λ k. port_signals domains n (port.Signal p ∷ []) ++ port_signals domains k ps) one
  where
    one : suc n ≡ n + 1
    one = omega arith
signals_split domains n (port.Channel c) ps = ap (λ k. port_signals domains k ps) none
  where
    none : n ≡ n + 0
    none = omega arith

channels_split : (domains : List (List Mention)) (n : ℕ) (p : Port Name) (ps : List (Port Name)) → port_channels domains n (p ∷ ps) ≡ port_channels domains n (p ∷ []) ++ port_channels domains (n + length (port_channels domains n (p ∷ []))) ps
channels_split domains n (port.Channel c) ps = ap (λ k. port_channels domains n (port.Channel c ∷ []) ++ port_channels domains k ps) one
  where
    one : suc n ≡ n + 1
    one = omega arith
channels_split domains n (port.Signal p) ps = ap (λ k. port_channels domains k ps) none
  where
    none : n ≡ n + 0
    none = omega arith

pub signals_next : (domains : List (List Mention)) (rest more : List (Port Name)) (p : Port Name) (whole a b : List SignalInfo) → rest ≡ p ∷ more → whole ≡ a ++ port_signals domains (length a) rest → b ≡ a ++ port_signals domains (length a) (p ∷ [])
    → whole ≡ b ++ port_signals domains (length b) more
signals_next domains rest more p whole a b e h s =
    h ∙ ap (λ l. a ++ port_signals domains (length a) l) e ∙ ap (λ l. a ++ l) (signals_split domains (length a) p more)
    ∙ sym (append_assoc a (port_signals domains (length a) (p ∷ [])) (port_signals domains (length a + length (port_signals domains (length a) (p ∷ []))) more))
    ∙ ap (λ k. (a ++ port_signals domains (length a) (p ∷ [])) ++ port_signals domains k more) (sym (length-append a (port_signals domains (length a) (p ∷ []))))
    ∙ ap (λ l. l ++ port_signals domains (length l) more) (sym s)

pub channels_next : (domains : List (List Mention)) (rest more : List (Port Name)) (p : Port Name) (whole a b : List ChannelInfo) → rest ≡ p ∷ more → whole ≡ a ++ port_channels domains (length a) rest → b ≡ a ++ port_channels domains (length a) (p ∷ [])
    → whole ≡ b ++ port_channels domains (length b) more
channels_next domains rest more p whole a b e h s =
    h ∙ ap (λ l. a ++ port_channels domains (length a) l) e ∙ ap (λ l. a ++ l) (channels_split domains (length a) p more)
    ∙ sym (append_assoc a (port_channels domains (length a) (p ∷ [])) (port_channels domains (length a + length (port_channels domains (length a) (p ∷ []))) more))
    ∙ ap (λ k. (a ++ port_channels domains (length a) (p ∷ [])) ++ port_channels domains k more) (sym (length-append a (port_channels domains (length a) (p ∷ []))))
    ∙ ap (λ l. l ++ port_channels domains (length l) more) (sym s)

pub same_channel : (n m : List ℕ) (k : Kind) (s t r q : ℕ) → n ≡ m → s ≡ t → r ≡ q → (let a : ChannelInfo = record { name = n; kind = k; sender = s; receiver = r } in a) ≡ (let b : ChannelInfo = record { name = m; kind = k; sender = t; receiver = q } in b)
same_channel n m k s t r q e f g =
    ap (λ x. let a : ChannelInfo = record { name = x; kind = k; sender = s; receiver = r } in a) e ∙ ap (λ x. let a : ChannelInfo = record { name = m; kind = k; sender = x; receiver = r } in a) f
    ∙ ap (λ x. let a : ChannelInfo = record { name = m; kind = k; sender = t; receiver = x } in a) g
