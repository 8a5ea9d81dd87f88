-- Statements and blocks, and their terms.
use Rattle.std.proofs.Common.{◌≡◌, ℕ, ◌≤◌, ℤ, drop, Bool, true, false, ◌&&◌, List, [], ◌∷◌, ◌++◌, length, map, Some, None, ap, refl, sym, ◌∙◌, subst, append_assoc, append-nil}
use Rattle.std.specs.Prelude.{Option, option_map}
use Rattle.java_values.specs.declared.kind.Kind.TheVariants.{Int}
use Rattle.kernel_terms.specs.declared.expr.Expr.{Expr}
use Rattle.kernel_terms.specs.declared.term.Term.{Term}
use Rattle.kernel_terms.specs.declared.term.Form as term_form
use Rattle.kernel_terms.specs.declared.tables.Tables.{Tables}
use Rattle.kernel_terms.specs.Divisors.{has_divisors, divisors_are_allowed}
use Rattle.kernel_terms.specs.Expressions.{Literal, expression}
use Rattle.kernel_terms.specs.Statements.{statement}
use Rattle.kernel_terms.specs.TableEntries.{signal_at, channel_at}
use Rattle.kernel_terms.specs.WellFormed.{can_emit, is_emission, is_sender_of, is_receiver_of, is_given, fits_statement}
use Rattle.kernel_terms.proofs.Layers.{statement-Loop}
use Rattle.sj_ast.specs.declared.statement.Form as form
use Rattle.sj_ast.specs.declared.statement.Block as block
use Rattle.sj_ast.specs.declared.statement.Form.TheFolds.{fold_out-Block}
use Rattle.sj_names.specs.definitions.FittingTrees.{Around, term_scope, Fitted, alone, stmts_fit, fits_stmt, fits_block}
use Rattle.java_types.specs.definitions.FittingKinds.{kind_rules}
use Rattle.java_types.specs.definitions.TypedTrees.{TypedStmt, TypedBlock}
use Rattle.sj_accept.specs.definitions.Optional.{all_some}
use Rattle.sj_accept.specs.BuiltTerms.{IsBuilt, AllFit, Fits, IsTermOf, IsTermOfBlock}
use Rattle.sj_accept.specs.definitions.Lowering.{block_of, int_of, int_expression, send_of, form_term, block_layer, stmt_layer, stmt_term, block_term}
use Rattle.sj_accept.specs.Lowered.{FitSoFar, StatementsReach, AreTerms, DomainsReach, AreTermsOf}
use Rattle.sj_accept.proofs.ListLemmas.{drop_end, reaches_start, reaches_more, reaches_none, reaches_end}
use Rattle.sj_accept.proofs.LiteralLemmas.{literal_of}
use Rattle.sj_accept.proofs.TermLemmas.{built-Nothing, built-Pause, built-Emit, built-Send, built-Receive, built-Loop, statement-Nothing, statement-Pause, statement-Emit, statement-Send, statement-Receive, literal_is, built_more, built_block, fit_more, fit_block}
use Rattle.sj_accept.proofs.FitLemmas.{fits-Empty, fits-Pause, fits-Emit, fits-Send, fits-Receive, fits-While, fits-Block}

both : (a b : Bool) → (a && b) ≡ true → (a ≡ true) × (b ≡ true)
both true b h = (refl, h)
both false b h = cc

and_true : (a b : Bool) → a ≡ true → b ≡ true → (a && b) ≡ true
and_true true b g h = h
and_true false b g h = g

-- the terms of single statements

around_of : (f : Fitted) (b : Bool) (a : Around) → f ≡ alone b a → f.around ≡ a
around_of f b a h = ap (λ (x : Fitted). x.around) h

fits_of : (f : Fitted) (b : Bool) (a : Around) → f ≡ alone b a → f.fits ≡ true → b ≡ true
fits_of f b a h g = ap (λ (x : Fitted). x.fits) (sym h) ∙ g

pub term_of_empty : (s : TypedStmt) (t : Term) → s.form ≡ form.Empty → t.form ≡ term_form.Nothing → IsTermOf s t
term_of_empty s t h k = record {
  built = built-Nothing t k;
  fits = λ x a f. record { keeps = ap (fits_statement x (term_scope a)) (statement-Nothing t k); divisors = ap divisors_are_allowed (statement-Nothing t k) };
  around = λ x a. around_of (fits_stmt x (kind_rules x) s a) true a (fits-Empty x (kind_rules x) s a h);
}

pub term_of_pause : (s : TypedStmt) (t : Term) → s.form ≡ form.Pause → t.form ≡ term_form.Pause → IsTermOf s t
term_of_pause s t h k = record {
  built = built-Pause t k;
  fits = λ x a f. record { keeps = ap (fits_statement x (term_scope a)) (statement-Pause t k); divisors = ap divisors_are_allowed (statement-Pause t k) };
  around = λ x a. around_of (fits_stmt x (kind_rules x) s a) true a (fits-Pause x (kind_rules x) s a h);
}

emission_fits : (a b : Bool) → (a && (b && true)) ≡ true → (a && b) ≡ true
emission_fits true true h = refl
emission_fits true false h = h
emission_fits false b h = h

pub term_of_emission : (s : TypedStmt) (t : Term) (at n : ℕ) → s.form ≡ form.Emit at n None → t.form ≡ term_form.Emit n None → IsTermOf s t
term_of_emission s t at n h k = record {
  built = built-Emit t n k;
  fits = λ x a f.
      record {
        keeps = ap (fits_statement x (term_scope a)) (statement-Emit t n k)
            ∙ emission_fits (can_emit x (term_scope a) n) (is_emission x (term_scope a) (signal_at x n).kind None) (fits_of (fits_stmt x (kind_rules x) s a) _ a (fits-Emit x (kind_rules x) s a at n h) f);
        divisors = ap divisors_are_allowed (statement-Emit t n k);
      };
  around = λ x a. around_of (fits_stmt x (kind_rules x) s a) _ a (fits-Emit x (kind_rules x) s a at n h);
}

pub term_of_reception : (s : TypedStmt) (t : Term) (at c : ℕ) → s.form ≡ form.Receive at c → t.form ≡ term_form.Receive c → IsTermOf s t
term_of_reception s t at c h k = record {
  built = built-Receive t c k;
  fits = λ x a f.
      record {
        keeps = ap (fits_statement x (term_scope a)) (statement-Receive t c k) ∙ fits_of (fits_stmt x (kind_rules x) s a) _ a (fits-Receive x (kind_rules x) s a at c h) f;
        divisors = ap divisors_are_allowed (statement-Receive t c k);
      };
  around = λ x a. around_of (fits_stmt x (kind_rules x) s a) _ a (fits-Receive x (kind_rules x) s a at c h);
}

pub term_of_sending : (s : TypedStmt) (t : Term) (at c : ℕ) (e : Expr) (n : ℤ) → s.form ≡ form.Send at c e → int_of (expression e) ≡ Some n → t.form ≡ term_form.Send c (int_expression n) → IsTermOf s t
term_of_sending s t at c e n h l k =
    let v = literal_is (int_expression n) n refl refl in
    let w = literal_of (expression e) n l in
    record {
      built = built-Send t c (int_expression n) n k v;
      fits = λ x a f.
          let g = both (is_sender_of x a.domain c) (is_given x (term_scope a) (channel_at x c).kind (expression e) && has_divisors (expression e)) (fits_of (fits_stmt x (kind_rules x) s a) _ a (fits-Send x (kind_rules x) s a at c e h) f) in
          let value = both (is_given x (term_scope a) (channel_at x c).kind (expression e)) (has_divisors (expression e)) g.1 in
          record {
            keeps = ap (fits_statement x (term_scope a)) (statement-Send t c (int_expression n) n k v)
                ∙ and_true (is_sender_of x a.domain c) (is_given x (term_scope a) (channel_at x c).kind (Literal Int n)) g.0 (ap (is_given x (term_scope a) (channel_at x c).kind) (sym w) ∙ value.0);
            divisors = ap divisors_are_allowed (statement-Send t c (int_expression n) n k v) ∙ ap has_divisors (sym w) ∙ value.1;
          };
      around = λ x a. around_of (fits_stmt x (kind_rules x) s a) _ a (fits-Send x (kind_rules x) s a at c e h);
    }

pub term_of_loop : (s : TypedStmt) (t : Term) (b : TypedBlock) (body : Term) → s.form ≡ form.While b → t.form ≡ term_form.Loop body → IsTermOfBlock b body → IsTermOf s t
term_of_loop s t b body h k i = record {
  built = built-Loop t body k i.built;
  fits = λ x a f.
      let inner = i.fits x a (fits_of (fits_stmt x (kind_rules x) s a) _ a (fits-While x (kind_rules x) s a b h) f) in
      record {
        keeps = ap (fits_statement x (term_scope a)) (statement-Loop t body k) ∙ inner.keeps;
        divisors = ap divisors_are_allowed (statement-Loop t body k) ∙ inner.divisors;
      };
  around = λ x a. around_of (fits_stmt x (kind_rules x) s a) _ a (fits-While x (kind_rules x) s a b h);
}

pub ruleset terms_of_statements = (term_of_empty, term_of_pause, term_of_emission, term_of_reception)

-- the term of a block is that of its statements

of_block : (b : TypedBlock) → block_term b ≡ option_map (block_of (block.out-Block ℕ Expr b).at) (all_some (map stmt_term (block.out-Block ℕ Expr b).statements))
of_block = fold_out-Block ℕ Expr (ℕ → Option Term) (Option Term) (Option Term) form_term block_layer stmt_layer

pub statements_start : (all : List TypedStmt) (ts : List Term) → ts ≡ [] → StatementsReach all all ts
statements_start all [] e = record { whole = reaches_start stmt_term all; built = tt; fit = λ t a h. record { terms_fit = tt; rest_fits = h } }
statements_start all (t ∷ ts) e = absurd (cc)

-- the first of the rest fits, and so do those behind it
rest_of : (x : Tables) (a : Around) (s : TypedStmt) (more : List TypedStmt) → (fits_stmt x (kind_rules x) s a).around ≡ a → stmts_fit (map (fits_stmt x (kind_rules x)) (s ∷ more)) a ≡ true
    → ((fits_stmt x (kind_rules x) s a).fits ≡ true) × (stmts_fit (map (fits_stmt x (kind_rules x)) more) a ≡ true)
rest_of x a s more e h =
    let b = both (fits_stmt x (kind_rules x) s a).fits (stmts_fit (map (fits_stmt x (kind_rules x)) more) (fits_stmt x (kind_rules x) s a).around) h in
    (b.0, subst (λ y. stmts_fit (map (fits_stmt x (kind_rules x)) more) y ≡ true) e b.1)

pub statements_more : (all rest more : List TypedStmt) (ts us : List Term) (s : TypedStmt) (t : Term) → rest ≡ s ∷ more → us ≡ ts ++ t ∷ [] → Some t ≡ stmt_term s → IsTermOf s t → StatementsReach all rest ts → StatementsReach all more us
statements_more all rest more ts us s t e u h b r = record {
  whole = rw u (reaches_more stmt_term all rest more ts s t e (sym h) r.whole);
  built = built_more ts us t u r.built b.built;
  fit = λ x a f.
      let g = r.fit x a f in
      let n = rest_of x a s more (b.around x a) (subst (λ l. stmts_fit (map (fits_stmt x (kind_rules x)) l) a ≡ true) e g.rest_fits) in
      record { terms_fit = fit_more x a ts us t u g.terms_fit (b.fits x a n.0); rest_fits = n.1 };
}

pub statements_none : (b : TypedBlock) (all rest more : List TypedStmt) (ts : List Term) (s : TypedStmt) → all ≡ (block.out-Block ℕ Expr b).statements → rest ≡ s ∷ more → None ≡ stmt_term s → StatementsReach all rest ts → None ≡ block_term b
statements_none b all rest more ts s a e h r =
    sym (of_block b ∙ ap (λ l. option_map (block_of (block.out-Block ℕ Expr b).at) (all_some (map stmt_term l))) (sym a) ∙ ap (option_map (block_of (block.out-Block ℕ Expr b).at)) (reaches_none stmt_term all rest more ts s e (sym h) r.whole))

pub statements_end : (b : TypedBlock) (all : List TypedStmt) (n : ℕ) (ts : List Term) (t : Term) → all ≡ (block.out-Block ℕ Expr b).statements → length all ≤ n → t ≡ block_of (block.out-Block ℕ Expr b).at ts → StatementsReach all (drop n all) ts
    → Some t ≡ block_term b
statements_end b all n ts t a l e r =
    ap Some e
    ∙ sym (of_block b ∙ ap (λ k. option_map (block_of (block.out-Block ℕ Expr b).at) (all_some (map stmt_term k))) (sym a)
    ∙ ap (option_map (block_of (block.out-Block ℕ Expr b).at)) (reaches_end stmt_term all (drop n all) ts (ap length (drop_end all n l)) r.whole))

pub term_of_block : (b : TypedBlock) (all rest : List TypedStmt) (at : ℕ) (ts : List Term) (t : Term) → all ≡ (block.out-Block ℕ Expr b).statements → t ≡ block_of at ts → StatementsReach all rest ts → IsTermOfBlock b t
term_of_block b all rest at ts t s e r = record {
  built = rw e (built_block at ts r.built);
  fits = λ x a f.
      subst (Fits x a) (sym e)
      (fit_block x a at ts
      (r.fit x a (subst (λ l. stmts_fit (map (fits_stmt x (kind_rules x)) l) a ≡ true) (sym s) (fits_of (fits_block x (kind_rules x) b a) _ a (fits-Block x (kind_rules x) b a) f))).terms_fit);
}

-- domains

pub domains_start : (all : List TypedBlock) (ts : List Term) → ts ≡ [] → DomainsReach all all ts
domains_start all [] e = record { done = []; split = refl; whole = reaches_start block_term all; terms_of = tt }
domains_start all (t ∷ ts) e = absurd (cc)

terms_push : (bs : List TypedBlock) (ts : List Term) (b : TypedBlock) (t : Term) → AreTerms bs ts → IsTermOfBlock b t → AreTerms (bs ++ b ∷ []) (ts ++ t ∷ [])
terms_push [] [] b t a i = (i, tt)
terms_push [] (u ∷ ts) b t a i = absurd a
terms_push (c ∷ bs) [] b t a i = absurd a
terms_push (c ∷ bs) (u ∷ ts) b t a i = (a.0, terms_push bs ts b t a.1 i)

pub domains_more : (all rest more : List TypedBlock) (ts us : List Term) (b : TypedBlock) (t : Term) → rest ≡ b ∷ more → us ≡ ts ++ t ∷ [] → Some t ≡ block_term b → IsTermOfBlock b t → DomainsReach all rest ts → DomainsReach all more us
domains_more all rest more ts us b t e u h i r = record {
  done = r.done ++ b ∷ [];
  split = r.split ∙ ap (λ l. r.done ++ l) e ∙ sym (append_assoc r.done (b ∷ []) more);
  whole = rw u (reaches_more block_term all rest more ts b t e (sym h) r.whole);
  terms_of = subst (AreTerms (r.done ++ b ∷ [])) (sym u) (terms_push r.done ts b t r.terms_of i);
}

pub domains_none : (all rest more : List TypedBlock) (ts : List Term) (b : TypedBlock) → rest ≡ b ∷ more → None ≡ block_term b → DomainsReach all rest ts → all_some (map block_term all) ≡ None
domains_none all rest more ts b e h r = reaches_none block_term all rest more ts b e (sym h) r.whole

pub domains_end : (all : List TypedBlock) (n : ℕ) (ts : List Term) → length all ≤ n → DomainsReach all (drop n all) ts → AreTermsOf all ts
domains_end all n ts l r = record {
  is = reaches_end block_term all (drop n all) ts (ap length (drop_end all n l)) r.whole;
  terms_of = subst (λ x. AreTerms x ts) (sym (r.split ∙ ap (λ x. r.done ++ x) (drop_end all n l) ∙ append-nil r.done)) r.terms_of;
}
